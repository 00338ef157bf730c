use Rattle.std.proofs.Common.{codes, refl}
use Rattle.command_head.specs.Grammar.{DerivesNamed}
use Rattle.command_head.specs.HeadViews.{named_view}
use Rattle.command_parts.specs.HeadAnswers.{fault_of_head}
use Rattle.command_parts.proofs.HeadSteps.{head_unread}
use Rattle.session_cli.proofs.TextSteps.{macro_changed, macro_failed, macro_unread}
use Rattle.session_cli.proofs.texts.macro_change.Goals as goal

pub returns-in-Ok-text_made : goal.returns-in-Ok-text_made
returns-in-Ok-text_made c = λ ledger shown. macro_changed ledger c.args.text.now shown (named_view c.in-Ok.field-0) _ c.in-Ok.ensures refl refl c.in-Ok-text_made.ensures

pub returns-in-Err-text_made : goal.returns-in-Err-text_made
returns-in-Err-text_made c = λ ledger shown. macro_failed ledger c.args.text.now (named_view c.in-Ok.field-0) c.in-Err-text_made.fault c.in-Ok.ensures c.in-Err-text_made.ensures

pub returns-in-Err : goal.returns-in-Err
returns-in-Err c = rw c.from.ensures (λ ledger shown. macro_unread ledger c.args.text.now (fault_of_head c.in-Err.fault) (head_unread (DerivesNamed (codes "macro")) named_view c.args.text.now c.in-Err.fault c.in-Err.ensures))
