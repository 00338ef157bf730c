use Rattle.std.proofs.Common.{codes, refl}
use Rattle.command_head.specs.Grammar.{DerivesNamed}
use Rattle.command_head.specs.HeadViews.{named_view}
use Rattle.definitions.specs.Trees.{custom_of}
use Rattle.command_parts.specs.HeadAnswers.{fault_of_head}
use Rattle.command_parts.proofs.HeadSteps.{head_unread}
use Rattle.session_cli.proofs.TextSteps.{morphism_changed, morphism_failed, morphism_unread}
use Rattle.session_cli.proofs.texts.morphism_change.Goals as goal

pub returns-in-Ok-rules_made : goal.returns-in-Ok-rules_made
returns-in-Ok-rules_made c = λ ledger shown. morphism_changed ledger c.args.text.now shown (named_view c.in-Ok.field-0) _ c.in-Ok.ensures refl refl (c.in-Ok-rules_made.ensures (custom_of ledger) c.in-Ok.field-0.name shown)

pub returns-in-Err-rules_made : goal.returns-in-Err-rules_made
returns-in-Err-rules_made c = λ ledger shown. morphism_failed ledger c.args.text.now (named_view c.in-Ok.field-0) c.in-Err-rules_made.fault c.in-Ok.ensures (c.in-Err-rules_made.ensures (custom_of ledger) c.in-Ok.field-0.name shown)

pub returns-in-Err : goal.returns-in-Err
returns-in-Err c = rw c.from.ensures (λ ledger shown. morphism_unread ledger c.args.text.now (fault_of_head c.in-Err.fault) (head_unread (DerivesNamed (codes "morphism")) named_view c.args.text.now c.in-Err.fault c.in-Err.ensures))
