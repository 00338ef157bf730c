use Rattle.command_head.specs.Grammar.{DerivesAlone}
use Rattle.command_parts.proofs.HeadSteps.{head_unread}
use Rattle.session_cli.proofs.answering.alone.Goals as goal

pub returns-in-Err : goal.returns-in-Err
returns-in-Err c = rw c.from.ensures (head_unread (DerivesAlone c.args.word.now) (λ done. done) c.args.text.now c.in-Err.fault c.in-Err.ensures)
