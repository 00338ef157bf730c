use Rattle.word_commands.proofs.PromoteSoundness.{promote_sound}
use Rattle.word_commands.proofs.promote.one_outcome.Goals as goal

pub returns : goal.returns
returns c = λ limit ledger text. (promote_sound limit ledger text).single
