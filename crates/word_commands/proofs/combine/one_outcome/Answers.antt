use Rattle.word_commands.proofs.CombineSoundness.{combine_sound}
use Rattle.word_commands.proofs.combine.one_outcome.Goals as goal

pub returns : goal.returns
returns c = λ limit ledger text. (combine_sound limit ledger text).single
