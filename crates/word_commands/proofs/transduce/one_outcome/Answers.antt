use Rattle.word_commands.proofs.TransduceSoundness.{transduce_sound}
use Rattle.word_commands.proofs.transduce.one_outcome.Goals as goal

pub returns : goal.returns
returns c = λ limit ledger text. (transduce_sound limit ledger text).single
