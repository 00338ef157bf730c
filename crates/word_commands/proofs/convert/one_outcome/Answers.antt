use Rattle.word_commands.proofs.ConvertSoundness.{convert_sound}
use Rattle.word_commands.proofs.convert.one_outcome.Goals as goal

pub returns : goal.returns
returns c = λ limit ledger text. (convert_sound limit ledger text).single
