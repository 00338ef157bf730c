use Rattle.word_commands.proofs.ImageSoundness.{image_sound}
use Rattle.word_commands.proofs.image.one_outcome.Goals as goal

pub returns : goal.returns
returns c = λ limit ledger text. (image_sound limit ledger text).single
