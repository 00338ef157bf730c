-- The law of images that commands cite.
use Rattle.word_commands.specs.OneImage.{ImagesHaveOneOutcome}
use Rattle.word_commands.proofs.ImageOutcomeLemmas.{one_outcome}

-- the image of a word has one outcome
pub one_image_outcome : ImagesHaveOneOutcome
one_image_outcome = one_outcome
