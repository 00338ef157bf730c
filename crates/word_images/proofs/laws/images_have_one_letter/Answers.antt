use Rattle.word_images.proofs.PlaceLemmas.{images_have_one_letter}
use Rattle.word_images.proofs.laws.images_have_one_letter.Goals as goal

pub returns : goal.returns
returns c = images_have_one_letter
