use Rattle.word_images.proofs.PlaceLemmas.{images_are_joined}
use Rattle.word_images.proofs.laws.images_are_joined.Goals as goal

pub returns : goal.returns
returns c = images_are_joined
