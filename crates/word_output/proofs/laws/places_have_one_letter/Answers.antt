use Rattle.word_output.proofs.PlaceLaws.{one_letter}
use Rattle.word_output.proofs.laws.places_have_one_letter.Goals as goal

pub returns : goal.returns
returns c = one_letter
