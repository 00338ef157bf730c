use Rattle.fixed_points.proofs.PowerLemmas.{image_letter_at}
use Rattle.fixed_points.proofs.laws.fixed_points_are_fixed.Goals as goal

pub returns : goal.returns
returns c = λ rules k place digit letter other has at small is. image_letter_at rules k has place digit letter other at small is
