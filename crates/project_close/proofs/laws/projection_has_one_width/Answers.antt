use Rattle.digit_tuple.proofs.WidthLemmas.{IsOneWidth-equivalence}
use Rattle.project_close.specs.Projection.{ProjectionAlike}
use Rattle.project_close.proofs.WidthLaws.{IsEquivalence-projection}
use Rattle.project_close.proofs.laws.projection_has_one_width.Goals as goal

pub returns : goal.returns
returns c d places direction letters = IsOneWidth-equivalence (ProjectionAlike d places direction) letters (IsEquivalence-projection d places direction)
