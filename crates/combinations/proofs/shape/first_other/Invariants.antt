use Rattle.std.proofs.Common.{ℕ, ◌<◌}
use Rattle.combinations.specs.Parts.{systems_at}
use Rattle.combinations.specs.Shapes.{HaveSameTracks}
use Rattle.combinations.proofs.shape.first_other.Given as goal

abbrev pub invariant-loop-place : goal.invariant-loop-place
invariant-loop-place l = (k : ℕ) → k < l.place → HaveSameTracks (systems_at l.parts 0) (systems_at l.parts k)
