use Rattle.project_close.specs.Image.{AreFlagsAt}
use Rattle.project_close.proofs.image.flags_at.Given as goal

abbrev pub invariant-loop-place : goal.invariant-loop-place
invariant-loop-place l = AreFlagsAt l.count l.flags.items l.places l.place-index
