use Rattle.std.proofs.Common.{◌≡◌, map, take}
use Rattle.project_close.specs.Image.{relabelled_transition}
use Rattle.project_close.proofs.image.relabelled.Given as goal

abbrev pub invariant-loop-transition : goal.invariant-loop-transition
invariant-loop-transition l = l.new.items ≡ map (relabelled_transition l.parts) (take l.transition-index l.transitions)
