use Rattle.digit_tuple.specs.Rows.{branches_in}
use Rattle.project_close.proofs.ImageLemmas.{AreImageRows}
use Rattle.project_close.proofs.image.image.Given as goal

abbrev pub invariant-loop-state : goal.invariant-loop-state
invariant-loop-state l = AreImageRows l.d l.accepting l.parts (branches_in l.rows.items) l.state
