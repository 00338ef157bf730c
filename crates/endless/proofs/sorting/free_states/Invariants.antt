use Rattle.endless.specs.Counts.{AreFree}
use Rattle.endless.proofs.sorting.free_states.Given as goal

abbrev pub invariant-loop-state : goal.invariant-loop-state
invariant-loop-state l = AreFree l.pending l.order.items l.state
