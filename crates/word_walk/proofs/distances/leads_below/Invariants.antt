use Rattle.std.proofs.Common.{◌≡◌, drop}
use Rattle.word_walk.specs.Distances.{leads_below}
use Rattle.word_walk.proofs.distances.leads_below.Given as goal

abbrev pub invariant-loop-transition : goal.invariant-loop-transition
invariant-loop-transition l = leads_below l.distances l.row l.bound ≡ leads_below l.distances (drop l.transition-index l.row) l.bound
