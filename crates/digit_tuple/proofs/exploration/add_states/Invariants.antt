use Rattle.std.proofs.Common.{◌≡◌, ◌≤◌, ◌<◌, ◌-◌, true, length}
use Rattle.std.specs.List.{All}
use Rattle.digit_tuple.specs.Exploring.{IsExploring}
use Rattle.digit_tuple.proofs.exploration.add_states.Given as goal

abbrev pub invariant-explore : goal.invariant-explore
invariant-explore g l = record {
  few : length l.keys ≤ l.limit.most;
  room : l.gap ≡ true → length l.keys < l.limit.most;
  valid : All (g.G.KeyGraph.is_key l.graph) l.keys;
  sizes : l.states.sizes ≡ l.fn.states.sizes;
  explored : length l.states.states ≤ length l.keys;
  exploring : IsExploring (g.G.KeyGraph.letters l.graph) (g.G.KeyGraph.start l.graph) (g.G.KeyGraph.after l.graph) (g.G.KeyGraph.accepts l.graph) l.keys l.states.states l.gap;
}

abbrev pub decreases-explore : goal.decreases-explore
decreases-explore g l = l.limit.most - length l.states.states
