use Rattle.std.proofs.Common.{◌≡◌, ℕ, ◌<◌, false, length, get_or, take}
use Rattle.word_walk.specs.FewStates.{has_state}
use Rattle.word_walk.proofs.few_states.flags_of.Given as goal

abbrev pub invariant-loop-state : goal.invariant-loop-state
invariant-loop-state l = record {
  width : length l.flags.items ≡ l.count;
  flag_is : (q : ℕ) → q < l.count → get_or l.flags.items q false ≡ has_state (take l.state-index l.states) q;
}
