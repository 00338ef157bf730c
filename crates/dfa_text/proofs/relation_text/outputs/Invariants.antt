use Rattle.std.proofs.Common.{◌≡◌, map}
use Rattle.std.specs.List.{range_with_len}
use Rattle.digit_tuple.specs.Deterministic.{accepting_of}
use Rattle.dfa_text.specs.RelationText.{output_listed}
use Rattle.dfa_text.proofs.relation_text.outputs.Given as goal

abbrev pub invariant-loop-state : goal.invariant-loop-state
invariant-loop-state l = l.outputs.items ≡ map (λ q. output_listed (accepting_of l.d q)) (range_with_len 0 l.state)
