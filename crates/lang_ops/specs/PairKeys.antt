-- Keys of two states.
use Rattle.std.specs.Prelude.{ℕ, Bool, List, slice_index}
use Rattle.digit_tuple.specs.Deterministic.{Automaton, accepting_of}
use Rattle.product_op.specs.Connectives.{connective}
use Rattle.product_op.specs.declared.op.Op.{Op}

-- what the connective says of whether the two states of the key accept
abbrev pub key_holds : Op → Automaton → Automaton → List ℕ → Bool
key_holds op a b key = connective op (accepting_of a (slice_index key 0)) (accepting_of b (slice_index key 1))
