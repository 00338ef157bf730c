-- Pairs of states from which a connective accepts no word, since a state that it needs is a sink, and where letters lead when such a pair is no key.
use Rattle.std.specs.Prelude.{◌≡◌, ◌==◌, ℕ, Bool, true, false, not, ◌&&◌, ◌||◌, List, length, Option, None, Some, if◌then◌else◌}
use Rattle.digit_tuple.specs.Deterministic.{states_of}
use Rattle.residual_classes.specs.Classes.{next_of}
use Rattle.product_op.specs.declared.op.Op.{Op}
use Rattle.product_op.specs.declared.rule.Rule.TheVariants.{Both}
use Rattle.product_op.specs.Connectives.{connective}
use Rattle.product_op.specs.Readings.{Reading, AreReadings, reading_at, part_read, state_at, next_key, flags_at, combined}

-- whether the connective refuses wherever the first refuses
abbrev pub needs_first : Op → Bool
needs_first op = not (connective op false true) && not (connective op false false)

-- whether it refuses wherever the second refuses
abbrev pub needs_second : Op → Bool
needs_second op = not (connective op true false) && not (connective op false false)

-- whether the state at this place is its automaton's sink
abbrev pub is_sink_at : List Reading → List ℕ → ℕ → Bool
is_sink_at readings key i = state_at key i == states_of (reading_at readings i).automaton

-- whether a state that the connective needs, which needs the first one, is a sink
abbrev pub is_dead_pair : Op → List Reading → List ℕ → Bool
is_dead_pair op readings key = is_sink_at readings key 0 || (needs_second op && is_sink_at readings key 1)

-- the pair, unless it is dead
abbrev pub live_pair : Op → List Reading → List ℕ → Option (List ℕ)
live_pair op readings key = if is_dead_pair op readings key then None else Some key

-- where a letter leads from a pair, unless that is dead
abbrev pub live_pair_after : Op → List Reading → List ℕ → ℕ → Option (List ℕ)
live_pair_after op readings key a = live_pair op readings (next_key readings key a)

-- whether the connective accepts where the states do
abbrev pub pair_accepts : Op → List Reading → List ℕ → Bool
pair_accepts op readings key = combined (Both op) (flags_at readings key)

-- two automata, and a connective that needs the first
pub record ArePair (letters : ℕ) (op : Op) (readings : List Reading) : Type 0 where
  pub readings_are : AreReadings letters readings
  pub count : length readings ≡ 2
  pub needed : needs_first op ≡ true

-- whether a letter leads on from a state
abbrev pub leads_on : Reading → ℕ → ℕ → Bool
leads_on r state a = not (next_of r.automaton state (part_read r a) == states_of r.automaton)
