-- Keys whose states are all sinks, and where letters lead when such a key is no key.
use Rattle.std.specs.Prelude.{ℕ, ◌==◌, Bool, false, not, ◌&&◌, List, length, replicate, Option, None, Some, if◌then◌else◌}
use Rattle.std.specs.List.{list_all, range_with_len}
use Rattle.digit_tuple.specs.Deterministic.{states_of}
use Rattle.product_op.specs.declared.rule.Rule.{Rule}
use Rattle.product_op.specs.Readings.{Reading, reading_at, state_at, next_key, combined}

-- whether each state is its automaton's sink
abbrev pub are_sinks : List Reading → List ℕ → Bool
are_sinks readings key = list_all (λ i. state_at key i == states_of (reading_at readings i).automaton) (range_with_len 0 (length readings))

-- whether the rule refuses where none of so many automata accepts
abbrev pub refuses_all_sinks : Rule → ℕ → Bool
refuses_all_sinks rule count = not (combined rule (replicate count false))

-- whether no word is accepted from the key: its states are sinks, and the rule refuses there
abbrev pub is_dead_key : Rule → List Reading → List ℕ → Bool
is_dead_key rule readings key = refuses_all_sinks rule (length readings) && are_sinks readings key

-- the key, unless no word is accepted from it
abbrev pub live_key : Rule → List Reading → List ℕ → Option (List ℕ)
live_key rule readings key = if is_dead_key rule readings key then None else Some key

-- where a letter leads from a key, unless no word is accepted there
abbrev pub live_key_after : Rule → List Reading → List ℕ → ℕ → Option (List ℕ)
live_key_after rule readings key a = live_key rule readings (next_key readings key a)
