-- Tuples of states that words lead automata to that read side by side.
use Rattle.std.specs.Prelude.{◌≡◌, ℕ, ◌<◌, true, List, length, map, MatchOption}
use Rattle.std.specs.List.{All}
use Rattle.digit_tuple.specs.Deterministic.{Automaton, states_of, run_of}
use Rattle.digit_tuple.specs.Explored.{key_at}
use Rattle.digit_tuple.specs.Letters.{IsWord}
use Rattle.residual_classes.specs.Classes.{first_of}
use Rattle.minimise.proofs.LeadLemmas.{lead}
use Rattle.product_op.specs.Readings.{Reading, AreStates, word_read}
use Rattle.product_op.specs.SinkKeys.{are_sinks}

-- where a word leads each automaton: to its sink where a transition is missing
abbrev pub tuple_after : List Reading → List ℕ → List ℕ
tuple_after readings w = map (λ r. lead r.automaton (first_of r.automaton) (word_read r w)) readings

-- both words lead each automaton to one state
abbrev pub LeadToOne : List Reading → List ℕ → List ℕ → Type 0
LeadToOne readings w v = tuple_after readings w ≡ tuple_after readings v

-- A word leads the automaton to the state whose key is where it leads the others. It leads to none only where it leads these to their
-- sinks.
pub record AreTuples (letters : ℕ) (readings : List Reading) (keys : List (List ℕ)) (d : Automaton) : Type 0 where
  pub count : length keys ≡ states_of d
  pub states : All (AreStates readings) keys
  pub leads : (w : List ℕ) → IsWord letters w → MatchOption (run_of d 0 w) (are_sinks readings (tuple_after readings w) ≡ true) (λ q. (q < states_of d) × (key_at keys q ≡ tuple_after readings w))
