-- Which pairs of a state and a sink are known.
use Rattle.std.specs.Prelude.{◌≡◌, ◌==◌, ℕ, ◌-◌, ◌<◌, Bool, true, false, List, length, map, slice_index_or, if◌then◌else◌}
use Rattle.std.specs.List.{Contains, range_with_len}
use Rattle.digit_tuple.specs.Deterministic.{states_of}
use Rattle.product_op.specs.DeadExits.{IsReaderAt, LeadsOut}
use Rattle.product_op.specs.DeadPairs.{ArePair}
use Rattle.product_op.specs.Readings.{Reading, part_read, reading_at, reading_in, readings_in, state_at, next_key}
use Rattle.product_op.specs.declared.dead_pairs.Marks.{Marks}
use Rattle.product_op.specs.declared.leaving.Leaving.{Leaving}

-- the sinks of all automata
abbrev pub all_sinks : List Reading → List ℕ
all_sinks readings = map (λ i. states_of (reading_at readings i).automaton) (range_with_len 0 (length readings))

-- the state of one automaton, and the sinks of all others
abbrev pub beside_sinks : List Reading → ℕ → ℕ → List ℕ
beside_sinks readings own state = map (λ i. if i == own then state else states_of (reading_at readings i).automaton) (range_with_len 0 (length readings))

-- a mark for each state of an automaton: beside sinks the marked states are among the keys
pub record AreMarked (readings : List Reading) (own : ℕ) (marks : List Bool) (keys : List (List ℕ)) : Type 0 where
  pub count : length marks ≡ states_of (reading_at readings own).automaton
  pub there : (state : ℕ) → slice_index_or marks state false ≡ true → Contains keys (beside_sinks readings own state)

-- what all marks say
pub record AreMarks (readings : List Reading) (marks : Marks) (keys : List (List ℕ)) : Type 0 where
  pub first : AreMarked readings 0 marks.first.items keys
  pub second : AreMarked readings 1 marks.second.items keys
  pub both : marks.both ≡ true → Contains keys (all_sinks readings)

-- from the key letters lead the other automaton to its sink
abbrev pub OtherOut : List Reading → ℕ → List ℕ → ℕ → Type 0
OtherOut readings own key a = LeadsOut (reading_at readings (1 - own)) (state_at key (1 - own)) a

-- of two readers the other is at its state in the key
pub record IsLeaving (l : Leaving) : Type 0 where
  pub pair : ArePair l.graph.letters l.graph.op (readings_in l.graph.readers.now)
  pub own : l.own < 2
  pub other : IsReaderAt l.other.now
  pub reader : reading_in l.other.now.reader.now ≡ reading_at (readings_in l.graph.readers.now) (1 - l.own)
  pub state : l.other.now.state ≡ state_at l.key.now (1 - l.own)

-- all that letters with the part lead to from the key are there, where these lead the other to its sink
abbrev pub HoldBeside : ℕ → List Reading → ℕ → List ℕ → ℕ → List (List ℕ) → Type 0
HoldBeside letters readings own key part keys =
    (a : ℕ) → a < letters → part_read (reading_at readings own) a ≡ part → OtherOut readings own key a → Contains keys (next_key readings key a)
