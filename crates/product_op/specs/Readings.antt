-- Automata that read parts of letters side by side; a key has a state of each. The sink of an automaton, where missing transitions lead, is
-- the number past its states.
use Rattle.std.specs.Prelude.{◌≡◌, ℕ, ◌<◌, ◌≤◌, Bool, false, not, ◌&&◌, List, [], length, map, drop, slice_index_or}
use Rattle.std.specs.List.{All, list_all, range_with_len}
use Rattle.digit_tuple.specs.Deterministic.{Automaton, IsTable, states_of, letters_of, accepting_of, accepts_of}
use Rattle.residual_classes.specs.Classes.{next_of, first_of}
use Rattle.minimise.specs.Canonical.{IsCanonical}
use Rattle.product_op.specs.Connectives.{connective}
use Rattle.minimise.specs.Residuals.{SameAfter}
use Rattle.product_op.specs.declared.rule.Rule.{Rule}
use Rattle.product_op.specs.declared.rule.Rule.TheVariants.{Both, NotFirst}
use Rattle.product_op.specs.declared.rule.Rule.TheVariants as rules
use Rattle.product_op.specs.declared.reader.Reader.{Reader}

-- an automaton, and the part of each letter that it reads
pub record Reading : Type 0 where
  pub automaton : Automaton
  pub parts : List ℕ

abbrev pub reading_in : Reader → Reading
reading_in reader = record { automaton = reader.dfa.now; parts = reader.parts }

abbrev pub readings_in : List Reader → List Reading
readings_in readers = map reading_in readers

-- the automata of all
abbrev pub automata_in : List Reading → List Automaton
automata_in readings = map (λ r. r.automaton) readings

-- the reading that is taken where there is none
abbrev pub no_reading : Reading
no_reading = record { automaton = record { sizes = []; states = [] }; parts = [] }

abbrev pub reading_at : List Reading → ℕ → Reading
reading_at readings i = slice_index_or readings i no_reading

-- the parts of a letter and of a word that are read
abbrev pub part_read : Reading → ℕ → ℕ
part_read r a = slice_index_or r.parts a 0

abbrev pub word_read : Reading → List ℕ → List ℕ
word_read r w = map (part_read r) w

-- the automaton reads a letter for each letter
pub record IsReading (letters : ℕ) (r : Reading) : Type 0 where
  pub table : IsTable (letters_of r.automaton) r.automaton.states
  pub count : length r.parts ≡ letters
  pub within : All (λ p. p < letters_of r.automaton) r.parts

abbrev pub AreReadings : ℕ → List Reading → Type 0
AreReadings letters readings = All (IsReading letters) readings

-- each automaton is canonical
abbrev pub AreCanonical : List Reading → Type 0
AreCanonical readings = All (λ r. IsCanonical r.automaton) readings

abbrev pub state_at : List ℕ → ℕ → ℕ
state_at key i = slice_index_or key i 0

abbrev pub first_key : List Reading → List ℕ
first_key readings = map (λ r. first_of r.automaton) readings

-- where a letter leads from each state
abbrev pub next_key : List Reading → List ℕ → ℕ → List ℕ
next_key readings key a =
    map (λ i. next_of (reading_at readings i).automaton (state_at key i) (part_read (reading_at readings i) a)) (range_with_len 0 (length readings))

-- whether each state accepts
abbrev pub flags_at : List Reading → List ℕ → List Bool
flags_at readings key = map (λ i. accepting_of (reading_at readings i).automaton (state_at key i)) (range_with_len 0 (length readings))

-- whether each automaton accepts its part of a word
abbrev pub flags_of : List Reading → List ℕ → List Bool
flags_of readings w = map (λ r. accepts_of r.automaton (word_read r w)) readings

abbrev pub all_true : List Bool → Bool
all_true flags = list_all (λ flag. flag) flags

abbrev pub flag_at : List Bool → ℕ → Bool
flag_at flags i = slice_index_or flags i false

-- what the rule says of the flags
abbrev pub combined : Rule → List Bool → Bool
combined (Both op) flags = connective op (flag_at flags 0) (flag_at flags 1) && all_true (drop 2 flags)
combined rules.All flags = all_true flags
combined NotFirst flags = not (flag_at flags 0) && all_true (drop 1 flags)

-- how many arguments the rule has
abbrev pub arguments_of : Rule → ℕ
arguments_of (Both op) = 2
arguments_of rules.All = 0
arguments_of NotFirst = 1

-- a state of each automaton, or its sink
pub record AreStates (readings : List Reading) (key : List ℕ) : Type 0 where
  pub count : length key ≡ length readings
  pub within : (i : ℕ) → i < length readings → state_at key i ≤ states_of (reading_at readings i).automaton

-- the automata and the rule may be combined
pub record AreSideBySide (letters : ℕ) (readings : List Reading) (rule : Rule) : Type 0 where
  pub readings_are : AreReadings letters readings
  pub enough : arguments_of rule ≤ length readings

-- each automaton has one residual after its parts of both words
abbrev pub AreAlike : List Reading → List ℕ → List ℕ → Type 0
AreAlike readings w v = (i : ℕ) → i < length readings → SameAfter (reading_at readings i).automaton (word_read (reading_at readings i) w) (word_read (reading_at readings i) v)
