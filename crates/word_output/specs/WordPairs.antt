-- The step that compares the letters of two words, whose tracks are under names: tracks of one name are one track.
use Rattle.std.specs.Prelude.{◌≡◌, ◌↔◌, ℕ, ◌<◌, ℤ, List, [], ◌++◌, length, slice_index_or, Option, Some, IsTrue}
use Rattle.digit_tuple.specs.Deterministic.{accepts_of}
use Rattle.digit_tuple.specs.Letters.{product, IsWord}
use Rattle.digit_tuple.specs.Names.{joint_names, places_of}
use Rattle.digit_tuple.specs.Parts.{part, picked}
use Rattle.digit_tuple.specs.declared.kind.Kind.TheVariants as kinds
use Rattle.minimise.specs.Canonical.{IsCanonical}
use Rattle.minimise.specs.Tracked.{NamedAutomaton}
use Rattle.num_system.specs.declared.comparison.Comparison.{Comparison}
use Rattle.automaton_steps.specs.Makings.{Making}
use Rattle.word_output.specs.LetterFunctions.{LetterFunctionValue, IsLetterFunction, letter_after}
use Rattle.word_output.specs.LetterSets.{ComparesLetters}

-- a letter function, and a name for each of its tracks
pub record PlacedLetters : Type 0 where
  pub function : LetterFunctionValue
  pub under : List (List ℕ)

-- the names of the tracks of both, in byte order, each once
abbrev pub pair_names : PlacedLetters → PlacedLetters → List (List ℕ)
pair_names a b = joint_names a.under b.under

-- the sizes of the tracks of both, in the order of their names: each that of the first track of its name
abbrev pub pair_sizes : PlacedLetters → PlacedLetters → List ℕ
pair_sizes a b = picked (places_of (a.under ++ b.under) (pair_names a b)) (a.function.automaton.sizes ++ b.function.automaton.sizes)

-- there is a name for each track, and tracks of one name have one size
pub record MayPair (a b : PlacedLetters) : Type 0 where
  pub first : IsLetterFunction a.function
  pub second : IsLetterFunction b.function
  pub first_names : length a.under ≡ length a.function.automaton.sizes
  pub second_names : length b.under ≡ length b.function.automaton.sizes
  pub agree : (i j : ℕ) → i < length (a.under ++ b.under) → j < length (a.under ++ b.under) → slice_index_or (a.under ++ b.under) i [] ≡ slice_index_or (a.under ++ b.under) j []
      → slice_index_or (a.function.automaton.sizes ++ b.function.automaton.sizes) i 0 ≡ slice_index_or (a.function.automaton.sizes ++ b.function.automaton.sizes) j 0

-- the letter of what is read in a word over tracks of these names and sizes: on each track the digits of the track of its name
abbrev pub letter_read : List (List ℕ) → List ℕ → PlacedLetters → List ℕ → Option ℤ
letter_read names sizes p w = letter_after p.function (part sizes (places_of names p.under) w)

-- what follows both words is read with the same letters, of the one function and of the other
pub record PairAlike (a b : PlacedLetters) (w v : List ℕ) : Type 0 where
  pub first : (u : List ℕ) → IsWord (product (pair_sizes a b)) u → letter_read (pair_names a b) (pair_sizes a b) a (w ++ u) ≡ letter_read (pair_names a b) (pair_sizes a b) a (v ++ u)
  pub second : (u : List ℕ) → IsWord (product (pair_sizes a b)) u → letter_read (pair_names a b) (pair_sizes a b) b (w ++ u) ≡ letter_read (pair_names a b) (pair_sizes a b) b (v ++ u)

-- the canonical automaton of the words in which two letters are read that compare so
pub record IsPair (comparison : Comparison) (a b : PlacedLetters) (paired : NamedAutomaton) : Type 0 where
  pub names : paired.names ≡ pair_names a b
  pub sizes : paired.automaton.sizes ≡ pair_sizes a b
  pub canonical : IsCanonical paired.automaton
  pub language : (w : List ℕ) → IsWord (product (pair_sizes a b)) w → IsTrue (accepts_of paired.automaton w)
      ↔ ((x : ℤ) × (y : ℤ) × (letter_read (pair_names a b) (pair_sizes a b) a w ≡ Some x) × (letter_read (pair_names a b) (pair_sizes a b) b w ≡ Some y) × ComparesLetters comparison x y)

-- the step
abbrev pub pair_step : Comparison → PlacedLetters → PlacedLetters → Making NamedAutomaton
pair_step comparison a b = record {
  step = record { kind = kinds.Product; sizes = pair_sizes a b; alike = PairAlike a b };
  automaton_of = λ paired. paired.automaton;
  IsMade = IsPair comparison a b;
}
