-- Automata that hold of tuples of numbers.
use Rattle.std.specs.Prelude.{◌≡◌, ℕ, ◌+◌, ◌<◌, List, [], ◌∷◌, IsTrue, ◌↔◌}
use Rattle.digit_tuple.specs.Letters.{IsWord}
use Rattle.digit_tuple.specs.Paddings.{in_order}
use Rattle.digit_tuple.specs.Deterministic.{Automaton, accepts_of}
use Rattle.digit_tuple.specs.declared.direction.Direction.{Direction}
use Rattle.std.specs.declared.cmp.Ordering.{Ordering}
use Rattle.std.specs.declared.cmp.Ordering.TheVariants.{Less, Equal, Greater}
use Rattle.numeration.specs.Systems.{System}
use Rattle.numeration.specs.Representation.{Represents, letters_in, sizes_of}

-- the automaton accepts the valid words
pub record IsLanguageOf (direction : Direction) (s : System) (d : Automaton) : Type 0 where
  pub sizes : d.sizes ≡ s.digits ∷ []
  pub accepts : (w : List ℕ) → accepts_of d w ≡ s.test (in_order direction w)

-- the automaton accepts the words that represent a tuple of which the relation holds
pub record HoldsOf (direction : Direction) (ss : List System) (holds : List ℕ → Type 0) (d : Automaton) : Type 0 where
  pub sizes : d.sizes ≡ sizes_of ss
  pub accepts : (w : List ℕ) → IsWord (letters_in ss) w → IsTrue (accepts_of d w) ↔ ((ns : List ℕ) × Represents ss (in_order direction w) ns × holds ns)

-- the third number is the sum of the first two
abbrev pub IsSum : List ℕ → Type 0
IsSum ns = (x : ℕ) × (y : ℕ) × (ns ≡ x ∷ y ∷ (x + y) ∷ [])

-- the automaton adds numbers of the system
abbrev pub IsAdderOf : Direction → System → Automaton → Type 0
IsAdderOf direction s d = HoldsOf direction (s ∷ s ∷ s ∷ []) IsSum d

-- the numbers compare so
abbrev pub IsCompared : Ordering → ℕ → ℕ → Type 0
IsCompared Less x y = x < y
IsCompared Equal x y = x ≡ y
IsCompared Greater x y = y < x

-- there are two numbers, which are related
abbrev pub IsPairOf : (ℕ → ℕ → Type 0) → List ℕ → Type 0
IsPairOf related ns = (x : ℕ) × (y : ℕ) × (ns ≡ x ∷ y ∷ []) × related x y

-- the first number is less than the second
abbrev pub IsLess : List ℕ → Type 0
IsLess ns = IsPairOf (λ x y. x < y) ns

-- the two numbers are equal
abbrev pub IsEqual : List ℕ → Type 0
IsEqual ns = IsPairOf (λ x y. x ≡ y) ns

-- the number is 0
abbrev pub IsZero : List ℕ → Type 0
IsZero ns = ns ≡ 0 ∷ []

-- the automaton holds of pairs in order, of equal pairs, of 0
abbrev pub IsOrderOf : Direction → System → Automaton → Type 0
IsOrderOf direction s d = HoldsOf direction (s ∷ s ∷ []) IsLess d

abbrev pub IsEqualityOf : Direction → System → Automaton → Type 0
IsEqualityOf direction s d = HoldsOf direction (s ∷ s ∷ []) IsEqual d

abbrev pub IsZeroOf : Direction → System → Automaton → Type 0
IsZeroOf direction s d = HoldsOf direction (s ∷ []) IsZero d
