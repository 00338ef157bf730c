-- Automata at whose initial state zeros stay. Their language is closed under leading zeros.
use Rattle.std.specs.Prelude.{◌≡◌, ℕ, ◌<◌, Bool, true, ◌↔◌, None, Some}
use Rattle.digit_tuple.specs.Deterministic.{Automaton, letters_of, step_of}

-- the zero letter leads from the initial state to itself
abbrev pub ZerosStay : Automaton → Type 0
ZerosStay d = step_of d 0 0 ≡ Some 0

-- from one of the first so many states a transition leads to the initial one, other than the zero letter's from there
abbrev pub HasReturn : Automaton → ℕ → Type 0
HasReturn d count = (q : ℕ) × ((a : ℕ) × (q < count) × (step_of d q a ≡ Some 0) × ¬ ((q ≡ 0) × (a ≡ 0)))

-- from one of the first so many states a letter leads nowhere
abbrev pub HasGap : Automaton → ℕ → Type 0
HasGap d count = (q : ℕ) × ((a : ℕ) × (q < count) × (a < letters_of d) × (step_of d q a ≡ None))

-- what was found of the first so many states: whether another word than zeros leads back to the initial one, and whether some word leads nowhere
pub record AreEnds (d : Automaton) (count : ℕ) (returns gap : Bool) : Type 0 where
  pub returns_is : (returns ≡ true) ↔ HasReturn d count
  pub gap_is : (gap ≡ true) ↔ HasGap d count
