-- Letters that lead from state to state, without the zeros of one state.
use Rattle.std.specs.Prelude.{◌≡◌, ℕ, suc, ◌<◌, Bool, true, [], ◌∷◌, Some}
use Rattle.digit_tuple.specs.Deterministic.{Automaton, states_of, step_of, accepting_of, accepts_from}

-- the word of one zero is accepted from the state if and only if the empty word is
abbrev pub IgnoresZero : Automaton → ℕ → Type 0
IgnoresZero d q = accepts_from d q (0 ∷ []) ≡ accepting_of d q

-- the letter leads from p to q, and is not the zero of the state z
abbrev pub IsLink : Automaton → ℕ → ℕ → ℕ → ℕ → Type 0
IsLink d z p a q = (step_of d p a ≡ Some q) × ¬ ((p ≡ z) × (a ≡ 0))

-- each state has a place, and places rise along links
pub record HasPlaces (d : Automaton) (z : ℕ) : Type 0 where
  pub place : ℕ → ℕ
  pub below : (q : ℕ) → q < states_of d → place q < states_of d
  pub rises : (p a q : ℕ) → p < states_of d → q < states_of d → IsLink d z p a q → place p < place q

-- there are states to each of which a link leads from one of them
pub record HasRound (d : Automaton) (z : ℕ) : Type 0 where
  pub is_on : ℕ → Bool
  pub some : ℕ
  pub within : some < states_of d
  pub on : is_on some ≡ true
  pub from : (q : ℕ) → q < states_of d → is_on q ≡ true → (p : ℕ) × (a : ℕ) × (p < states_of d) × (is_on p ≡ true) × IsLink d z p a q

-- only words of zeros are accepted from the state: it accepts, and its one transition is by 0 to itself
pub record IsEnd (d : Automaton) (q : ℕ) : Type 0 where
  pub accepts : accepting_of d q ≡ true
  pub loop : step_of d q 0 ≡ Some q
  pub alone : (a q' : ℕ) → ¬ (step_of d q (suc a) ≡ Some q')

-- the state is the only such one, or there is none and the number is past the states
pub record IsEndState (d : Automaton) (z : ℕ) : Type 0 where
  pub end : z < states_of d → IsEnd d z
  pub only : (q : ℕ) → q < states_of d → IsEnd d q → q ≡ z
