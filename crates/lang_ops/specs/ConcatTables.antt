-- The nondeterministic automaton of a concatenation.
use Rattle.std.specs.Prelude.{◌≡◌, ◌↔◌, ◌⊎◌, ◌++◌, ℕ, true, false, List, Option, Some, map}
use Rattle.std.specs.List.{Contains}
use Rattle.std.specs.Option.{MatchOption}
use Rattle.digit_tuple.specs.Automaton as branching
use Rattle.digit_tuple.specs.Automaton.{Branch, Branching, IsBranchTable}
use Rattle.digit_tuple.specs.Deterministic.{Automaton, accepting_of, states_of}
use Rattle.determinise.specs.Subsets.{IsStateSet}
use Rattle.minimise.specs.Residuals.{IsDead}
use Rattle.lang_ops.specs.LinkedRows.{AreLinkedRows}
use Rattle.lang_ops.specs.ShiftedRows.{shifted_state}

-- the link is to the second automaton's initial state, after the states of the first, unless the second accepts no word
abbrev pub IsConcatLink : Automaton → Automaton → Option ℕ → Type 0
IsConcatLink a b link = MatchOption link (IsDead b 0) (λ state. (state ≡ states_of a) × ¬ IsDead b 0)

-- the states of the first automaton with their links, and after them those of the second, of which the accepting ones accept
pub record IsConcatTable (a b : Automaton) (link : Option ℕ) (n : Branching) : Type 0 where
  pub sizes : n.sizes ≡ a.sizes
  pub prefix : List Branch
  pub rows : AreLinkedRows a link false prefix (states_of a)
  pub states : n.states ≡ prefix ++ map (shifted_state (states_of a)) b.states
  pub table : IsBranchTable (branching.letters_of n) n.states

-- words begin at the first automaton's initial state, and if that accepts also at the link
pub record AreConcatStarts (a : Automaton) (link : Option ℕ) (n : Branching) (first : List ℕ) : Type 0 where
  pub set : IsStateSet n first
  pub members : (q : ℕ) → Contains first q ↔ ((q ≡ 0) ⊎ ((accepting_of a 0 ≡ true) × (link ≡ Some q)))
