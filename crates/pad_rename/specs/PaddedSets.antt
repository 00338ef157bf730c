-- Sets of states as keys of the closure under leading zeros. The empty list is the first set, after zeros alone.
use Rattle.std.specs.Prelude.{◌≡◌, ◌==◌, ℕ, zero, suc, ◌<◌, ◌↔◌, Bool, not, List, [], ◌∷◌, Option, None, Some, MatchOption, ⊤}
use Rattle.std.proofs.Common.{arith}
use Rattle.std.specs.List.{All, AllPairs, Contains}
use Rattle.digit_tuple.specs.Automaton as branching
use Rattle.digit_tuple.specs.Automaton.{Branching}
use Rattle.digit_tuple.specs.Deterministic.{Automaton, states_of}
use Rattle.digit_tuple.specs.Keys.{KeyTransition}
use Rattle.digit_tuple.specs.Paddings.{zeros}
use Rattle.determinise.specs.Subsets.{IsStateSet, set_after, has_accepting}
use Rattle.determinise.specs.SubsetLaws.{after_is_state_set}
use Rattle.residual_classes.specs.Classes.{first_of}
use Rattle.minimise.proofs.LeadLemmas.{lead}

-- states in order, or none
pub record IsStateList (n : Branching) (set : List ℕ) : Type 0 where
  pub in_range : All (λ q. q < branching.states_of n) set
  pub ascending : AllPairs (λ p q. p < q) set

-- the set has the states that some number of zero letters leads to from where the empty word does, in order
pub record AreFirst (d : Automaton) (set : List ℕ) : Type 0 where
  pub ascending : AllPairs (λ p q. p < q) set
  pub members : (q : ℕ) → Contains set q ↔ ((q < states_of d) × ((k : ℕ) × (lead d (first_of d) (zeros k) ≡ q)))

-- where a letter leads: zeros stay, and other words lead from the first set on
abbrev pub padded_after : Branching → List ℕ → List ℕ → ℕ → Option (List ℕ)
padded_after n first [] zero = Some []
padded_after n first [] (suc a) = set_after n first (suc a)
padded_after n first (q ∷ qs) a = set_after n (q ∷ qs) a

-- whether a state of the set accepts
abbrev pub padded_accepts : Branching → List ℕ → List ℕ → Bool
padded_accepts n first [] = has_accepting n first
padded_accepts n first (q ∷ qs) = has_accepting n (q ∷ qs)

-- the transition by the zero letter to the empty list, if there is such a letter
abbrev pub transitions_by_zero : ℕ → List KeyTransition
transitions_by_zero zero = []
transitions_by_zero (suc letters) = (record { letter = 0; key = [] }) ∷ []

-- the letter of the transition is not zero
abbrev pub is_by_other : KeyTransition → Bool
is_by_other transition = not (transition.letter == 0)

-- the empty list
pub nothing_is_state_list : (n : Branching) → IsStateList n []
nothing_is_state_list n = record { in_range = λ k d within. absurd (omega arith); ascending = λ i j d before within. absurd (omega arith) }

-- what a letter leads to
pub padded_after_is_state_list : (n : Branching) (first key : List ℕ) (a : ℕ) → MatchOption (padded_after n first key a) ⊤ (IsStateList n)
padded_after_is_state_list n first [] zero = nothing_is_state_list n
padded_after_is_state_list n first [] (suc a) = by (set_after n first (suc a)) (after_is_state_set n first (suc a))
  where
    by : (o : Option (List ℕ)) → MatchOption o ⊤ (IsStateSet n) → MatchOption o ⊤ (IsStateList n)
    by None is = tt
    by (Some set) is = record { in_range = is.in_range; ascending = is.ascending }
padded_after_is_state_list n first (q ∷ qs) a = by (set_after n (q ∷ qs) a) (after_is_state_set n (q ∷ qs) a)
  where
    by : (o : Option (List ℕ)) → MatchOption o ⊤ (IsStateSet n) → MatchOption o ⊤ (IsStateList n)
    by None is = tt
    by (Some set) is = record { in_range = is.in_range; ascending = is.ascending }
