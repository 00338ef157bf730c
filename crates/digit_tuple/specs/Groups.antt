-- Transitions gathered by their letters.
use Rattle.std.specs.Prelude.{◌≡◌, ◌==◌, ℕ, List, [], ◌∷◌, Option, None, Some, map, filter}
use Rattle.std.specs.List.{All, AllPairs, Contains}
use Rattle.digit_tuple.specs.declared.transitions.Transition.{Transition}
use Rattle.digit_tuple.specs.Keys.{KeyTransition, key_by, IsByEarlier}

-- the list, unless it is empty
abbrev pub some_set : List ℕ → Option (List ℕ)
some_set [] = None
some_set (q ∷ qs) = Some (q ∷ qs)

-- the targets of the transitions by the letter
abbrev pub targets_by : List Transition → ℕ → List ℕ
targets_by transitions letter = map (λ transition. transition.target) (filter (λ transition. transition.letter == letter) transitions)

-- the groups are by the letters of the transitions, in order, and each leads to the targets of the transitions by its letter
pub record AreGroups (transitions : List Transition) (groups : List KeyTransition) : Type 0 where
  pub letters : All (λ group. (transition : Transition) × Contains transitions transition × (transition.letter ≡ group.letter)) groups
  pub ascending : AllPairs IsByEarlier groups
  pub keys : (letter : ℕ) → key_by groups letter ≡ some_set (targets_by transitions letter)
