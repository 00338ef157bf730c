-- Rounds of an exploration.
use Rattle.std.proofs.Common.{◌≡◌, ℕ, ◌<◌, ◌≤◌, Bool, true, List, [], ◌∷◌, ◌++◌, length, Option, ◌⊎◌}
use Rattle.std.specs.List.{All, AllPairs}
use Rattle.digit_tuple.specs.Deterministic.{State, IsByEarlier}
use Rattle.digit_tuple.specs.Keys.{KeyTransition, AreKeyTransitions}
use Rattle.digit_tuple.specs.Explored.{AreNumbered, key_at}
use Rattle.digit_tuple.specs.Exploring.{IsStateOf, IsExploring}
use Rattle.digit_tuple.proofs.KeyTransitionLemmas.{IsStateFrom, IsStateFrom-written}
use Rattle.digit_tuple.proofs.FrontierLemmas.{IsStateOf-tried, IsTrail-are, AreTried, AreTried-transitions}
use Rattle.digit_tuple.proofs.ExploredLemmas.{IsExploring-row}

module _ (letters : ℕ) (start : List ℕ) (after : List ℕ → ℕ → Option (List ℕ)) (accepts : List ℕ → Bool) where
  -- a round makes the state of the first key that has none, and numbers the keys that its transitions lead to
  pub record IsRound (keys new : List (List ℕ)) (states : List State) (state : State) (gap : Bool) : Type 0 where
    pub from : IsStateFrom letters (after (key_at keys (length states))) (accepts (key_at keys (length states))) keys new state
    pub in_range : All (λ transition. transition.letter < letters) state.transitions
    pub ascending : AllPairs IsByEarlier state.transitions
    pub exploring : IsExploring letters start after accepts new (states ++ state ∷ []) gap

  pub IsRound-written : (keys new : List (List ℕ)) (states : List State) (state : State) (gap now : Bool) (key : List ℕ) (key_transitions : List KeyTransition)
      → IsExploring letters start after accepts keys states gap → length states < length keys → key ≡ key_at keys (length states)
      → AreKeyTransitions letters (after key) key_transitions → AreNumbered key_transitions state.transitions keys new → state.accepting ≡ accepts key
      → ((length state.transitions < letters) × (now ≡ true)) ⊎ ((letters ≤ length state.transitions) × (now ≡ gap)) → IsRound keys new states state now
  IsRound-written keys new states state gap now key key_transitions e here same are numbered accepting short = record {
    from = from;
    in_range = λ k d within. (row.in_range k d within).0;
    ascending = row.ascending;
    exploring = IsExploring-row letters start after accepts keys new states state gap now e here from short;
  }
    where
      from : IsStateFrom letters (after (key_at keys (length states))) (accepts (key_at keys (length states))) keys new state
      from = IsStateFrom-written letters after accepts keys new (key_at keys (length states)) key key_transitions state.accepting state.transitions same are numbered accepting

      tried : AreTried letters start after keys e.firsts new (length states) from.key_transitions state.transitions
      tried = AreTried-transitions letters start after from.key_transitions state.transitions keys e.firsts new (length states) 0 e.frontier here (IsTrail-are letters start after (key_at keys (length states)) from.key_transitions from.are) from.numbered

      row : IsStateOf letters after accepts new tried.more (length states) state
      row = IsStateOf-tried letters start after accepts keys new tried.more (length states) from.key_transitions state (tried.keys_grow.same (length states) here) from.are tried.led from.accepting_is
