-- The transitions of one state, and the tables by which those that share a tuple with a further one are found.
use Rattle.std.specs.Prelude.{◌≡◌, ℕ, ◌<◌, ◌==◌, Bool, true, ◌&&◌, not, if◌then◌else◌, List, [], ◌∷◌, ◌++◌, map, fold, length, slice_index_or, Option, None, Some}
use Rattle.std.specs.List.{All, list_any}
use Rattle.dfa_reading.specs.Conflicts.{share_tuple}
use Rattle.dfa_reading.specs.StarTables.{masked, same_stars, same_digits, targets_at, joined, StarTable, no_table}
use Rattle.dfa_reading.specs.declared.star_table.Targets.{Targets}
use Rattle.dfa_reading.specs.declared.transitions.Transition.{Transition as TransitionRead}

-- a transition: its digits, and the number of its target
abbrev pub Transition : Type 0
Transition = List (Option ℕ) × ℕ

abbrev pub transition_view : TransitionRead → Transition
transition_view transition = (transition.digits.items, transition.target)

abbrev pub transitions_in : List TransitionRead → List Transition
transitions_in transitions = map transition_view transitions

-- no transition that shares a tuple with the digits has another target
abbrev pub agrees : List Transition → List (Option ℕ) → ℕ → Bool
agrees list digits target = not (list_any (λ t. share_tuple digits t.0 && not (t.1 == target)) list)

-- a transition to each target is added to the list, and each agrees with those before it
abbrev pub agree_all : List Transition → List (Option ℕ) → List ℕ → Bool
agree_all list digits [] = true
agree_all list digits (target ∷ targets) = agrees list digits target && agree_all (list ++ (digits, target) ∷ []) digits targets

-- a transition by the digits to each target
abbrev pub to_each : List (Option ℕ) → List ℕ → List Transition
to_each digits targets = map (λ target. (digits, target)) targets

-- The targets of the transitions that have these digits where the pattern has digits. Nobody has to believe this and what follows: it
-- serves the search for conflicts.
abbrev pub with_transition : List (Option ℕ) → List (Option ℕ) → Option Targets → Transition → Option Targets
with_transition pattern digits found t = if same_digits digits (masked t.0 pattern) then Some (joined found t.1) else found

abbrev pub targets_over : List Transition → List (Option ℕ) → List (Option ℕ) → Option Targets
targets_over list pattern digits = fold (with_transition pattern digits) None list

-- the table has the targets of these transitions
abbrev pub IsTableOf : List Transition → StarTable → Type 0
IsTableOf list table = (digits : List (Option ℕ)) → targets_at table.entries digits ≡ targets_over list table.pattern digits

-- each table is of these transitions, and for each transition there is one for its stars
pub record AreIndexed (list : List Transition) (tables : List StarTable) : Type 0 where
  pub tables_of : All (IsTableOf list) tables
  pub covered : All (λ t. list_any (λ table. same_stars t.0 table.pattern) tables ≡ true) list

-- the table at the place is for the stars of the digits
pub record IsOwnTable (digits : List (Option ℕ)) (tables : List StarTable) (place : ℕ) : Type 0 where
  pub within : place < length tables
  pub stars : same_stars digits (slice_index_or tables place no_table).pattern ≡ true
