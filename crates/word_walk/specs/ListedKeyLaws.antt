-- The keys that letters lead to are keys.
use Rattle.std.specs.Prelude.{ℕ, ◌<◌, Bool, true, false, List, [], ◌∷◌, Option, None, Some, ⊤, MatchOption, if◌then◌else◌}
use Rattle.std.proofs.Common.{refl}
use Rattle.std.specs.Option.{option_map, IfSome}
use Rattle.digit_tuple.specs.Deterministic.{Automaton, IsTable, letters_of, states_of, step_of, transitions_of}
use Rattle.digit_tuple.specs.declared.direction.Direction.{Direction}
use Rattle.digit_tuple.proofs.DfaLemmas.{target_by-in_range}
use Rattle.residual_classes.proofs.SinkLemmas.{row_of}
use Rattle.word_walk.specs.ListedKeys.{IsKey, key_after, goes_on, mark_after, mark_in, state_in}

pub start_is_key : (d : Automaton) → IsTable (letters_of d) d.states → IsKey d (0 ∷ 0 ∷ [])
start_is_key d table = record { two = refl; state = table.initial }

pub after_is_key : (d : Automaton) (skip : Option Direction) → IsTable (letters_of d) d.states → (key : List ℕ) (a : ℕ) → MatchOption (key_after d skip key a) ⊤ (IsKey d)
after_is_key d skip table key a = by (goes_on skip (mark_in key) a) (step_of d (state_in key) a) (target_by-in_range (letters_of d) (states_of d) (transitions_of d (state_in key)) a (row_of d table (state_in key)).in_range)
  where
    by : (goes : Bool) (o : Option ℕ) → IfSome o (λ t. t < states_of d) → MatchOption (if goes then option_map (λ q. q ∷ mark_after skip a ∷ []) o else None) ⊤ (IsKey d)
    by false o inside = tt
    by true None inside = tt
    by true (Some t) inside = record { two = refl; state = inside }
