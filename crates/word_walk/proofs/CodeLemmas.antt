-- What the code's levels and rows say of first transitions.
use Rattle.std.proofs.Common.{◌≡◌, ℕ, suc, ◌+◌, ◌-◌, ◌<◌, Bool, List, [], length, get_or, drop, Some, sym, ap, ◌∙◌, subst, arith}
use Rattle.std.proofs.lemmas.List.{get_or_default, length-drop}
use Rattle.digit_tuple.specs.Deterministic.{Automaton, IsTable, letters_of, states_of, transitions_of}
use Rattle.digit_tuple.specs.declared.transitions.Transition.{Transition}
use Rattle.digit_tuple.proofs.DfaLemmas.{row_at}
use Rattle.determinise.proofs.ReversalLemmas.{run_of-in_range}
use Rattle.word_walk.specs.Levels.{AreLevels, IsLevel, first_live}
use Rattle.word_walk.specs.Raising.{path_of}
use Rattle.word_walk.proofs.FindLemmas.{find_first}
use Rattle.word_walk.proofs.LevelLemmas.{is_live, target_within}
use Rattle.word_walk.proofs.PathLemmas.{length-path_of, path_of-at}
use Rattle.std.proofs.Common.{take}

-- the level that was read at a place
pub IsLevel-read : (d : Automaton) (levels : List (List Bool)) (m : ℕ) (flags : List Bool) → AreLevels d levels → m < length levels → flags ≡ get_or levels m flags → IsLevel d m flags
IsLevel-read d levels m flags are within read = subst (IsLevel d m) (sym (read ∙ get_or_default levels m flags [] within)) (are m within)

module _ (d : Automaton) (table : IsTable (letters_of d) d.states) where
  pub first_live-within : (m from q : ℕ) (e : Transition) → q < states_of d → first_live d m from (transitions_of d q) ≡ Some e → e.target < states_of d
  first_live-within m from q e within is = target_within d table q within e (find_first (is_live d m from) (transitions_of d q) e (row_at d q table within).ascending is).there

  module _ (w : List ℕ) (k : ℕ) (within : k < length (path_of d 0 w)) where
    pub state_within : get_or (path_of d 0 w) k 0 < states_of d
    state_within = run_of-in_range d table (take k w) 0 (get_or (path_of d 0 w) k 0) table.initial (path_of-at d w 0 k within)

    -- the first transition by a greater letter
    pub first_live-greater : (m from p : ℕ) (row : List Transition) → m ≡ length w - 1 - k → from ≡ suc (get_or w k 0) → p ≡ get_or (path_of d 0 w) k 0 → row ≡ transitions_of d p
        → first_live d m from row ≡ first_live d (length (drop (k + 1) w)) (suc (get_or w k 0)) (transitions_of d (get_or (path_of d 0 w) k 0))
    first_live-greater m from p row rest greater here is =
        let sizes : m ≡ length (drop (k + 1) w) = omega (arith, rest, length-drop (k + 1) w, within, length-path_of d w 0) in
        ap (first_live d m from) is
        ∙ ap (λ n. first_live d n from (transitions_of d p)) sizes
        ∙ ap (λ n. first_live d (length (drop (k + 1) w)) n (transitions_of d p)) greater
        ∙ ap (λ q. first_live d (length (drop (k + 1) w)) (suc (get_or w k 0)) (transitions_of d q)) here
