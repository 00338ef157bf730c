-- States that are given by flags and by rows.
use Rattle.std.proofs.Common.{◌≡◌, ℕ, ◌+◌, zero, suc, Bool, false, List, [], ◌∷◌, ◌++◌, length, get_or, refl, sym, ap, ◌∙◌, arith}
use Rattle.std.specs.List.{sum_by}
use Rattle.std.proofs.lemmas.List.Sums.{sum_by-cons}
use Rattle.digit_tuple.specs.CellCounts.{cells_of}
use Rattle.digit_tuple.specs.Deterministic.{State, no_state}
use Rattle.digit_tuple.specs.DfaRows.{flagged}
use Rattle.digit_tuple.specs.Reflagged.{AreReflagged}
use Rattle.digit_tuple.specs.declared.transitions.Transition.{Transition}

pub length-flagged : (flags : List Bool) (rows : List (List Transition)) → length flags ≡ length rows → length (flagged flags rows) ≡ length rows
length-flagged [] [] same = refl
length-flagged [] (row ∷ rows) same = absurd (omega (arith, same))
length-flagged (flag ∷ flags) [] same = absurd (omega (arith, same))
length-flagged (flag ∷ flags) (row ∷ rows) same = omega (arith, length-flagged flags rows (omega (arith, same)))

-- one more state
pub flagged-push : (flags : List Bool) (rows : List (List Transition)) (flag : Bool) (row : List Transition) → length flags ≡ length rows
    → flagged (flags ++ flag ∷ []) (rows ++ row ∷ []) ≡ flagged flags rows ++ (record { accepting = flag; transitions = row }) ∷ []
flagged-push [] [] flag row same = refl
flagged-push [] (r ∷ rows) flag row same = absurd (omega (arith, same))
flagged-push (f ∷ flags) [] flag row same = absurd (omega (arith, same))
flagged-push (f ∷ flags) (r ∷ rows) flag row same = ap (λ (ss : List State). (record { accepting = f; transitions = r }) ∷ ss) (flagged-push flags rows flag row (omega (arith, same)))

-- the transitions of a state are those of its row, and it accepts as its flag says
pub flagged-transitions : (flags : List Bool) (rows : List (List Transition)) (q : ℕ) → length flags ≡ length rows → (get_or (flagged flags rows) q no_state).transitions ≡ get_or rows q []
flagged-transitions [] [] q same = refl
flagged-transitions [] (row ∷ rows) q same = absurd (omega (arith, same))
flagged-transitions (flag ∷ flags) [] q same = absurd (omega (arith, same))
flagged-transitions (flag ∷ flags) (row ∷ rows) zero same = refl
flagged-transitions (flag ∷ flags) (row ∷ rows) (suc q) same = flagged-transitions flags rows q (omega (arith, same))

pub flagged-accepting : (flags : List Bool) (rows : List (List Transition)) (q : ℕ) → length flags ≡ length rows → (get_or (flagged flags rows) q no_state).accepting ≡ get_or flags q false
flagged-accepting [] [] q same = refl
flagged-accepting [] (row ∷ rows) q same = absurd (omega (arith, same))
flagged-accepting (flag ∷ flags) [] q same = absurd (omega (arith, same))
flagged-accepting (flag ∷ flags) (row ∷ rows) zero same = refl
flagged-accepting (flag ∷ flags) (row ∷ rows) (suc q) same = flagged-accepting flags rows q (omega (arith, same))

-- other flags by the same rows
pub AreReflagged-flags : (old new : List Bool) (rows : List (List Transition)) → length old ≡ length rows → length new ≡ length rows → AreReflagged new (flagged old rows) (flagged new rows)
AreReflagged-flags old new rows before after = record {
  count = length-flagged new rows after ∙ sym (length-flagged old rows before);
  transitions = λ q. flagged-transitions new rows q after ∙ sym (flagged-transitions old rows q before);
  accepting = λ q within. flagged-accepting new rows q after;
}

-- the transitions and the cells of all states are those of all rows
pub transitions-flagged : (flags : List Bool) (rows : List (List Transition)) → length flags ≡ length rows → sum_by (λ (s : State). length s.transitions) (flagged flags rows) ≡ sum_by length rows
transitions-flagged [] [] same = refl
transitions-flagged [] (row ∷ rows) same = absurd (omega (arith, same))
transitions-flagged (flag ∷ flags) [] same = absurd (omega (arith, same))
transitions-flagged (flag ∷ flags) (row ∷ rows) same =
    let state : State = record { accepting = flag; transitions = row } in
    sum_by-cons (λ (s : State). length s.transitions) state (flagged flags rows) ∙ ap (λ n. length row + n) (transitions-flagged flags rows (omega (arith, same))) ∙ sym (sum_by-cons length row rows)

pub cells-flagged : (sizes : List ℕ) (flags : List Bool) (rows : List (List Transition)) → length flags ≡ length rows → sum_by (λ (s : State). cells_of sizes s.transitions) (flagged flags rows) ≡ sum_by (cells_of sizes) rows
cells-flagged sizes [] [] same = refl
cells-flagged sizes [] (row ∷ rows) same = absurd (omega (arith, same))
cells-flagged sizes (flag ∷ flags) [] same = absurd (omega (arith, same))
cells-flagged sizes (flag ∷ flags) (row ∷ rows) same =
    let state : State = record { accepting = flag; transitions = row } in
    sum_by-cons (λ (s : State). cells_of sizes s.transitions) state (flagged flags rows) ∙ ap (λ n. cells_of sizes row + n) (cells-flagged sizes flags rows (omega (arith, same))) ∙ sym (sum_by-cons (cells_of sizes) row rows)
