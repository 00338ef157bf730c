-- Words lead in the table of an expression's letters to the places of their last marks.
use Rattle.std.proofs.Common.{◌≡◌, ℕ, zero, suc, List, [], ◌∷◌, ◌++◌, refl, sym, subst, append_assoc, append-nil}
use Rattle.std.specs.List.{AllZip}
use Rattle.digit_tuple.specs.Automaton.{Branching, Path}
use Rattle.determinise.specs.Subsets.{Alike}
use Rattle.regex_build.specs.Expression.{Expression, occurrences_in, placed}
use Rattle.regex_build.specs.Matches.{Matches}
use Rattle.regex_build.specs.Positions.{IsWritten, IsPositionTable}
use Rattle.regex_build.specs.LastMarks.{IsLastMark, SameLastMarks}
use Rattle.regex_build.proofs.ListSteps.{zip-append}
use Rattle.regex_build.proofs.Merging.{merged}

-- the last of the elements has one beside it
zip_last : {X Y : Type 0} (R : X → Y → Type 0) (xs : List X) (x : X) (ys : List Y) → AllZip R (xs ++ x ∷ []) ys → (y : Y) × R x y
zip_last R [] x [] zip = absurd zip
zip_last R [] x (y ∷ ys) zip = (y, zip.0)
zip_last R (z ∷ xs) x [] zip = absurd zip
zip_last R (z ∷ xs) x (y ∷ ys) zip = zip_last R xs x ys zip.1

module _ {L : Type 0} (code : L → ℕ → Type 0) (e : Expression L) where
  -- the places of last marks are counted from 1
  unmarked_zero : (w : List ℕ) → IsLastMark code e w 0 → ⊥
  unmarked_zero w mark = (zip_last (IsWritten code (occurrences_in e)) mark.before 0 w mark.written).1

  module _ (n : Branching) (table : IsPositionTable code e n) where
    -- a path goes on from the last mark of a word
    mark_after : (u : List ℕ) (p : ℕ) (w : List ℕ) (q : ℕ) → IsLastMark code e u p → Path n p w q → IsLastMark code e (u ++ w) q
    mark_after u p [] q mark path =
        let P : ℕ → Type 0 = λ r. IsLastMark code e u r in
        let Q : List ℕ → Type 0 = λ x. IsLastMark code e x q in
        subst Q (sym (append-nil u)) (subst P path mark)
    mark_after u zero (a ∷ w) q mark path = absurd (unmarked_zero u mark)
    mark_after u (suc i) (a ∷ w) q mark path =
        let step = (table.leads (suc i) a path.0).0 path.1 in
        let P : List ℕ → Type 0 = λ x. Matches (placed 1 e) x in
        let Q : List ℕ → Type 0 = λ x. IsLastMark code e x q in
        let next : IsLastMark code e (u ++ a ∷ []) path.0 = record {
          before = mark.before ++ suc i ∷ [];
          after = step.0.1;
          matches = subst P (sym (append_assoc mark.before (suc i ∷ []) (path.0 ∷ step.0.1)))
              (merged 1 e (suc i) mark.before mark.after step.0.0 (path.0 ∷ step.0.1) mark.matches step.0.2);
          written = zip-append (IsWritten code (occurrences_in e)) (mark.before ++ suc i ∷ []) u (path.0 ∷ []) (a ∷ []) mark.written (step.1, tt);
        } in
        subst Q (append_assoc u (a ∷ []) w) (mark_after (u ++ a ∷ []) path.0 w q next path.2)

    mark_from_path : (a : ℕ) (w : List ℕ) (q : ℕ) → Path n 0 (a ∷ w) q → IsLastMark code e (a ∷ w) q
    mark_from_path a w q path =
        let step = (table.leads 0 a path.0).0 path.1 in
        let first : IsLastMark code e (a ∷ []) path.0 = record { before = []; after = step.0.0; matches = step.0.1; written = (step.1, tt) } in
        mark_after (a ∷ []) path.0 w q first path.2

    -- a match leads on from one of its places to a later one
    path_after : (u : List ℕ) (i : ℕ) (before : List ℕ) (q : ℕ) (after w : List ℕ) → Matches (placed 1 e) (u ++ suc i ∷ (before ++ q ∷ after))
        → AllZip (IsWritten code (occurrences_in e)) (before ++ q ∷ []) w → Path n (suc i) w q
    path_after u i [] q after [] m zip = absurd zip
    path_after u i [] q after (a ∷ []) m zip = (q, (table.leads (suc i) a q).1 ((u, after, m), zip.0), refl)
    path_after u i [] q after (a ∷ b ∷ w) m zip = absurd zip.1
    path_after u i (place ∷ before) q after [] m zip = absurd zip
    path_after u i (zero ∷ before) q after (a ∷ w) m zip = absurd zip.0
    path_after u i (suc k ∷ before) q after (a ∷ w) m zip =
        let P : List ℕ → Type 0 = λ x. Matches (placed 1 e) x in (
          suc k,
          (table.leads (suc i) a (suc k)).1 ((u, before ++ q ∷ after, m), zip.0),
          path_after (u ++ suc i ∷ []) k before q after w (subst P (sym (append_assoc u (suc i ∷ []) (suc k ∷ (before ++ q ∷ after)))) m) zip.1,
        )

    path_of_match : (before : List ℕ) (q : ℕ) (after w : List ℕ) → Matches (placed 1 e) (before ++ q ∷ after)
        → AllZip (IsWritten code (occurrences_in e)) (before ++ q ∷ []) w → Path n 0 w q
    path_of_match [] q after [] m zip = absurd zip
    path_of_match [] q after (a ∷ []) m zip = (q, (table.leads 0 a q).1 ((after, m), zip.0), refl)
    path_of_match [] q after (a ∷ b ∷ w) m zip = absurd zip.1
    path_of_match (place ∷ before) q after [] m zip = absurd zip
    path_of_match (zero ∷ before) q after (a ∷ w) m zip = absurd zip.0
    path_of_match (suc k ∷ before) q after (a ∷ w) m zip = (
      suc k,
      (table.leads 0 a (suc k)).1 ((before ++ q ∷ after, m), zip.0),
      path_after [] k before q after w m zip.1,
    )

    path_from_mark : (w : List ℕ) (q : ℕ) → IsLastMark code e w q → Path n 0 w q
    path_from_mark w q mark = path_of_match mark.before q mark.after w mark.matches mark.written

    -- words with the same last marks lead to the same states
    pub alike_from_marks : (w v : List ℕ) → SameLastMarks code e w v → Alike n w v
    alike_from_marks [] [] same q = ((λ path. path), (λ path. path))
    alike_from_marks [] (b ∷ v) same q = let e : b ∷ v ≡ [] = same.nothing.0 refl in cc
    alike_from_marks (a ∷ w) [] same q = let e : a ∷ w ≡ [] = same.nothing.1 refl in cc
    alike_from_marks (a ∷ w) (b ∷ v) same q = (
      (λ path. path_from_mark (b ∷ v) q ((same.marks q).0 (mark_from_path a w q path))),
      (λ path. path_from_mark (a ∷ w) q ((same.marks q).1 (mark_from_path b v q path))),
    )

    pub marks_from_alike : (w v : List ℕ) → Alike n w v → SameLastMarks code e w v
    marks_from_alike [] [] alike = record { nothing = ((λ is. refl), (λ is. refl)); marks = λ place. ((λ mark. mark), (λ mark. mark)) }
    marks_from_alike [] (b ∷ v) alike = absurd (unmarked_zero (b ∷ v) (mark_from_path b v 0 ((alike 0).0 refl)))
    marks_from_alike (a ∷ w) [] alike = absurd (unmarked_zero (a ∷ w) (mark_from_path a w 0 ((alike 0).1 refl)))
    marks_from_alike (a ∷ w) (b ∷ v) alike = record {
      nothing = ((λ is. cc), (λ is. cc));
      marks = λ place. (
        (λ mark. mark_from_path b v place ((alike place).0 (path_from_mark (a ∷ w) place mark))),
        (λ mark. mark_from_path a w place ((alike place).1 (path_from_mark (b ∷ v) place mark))),
      );
    }
