-- Printed lines, read again one after another.
use Rattle.std.proofs.Common.{◌≡◌, ℕ, zero, suc, ◌+◌, ◌-◌, true, false, cond, List, [], ◌∷◌, ◌++◌, map, length, ℤ, Option, None, Some, refl, sym, ap, ◌∙◌, arith, append_assoc}
use Rattle.std.specs.List.{range_with_len}
use Rattle.std.proofs.lemmas.Bool.{ne_eqb}
use Rattle.std.proofs.lemmas.List.{append-nil, map-append}
use Rattle.dfa_reading.specs.Lines.{is_passed}
use Rattle.dfa_reading.specs.Headers.{Header, digits_in, has_states, header_of}
use Rattle.dfa_reading.specs.Listed.{ListedLine}
use Rattle.dfa_reading.specs.Entries.{Entry, Line, entry_of}
use Rattle.dfa_reading.specs.declared.outputs.Outputs.{Outputs}
use Rattle.dfa_reading.specs.Reading.{Draft, no_draft, has_number, add_entry, add_line, add_lines}
use Rattle.dfa_reading.proofs.ReadDrafts.{add_lines-step}

abbrev pub draft : Header → List ℕ → List (Option ℤ) → List (ℕ × ListedLine) → Draft
draft header numbers outputs lines = record { header = Some header; numbers = numbers; outputs = outputs; lines = lines }

abbrev pub lines_in : List (ℕ × ListedLine) → List ListedLine
lines_in lines = map (λ line. line.1) lines

pub passed_line : (o : Outputs) (at : ℕ) (d : Draft) (line : List ℕ) → is_passed line ≡ true → add_line o at d line ≡ Some d
unfolding add_line
passed_line o at d line h = rw h refl

pub header_line-added : (o : Outputs) (line : List ℕ) (header : Header) → is_passed line ≡ false → header_of line ≡ Some header → add_line o 1 no_draft line ≡ Some (draft header [] [] [])
unfolding add_line
header_line-added o line header h k = rw (h, k) refl

pub entry_line : (o : Outputs) (at : ℕ) (header : Header) (numbers : List ℕ) (outputs : List (Option ℤ)) (lines : List (ℕ × ListedLine)) (line : List ℕ) (e : Entry) → has_states header ≡ true → is_passed line ≡ false → entry_of o (digits_in header) line ≡ Some e
    → add_line o at (draft header numbers outputs lines) line ≡ add_entry at (draft header numbers outputs lines) e
unfolding add_line
entry_line o at header numbers outputs lines line e some h k = rw (h, some, k) refl

-- some lines of a file were read, and this is what they list
pub record HasRead (o : Outputs) (header : Header) (numbers : List ℕ) (outputs : List (Option ℤ)) (lines : List (ℕ × ListedLine)) (at : ℕ) (text rest : List (List ℕ)) (new_numbers : List ℕ) (new_outputs : List (Option ℤ)) (new_lines : List ListedLine) : Type 0 where
  pub numbered : List (ℕ × ListedLine)
  pub next : ℕ
  pub read : add_lines o at (draft header numbers outputs lines) (text ++ rest) ≡ add_lines o next (draft header new_numbers new_outputs (lines ++ numbered)) rest
  pub lists : lines_in numbered ≡ new_lines

module _ (o : Outputs) (header : Header) where
  pub read_more : (ns ns' ns'' : List ℕ) (os os' os'' : List (Option ℤ)) (lines : List (ℕ × ListedLine)) (at : ℕ) (xs ys rest : List (List ℕ)) (ls ms : List ListedLine)
      → (h : HasRead o header ns os lines at xs (ys ++ rest) ns' os' ls) → HasRead o header ns' os' (lines ++ h.numbered) h.next ys rest ns'' os'' ms → HasRead o header ns os lines at (xs ++ ys) rest ns'' os'' (ls ++ ms)
  read_more ns ns' ns'' os os' os'' lines at xs ys rest ls ms h k = record {
    numbered = h.numbered ++ k.numbered;
    next = k.next;
    read = ap (add_lines o at (draft header ns os lines)) (append_assoc xs ys rest) ∙ h.read ∙ k.read ∙ ap (λ l. add_lines o k.next (draft header ns'' os'' l) rest) (append_assoc lines h.numbered k.numbered);
    lists = map-append (λ (line : ℕ × ListedLine). line.1) h.numbered k.numbered ∙ ap (λ l. l ++ lines_in k.numbered) h.lists ∙ ap (λ l. ls ++ l) k.lists;
  }

  pub read_none : (ns : List ℕ) (os : List (Option ℤ)) (lines : List (ℕ × ListedLine)) (at : ℕ) (rest : List (List ℕ)) → HasRead o header ns os lines at [] rest ns os []
  read_none ns os lines at rest = record { numbered = []; next = at; read = ap (λ l. add_lines o at (draft header ns os l) rest) (sym (append-nil lines)); lists = refl }

  -- transitions of the last state
  pub read_entry : (ns : List ℕ) (os : List (Option ℤ)) (q : ℕ) (lines : List (ℕ × ListedLine)) (at : ℕ) (text : List ℕ) (digits : List (Option ℕ)) (targets : List ℕ) (rest : List (List ℕ)) → has_states header ≡ true → length os ≡ suc q → is_passed text ≡ false → entry_of o (digits_in header) text ≡ Some (Line digits targets)
      → HasRead o header ns os lines at (text ∷ []) rest ns os (record { state = q; digits = digits; targets = targets } ∷ [])
  read_entry ns os q lines at text digits targets rest some long not_skipped is =
      let line : ListedLine = record { state = q; digits = digits; targets = targets } in
      let place : length os - 1 ≡ q = omega arith in
      let added : add_line o at (draft header ns os lines) text ≡ Some (draft header ns os (lines ++ (at, line) ∷ [])) =
      entry_line o at header ns os lines text (Line digits targets) some not_skipped is
      ∙ ap (λ b. cond b None (Some (draft header ns os (lines ++ (at, record { state = length os - 1; digits = digits; targets = targets }) ∷ [])))) (ne_eqb (length os) 0 (λ e. absurd (omega arith)))
      ∙ ap (λ (s : ℕ). Some (draft header ns os (lines ++ (at, (let l : ListedLine = record { state = s; digits = digits; targets = targets } in l)) ∷ []))) place in
      record { numbered = (at, line) ∷ []; next = at + 1; read = add_lines-step o at (draft header ns os lines) (draft header ns os (lines ++ (at, line) ∷ [])) text rest added; lists = refl }

-- no state has the next number yet
pub new_number : (a n q : ℕ) → a + n ≡ q → has_number (range_with_len a n) q ≡ false
new_number a zero q e = refl
new_number a (suc n) q e = rw (ne_eqb q a (λ s. absurd (omega arith)), new_number (a + 1) n q (omega arith)) refl
