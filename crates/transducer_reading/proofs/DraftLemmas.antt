-- What holds of each draft.
use Rattle.std.proofs.Common.{◌≡◌, inl, inr, ℕ, ◌+◌, ◌-◌, Bool, ◌⊎◌, ◌&&◌, true, false, cond, eqb, List, [], ◌∷◌, ◌++◌, length, ℤ, Option, None, Some, IfSome, IsTrue, Ok, refl, sym, ap, ◌∙◌, subst, true≢false, arith}
use Rattle.std.specs.Prelude.{option_map, ok_or}
use Rattle.std.specs.List.{All, Contains}
use Rattle.std.proofs.lemmas.Bool.{eqb-false, eq-eqb}
use Rattle.std.proofs.lemmas.Bool.Decides.{Decides-int_eq}
use Rattle.std.proofs.lemmas.List.{length_push}
use Rattle.std.proofs.lemmas.List.Elements.{All-nil, All-weaker, All-push, Contains-push_cases}
use Rattle.std.proofs.lemmas.List.Sorted.{IsNonDecreasingBy-push}
use Rattle.dfa_reading.specs.Lines.{◌>>=◌, is_passed, arrow_at}
use Rattle.dfa_reading.specs.Numbers.{integer_of}
use Rattle.dfa_reading.specs.Entries.{is_star, state_number}
use Rattle.dfa_reading.specs.Reading.{has_number}
use Rattle.dfa_reading.proofs.Options.{bind_some, map_some, cond_some, cond_some-then}
use Rattle.dfa_reading.proofs.Drafts.{then_ok, ok_some}
use Rattle.transducer_reading.specs.declared.transducer.TransducerLine.{TransducerLine}
use Rattle.transducer_reading.specs.Transducers.{is_member, HaveOneResult}
use Rattle.transducer_reading.specs.Entries.{set_of, only_part, within_set, letter_of, result_of, Entry, State, Line, entry_by, entry_of}
use Rattle.transducer_reading.specs.Reading.{Draft, no_draft, with_set, with_state, with_line, last_line, share_letter, differ, are_in_conflict, has_conflict, add_entry, add_to, add_line, add_lines}
use Rattle.transducer_reading.specs.Conflicts.{IsWithoutConflict}
use Rattle.transducer_reading.specs.Drafts.{members_in, IsDraftLine, IsDraft}
use Rattle.transducer_reading.proofs.ResultLemmas.{no_difference, none_passes}

abbrev FileLine : Type 0
FileLine = ℕ × TransducerLine

-- nothing was read
pub IsDraft-none : IsDraft no_draft
IsDraft-none = record {
  none = λ e. refl;
  lines = All-nil (IsDraftLine [] 0);
  order = λ i j d le lt. absurd (omega arith);
  agreed = λ line other h k state share. absurd (let lt = h.1 in omega arith);
}

-- the set was read
pub set_kept : (draft : Draft) (set : List ℤ) → draft.set ≡ None → IsDraft draft → IsDraft (with_set draft set)
set_kept draft set none is = record {
  none = λ e. let other : Some set ≡ None = e in absurd (cc);
  lines = subst (All (IsDraftLine set (length draft.numbers))) (sym (is.none none)) (All-nil (IsDraftLine set (length draft.numbers)));
  order = is.order;
  agreed = is.agreed;
}

-- a state was read
pub state_kept : (draft : Draft) (number : ℕ) → IsDraft draft → IsDraft (with_state draft number)
state_kept draft number is = record {
  none = is.none;
  lines = All-weaker (IsDraftLine (members_in draft.set) (length draft.numbers)) (IsDraftLine (members_in draft.set) (length (draft.numbers ++ number ∷ [])))
      (λ x h. record { state = omega (arith, h.state, length_push draft.numbers number); letter = h.letter }) draft.lines is.lines;
  order = is.order;
  agreed = is.agreed;
}

-- letters are shared both ways
share_sym : (a b : Option ℤ) → share_letter a b ≡ true → share_letter b a ≡ true
share_sym None None h = refl
share_sym None (Some b) h = refl
share_sym (Some a) None h = refl
share_sym (Some a) (Some b) h = (Decides-int_eq b a).1 (sym ((Decides-int_eq a b).0 h))

and_false : (b c : Bool) → b ≡ true → (b && c) ≡ false → c ≡ false
and_false true c h e = e
and_false false c h e = absurd (true≢false (sym h))

-- a line that is in no conflict
module _ (at : ℕ) (line : TransducerLine) (lines : List FileLine) (is : IsWithoutConflict lines) (none : has_conflict lines line ≡ false) where
  one_new : (x : FileLine) → Contains lines x → line.state ≡ x.1.state → share_letter line.letter x.1.letter ≡ true → HaveOneResult line x.1
  one_new x there state share =
      let apart : are_in_conflict line x.1 ≡ false = none_passes (λ (other : FileLine). are_in_conflict line other.1) lines x none there in
      no_difference line x.1
      (and_false (share_letter line.letter x.1.letter) (differ line x.1) share
      (and_false (eqb line.state x.1.state) (share_letter line.letter x.1.letter && differ line x.1) (eq-eqb line.state x.1.state state) apart))

  one_old : (x : FileLine) → Contains lines x → x.1.state ≡ line.state → share_letter x.1.letter line.letter ≡ true → HaveOneResult x.1 line
  one_old x there state share =
      let one : HaveOneResult line x.1 = one_new x there (sym state) (share_sym x.1.letter line.letter share) in
      record { target = sym one.target; output = sym one.output }

  pub agreed_push : IsWithoutConflict (lines ++ (at, line) ∷ [])
  agreed_push x y hx hy state share = by (Contains-push_cases lines (at, line) x hx) (Contains-push_cases lines (at, line) y hy)
    where
      by : Contains lines x ⊎ ((at, line) ≡ x) → Contains lines y ⊎ ((at, line) ≡ y) → HaveOneResult x.1 y.1
      by (inl old) (inl other) = is x y old other state share
      by (inl old) (inr same) =
          subst (λ (z : FileLine). x.1.state ≡ z.1.state → share_letter x.1.letter z.1.letter ≡ true → HaveOneResult x.1 z.1) same (λ s h. one_old x old s h) state share
      by (inr same) (inl old) =
          subst (λ (z : FileLine). z.1.state ≡ y.1.state → share_letter z.1.letter y.1.letter ≡ true → HaveOneResult z.1 y.1) same (λ s h. one_new y old s h) state share
      by (inr same) (inr also) = subst (λ (z : FileLine). HaveOneResult x.1 z.1) (sym same ∙ also) (record { target = refl; output = refl })

-- a line of a state was read
pub line_kept : (at : ℕ) (draft : Draft) (set : List ℤ) (line : TransducerLine) → draft.set ≡ Some set → IfSome line.letter (λ letter. IsTrue (is_member set letter)) → (length draft.numbers ≡ 0 → ⊥) → line.state ≡ length draft.numbers - 1
    → has_conflict draft.lines line ≡ false → IsDraft draft → IsDraft (with_line at draft line)
line_kept at draft set line there letter some state none is = record {
  none = λ e. let other : Some set ≡ None = sym there ∙ e in absurd (cc);
  lines = All-push (IsDraftLine (members_in draft.set) (length draft.numbers)) draft.lines (at, line) is.lines
      (record { state = omega arith; letter = subst (λ (o : Option (List ℤ)). IfSome line.letter (λ l. IsTrue (is_member (members_in o) l))) (sym there) letter });
  order = IsNonDecreasingBy-push (λ (l : FileLine). l.1.state) draft.lines (at, line) is.order (λ d more. let below = (is.lines (length draft.lines - 1) d (omega arith)).state in omega arith);
  agreed = agreed_push at line draft.lines is.agreed none;
}

-- the letter of a line is of the set
letter_is : (set : List ℤ) (part : List ℕ) (letter : Option ℤ) → letter_of set part ≡ Some letter → IfSome letter (λ l. IsTrue (is_member set l))
letter_is set part letter h = by (is_star part) h
  where
    by : (b : Bool) → cond b (Some None) (option_map Some (integer_of part >>= within_set set)) ≡ Some letter → IfSome letter (λ l. IsTrue (is_member set l))
    by true e = let same : None ≡ letter = cc in subst (λ (o : Option ℤ). IfSome o (λ l. IsTrue (is_member set l))) same tt
    by false e =
        let made = map_some (integer_of part >>= within_set set) Some letter e in
        let read = bind_some (integer_of part) (within_set set) made.0 made.1 in
        let kept = cond_some-then (is_member set read.0) (Some read.0) made.0 read.2 in
        let same : read.0 ≡ made.0 = let f : Some read.0 ≡ Some made.0 = kept.1 in cc in
        subst (λ (o : Option ℤ). IfSome o (λ l. IsTrue (is_member set l))) (ap Some same ∙ made.2) kept.0

letter_by : (set : List ℤ) (line : List ℕ) (arrow : Option (List ℕ × List ℕ)) (letter : Option ℤ) (result : ℕ × ℤ) → entry_by set line arrow ≡ Some (Line letter result) → IfSome letter (λ l. IsTrue (is_member set l))
letter_by set line None letter result h =
    let made = map_some (only_part line >>= state_number) State (Line letter result) h in
    let other : State made.0 ≡ Line letter result = made.2 in absurd (cc)
letter_by set line (Some p) letter result h =
    let first = bind_some (only_part p.0 >>= letter_of set) (λ l. result_of p.1 >>= (λ r. Some (Line l r))) (Line letter result) h in
    let second = bind_some (result_of p.1) (λ r. Some (Line first.0 r)) (Line letter result) first.2 in
    let same : first.0 ≡ letter = let e : Some (Line first.0 second.0) ≡ Some (Line letter result) = second.2 in cc in
    let part = bind_some (only_part p.0) (letter_of set) first.0 first.1 in
    subst (λ (o : Option ℤ). IfSome o (λ l. IsTrue (is_member set l))) same (letter_is set part.0 first.0 part.2)

pub letter_in : (set : List ℤ) (line : List ℕ) (letter : Option ℤ) (result : ℕ × ℤ) → entry_of set line ≡ Some (Line letter result) → IfSome letter (λ l. IsTrue (is_member set l))
unfolding entry_of
letter_in set line letter result h = letter_by set line (arrow_at line) letter result h

-- a line of the file was read
pub entry_kept : (at : ℕ) (draft next : Draft) (set : List ℤ) (entry : Entry) → draft.set ≡ Some set → ((letter : Option ℤ) (result : ℕ × ℤ) → entry ≡ Line letter result → IfSome letter (λ l. IsTrue (is_member set l)))
    → add_entry at draft entry ≡ Some next → IsDraft draft → IsDraft next
entry_kept at draft next set (State number) there letters h is =
    let new = cond_some (has_number draft.numbers number) (Some (with_state draft number)) next h in
    let same : with_state draft number ≡ next = let e : Some (with_state draft number) ≡ Some next = new.1 in cc in
    subst IsDraft same (state_kept draft number is)
entry_kept at draft next set (Line letter result) there letters h is =
    let line = last_line draft.numbers letter result in
    let some = cond_some (eqb (length draft.numbers) 0) (cond (has_conflict draft.lines line) None (Some (with_line at draft line))) next h in
    let alone = cond_some (has_conflict draft.lines line) (Some (with_line at draft line)) next some.1 in
    let same : with_line at draft line ≡ next = let e : Some (with_line at draft line) ≡ Some next = alone.1 in cc in
    subst IsDraft same (line_kept at draft set line there (letters letter result refl) (eqb-false (length draft.numbers) 0 some.0) refl alone.0 is)

to_kept : (at : ℕ) (draft next : Draft) (line : List ℕ) (set : Option (List ℤ)) → draft.set ≡ set → add_to at draft line set ≡ Some next → IsDraft draft → IsDraft next
to_kept at draft next line None there h is =
    let made = map_some (set_of line) (with_set draft) next h in
    subst IsDraft made.2 (set_kept draft made.0 there is)
to_kept at draft next line (Some set) there h is =
    let read = bind_some (entry_of set line) (add_entry at draft) next h in
    entry_kept at draft next set read.0 there (λ letter result e. letter_in set line letter result (read.1 ∙ ap Some e)) read.2 is

pub line_read-kept : (at : ℕ) (draft next : Draft) (line : List ℕ) → add_line at draft line ≡ Some next → IsDraft draft → IsDraft next
unfolding add_line
line_read-kept at draft next line h is = by (is_passed line) h
  where
    by : (b : Bool) → cond b (Some draft) (add_to at draft line draft.set) ≡ Some next → IsDraft next
    by true e = let same : draft ≡ next = let f : Some draft ≡ Some next = e in cc in subst IsDraft same is
    by false e = to_kept at draft next line draft.set refl e is

pub lines_read-kept : (at : ℕ) (draft next : Draft) (lines : List (List ℕ)) → add_lines at draft lines ≡ Ok next → IsDraft draft → IsDraft next
lines_read-kept at draft next [] h is = let same : draft ≡ next = let e : Ok draft ≡ Ok next = h in cc in subst IsDraft same is
lines_read-kept at draft next (line ∷ lines) h is =
    let first = then_ok (ok_or (add_line at draft line) at) (λ d. add_lines (at + 1) d lines) next h in
    lines_read-kept (at + 1) first.0 next lines first.2 (line_read-kept at draft first.0 line (ok_some (add_line at draft line) at first.0 first.1) is)
