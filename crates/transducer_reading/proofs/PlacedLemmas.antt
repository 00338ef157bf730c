-- What a file gives is a transducer.
use Rattle.std.proofs.Common.{◌≡◌, ℕ, zero, suc, ◌<◌, ◌≤◌, Bool, true, false, cond, eqb, List, [], ◌∷◌, length, get_or, ℤ, Option, None, Some, IfSome, IsTrue, Ok, Err, refl, sym, ap, ◌∙◌, subst, arith}
use Rattle.std.specs.Prelude.{ok_or}
use Rattle.std.specs.List.{All}
use Rattle.std.proofs.lemmas.Bool.{eqb-true, eqb-false}
use Rattle.std.proofs.lemmas.Bool.Decides.{Decides-int_eq}
use Rattle.std.proofs.lemmas.List.Elements.{Contains-get_or}
use Rattle.std.proofs.lemmas.List.Quantifiers.{position-Some}
use Rattle.dfa_reading.specs.Lines.{lines_of, line_after}
use Rattle.dfa_reading.specs.Reading.{state_at, then_read}
use Rattle.dfa_reading.proofs.Options.{map_some}
use Rattle.dfa_reading.proofs.Drafts.{then_ok, ok_some}
use Rattle.transducer_reading.specs.declared.transducer.TransducerLine.{TransducerLine}
use Rattle.transducer_reading.specs.Transducers.{Transducer, is_member, takes_letter, IsTransducerLine, HaveOneResult, IsFunctional, IsTransducer}
use Rattle.transducer_reading.specs.Reading.{Draft, no_draft, share_letter, add_lines, placed_line, placed_lines, made_of, finish_with, finish, transducer_of, TransducerFilesGiveTransducers}
use Rattle.transducer_reading.specs.Drafts.{members_in, IsDraft}
use Rattle.transducer_reading.proofs.ResultLemmas.{and_true}
use Rattle.transducer_reading.proofs.DraftLemmas.{IsDraft-none, lines_read-kept}

abbrev FileLine : Type 0
FileLine = ℕ × TransducerLine

-- a line with its target by its place
pub record IsPlaced (numbers : List ℕ) (line placed : TransducerLine) : Type 0 where
  pub state : placed.state ≡ line.state
  pub letter : placed.letter ≡ line.letter
  pub output : placed.output ≡ line.output
  pub target : state_at numbers line.target ≡ Some placed.target

placed_is : (numbers : List ℕ) (line placed : TransducerLine) → placed_line numbers line ≡ Some placed → IsPlaced numbers line placed
placed_is numbers line placed h =
    let made = map_some (state_at numbers line.target) (λ target. record line { target = target }) placed h in
    subst (IsPlaced numbers line) made.2 (record { state = refl; letter = refl; output = refl; target = made.1 })

-- each placed line is of the line at its place
placed_at : (numbers : List ℕ) (lines : List FileLine) (placed : List TransducerLine) → placed_lines numbers lines ≡ Ok placed
    → (length placed ≡ length lines) × ((k : ℕ) (d : FileLine) (e : TransducerLine) → k < length lines → IsPlaced numbers (get_or lines k d).1 (get_or placed k e))
placed_at numbers [] placed h = let none : [] ≡ placed = let e : Ok [] ≡ Ok placed = h in cc in (ap length (sym none), λ k d e lt. absurd (omega arith))
placed_at numbers (line ∷ lines) placed h =
    let first = then_ok (ok_or (placed_line numbers line.1) line.0) (λ one. then_read (placed_lines numbers lines) (λ others. Ok (one ∷ others))) placed h in
    let rest = then_ok (placed_lines numbers lines) (λ others. Ok (first.0 ∷ others)) placed first.2 in
    let same : first.0 ∷ rest.0 ≡ placed = let e : Ok (first.0 ∷ rest.0) ≡ Ok placed = rest.2 in cc in
    let one : IsPlaced numbers line.1 first.0 = placed_is numbers line.1 first.0 (ok_some (placed_line numbers line.1) line.0 first.0 first.1) in
    let others = placed_at numbers lines rest.0 rest.1 in
    (ap length (sym same) ∙ ap suc others.0, λ k d e lt. subst (λ (ps : List TransducerLine). IsPlaced numbers (get_or (line ∷ lines) k d).1 (get_or ps k e)) same (by first.0 rest.0 one others.1 k d e lt))
  where
    by : (p : TransducerLine) (ps : List TransducerLine) → IsPlaced numbers line.1 p → ((k : ℕ) (d : FileLine) (e : TransducerLine) → k < length lines → IsPlaced numbers (get_or lines k d).1 (get_or ps k e))
        → (k : ℕ) (d : FileLine) (e : TransducerLine) → k < suc (length lines) → IsPlaced numbers (get_or (line ∷ lines) k d).1 (get_or (p ∷ ps) k e)
    by p ps one others zero d e lt = one
    by p ps one others (suc k) d e lt = others k d e (omega arith)

within : (numbers : List ℕ) (n place : ℕ) → state_at numbers n ≡ Some place → place < length numbers
within numbers n place h = (position-Some (λ m. eqb n m) numbers place 0 h).0

-- lines that take one letter share it
takes_shared : (set : List ℤ) (a b : Option ℤ) (letter : ℤ) → takes_letter set a letter ≡ true → takes_letter set b letter ≡ true → share_letter a b ≡ true
takes_shared set None b letter h k = refl
takes_shared set (Some a) None letter h k = refl
takes_shared set (Some a) (Some b) letter h k = (Decides-int_eq a b).1 ((Decides-int_eq a letter).0 h ∙ sym ((Decides-int_eq b letter).0 k))

module _ (draft : Draft) (set : List ℤ) (placed : List TransducerLine) (there : draft.set ≡ Some set) (some : length draft.numbers ≡ 0 → ⊥) (is : IsDraft draft) (made : placed_lines draft.numbers draft.lines ≡ Ok placed) where
  abbrev transducer : Transducer
  transducer = record { set = set; states = length draft.numbers; lines = placed }

  -- the line of the file that became the line at a place
  at : (k : ℕ) (line : TransducerLine) → k < length placed → IsPlaced draft.numbers (get_or draft.lines k (0, line)).1 (get_or placed k line)
  at k line lt = let same = placed_at draft.numbers draft.lines placed made in same.1 k (0, line) line (let long = same.0 in omega arith)

  lines_are : All (IsTransducerLine set (length draft.numbers)) placed
  lines_are k d lt =
      let h = at k d lt in
      let inside : k < length draft.lines = let long = (placed_at draft.numbers draft.lines placed made).0 in omega arith in
      let old = is.lines k (0, d) inside in
      record {
        state = omega (arith, h.state, old.state);
        letter = subst (λ (l : Option ℤ). IfSome l (λ a. IsTrue (is_member set a))) (sym h.letter) (subst (λ (o : Option (List ℤ)). IfSome (get_or draft.lines k (0, d)).1.letter (λ a. IsTrue (is_member (members_in o) a))) there old.letter);
        target = within draft.numbers (get_or draft.lines k (0, d)).1.target (get_or placed k d).target h.target;
      }

  order : (i j : ℕ) (d : TransducerLine) → i ≤ j → j < length placed → (get_or placed i d).state ≤ (get_or placed j d).state
  order i j d le lt =
      let first = at i d (omega arith) in
      let second = at j d lt in
      let inside : j < length draft.lines = let long = (placed_at draft.numbers draft.lines placed made).0 in omega arith in
      let up = is.order i j (0, d) le inside in
      omega (arith, first.state, second.state, up)

  -- one result, by one number of the target
  one_of : (line other p q : TransducerLine) → IsPlaced draft.numbers line p → IsPlaced draft.numbers other q → HaveOneResult line other → HaveOneResult p q
  one_of line other p q h k one = record {
    target = let same : Some p.target ≡ Some q.target = sym h.target ∙ ap (state_at draft.numbers) one.target ∙ k.target in cc;
    output = h.output ∙ one.output ∙ sym k.output;
  }

  functional : IsFunctional transducer
  functional state letter line other (i, below, first) (j, under, second) from also =
      let h : IsPlaced draft.numbers (get_or draft.lines i (0, line)).1 line = subst (IsPlaced draft.numbers (get_or draft.lines i (0, line)).1) first (at i line below) in
      let k : IsPlaced draft.numbers (get_or draft.lines j (0, other)).1 other = subst (IsPlaced draft.numbers (get_or draft.lines j (0, other)).1) second (at j other under) in
      let long = (placed_at draft.numbers draft.lines placed made).0 in
      let one = and_true (eqb line.state state) (takes_letter set line.letter letter) from in
      let two = and_true (eqb other.state state) (takes_letter set other.letter letter) also in
      let states : (get_or draft.lines i (0, line)).1.state ≡ (get_or draft.lines j (0, other)).1.state =
      sym h.state ∙ eqb-true line.state state one.0 ∙ sym (eqb-true other.state state two.0) ∙ k.state in
      let shared : share_letter (get_or draft.lines i (0, line)).1.letter (get_or draft.lines j (0, other)).1.letter ≡ true =
      ap (λ l. share_letter l (get_or draft.lines j (0, other)).1.letter) (sym h.letter) ∙ ap (share_letter line.letter) (sym k.letter) ∙ takes_shared set line.letter other.letter letter one.1 two.1 in
      one_of (get_or draft.lines i (0, line)).1 (get_or draft.lines j (0, other)).1 line other h k
      (is.agreed (get_or draft.lines i (0, line)) (get_or draft.lines j (0, other)) (Contains-get_or draft.lines i (0, line) (omega arith)) (Contains-get_or draft.lines j (0, other) (omega arith)) states shared)

  pub IsTransducer-placed : IsTransducer (record { set = set; states = length draft.numbers; lines = placed })
  IsTransducer-placed = record { some = omega arith; lines = lines_are; order = order; functional = functional }

finish_is : (after : ℕ) (draft : Draft) (t : Transducer) (set : Option (List ℤ)) → draft.set ≡ set → finish_with after set draft ≡ Ok t → IsDraft draft → IsTransducer t
finish_is after draft t None there h is = let other : Err after ≡ Ok t = h in absurd (cc)
finish_is after draft t (Some set) there h is = by (eqb (length draft.numbers) 0) refl h
  where
    by : (b : Bool) → eqb (length draft.numbers) 0 ≡ b → cond b (Err after) (made_of set draft) ≡ Ok t → IsTransducer t
    by true e f = let other : Err after ≡ Ok t = f in absurd (cc)
    by false e f =
        let placed = then_ok (placed_lines draft.numbers draft.lines) (λ lines. Ok (record { set = set; states = length draft.numbers; lines = lines })) t f in
        let same : record { set = set; states = length draft.numbers; lines = placed.0 } ≡ t = let g : Ok (record { set = set; states = length draft.numbers; lines = placed.0 }) ≡ Ok t = placed.2 in cc in
        subst IsTransducer same (IsTransducer-placed draft set placed.0 there (eqb-false (length draft.numbers) 0 e) is placed.1)

pub files_give_transducers : TransducerFilesGiveTransducers
unfolding transducer_of
files_give_transducers text t h =
    let read = then_ok (add_lines 1 no_draft (lines_of text)) (finish (line_after (lines_of text))) t h in
    finish_is (line_after (lines_of text)) read.0 t read.0.set refl read.2 (lines_read-kept 1 no_draft read.0 (lines_of text) read.1 IsDraft-none)
