-- A text of a `reg`, from its first word on.
use Rattle.std.proofs.Common.{◌≡◌, ℕ, ◌+◌, ◌-◌, ◌^◌, ◌<◌, ◌≤◌, Bool, true, false, ◌==◌, List, [], ◌∷◌, length, take, drop, Result, Ok, Err, refl, sym, ◌∙◌, ap, subst, arith}
use Rattle.text_grammar.specs.declared.class.Class.TheVariants.{Blank, Word}
use Rattle.text_grammar.specs.Prefixes.{begins_in, prefix_len}
use Rattle.command_head.specs.declared.fault.HeadFault.{HeadFault}
use Rattle.command_head.specs.Readings.{placed}
use Rattle.command_head.specs.Parts.{first_word_of, after_blanks, after_first, first_in, after_word, parts_of_rest, parts_of}
use Rattle.command_head.specs.Heads.{RegHead, Stage, AtWord, AtName, AfterName, AtNumber, AfterNumber, AfterSet, AfterSystem, AtEnd, step, ended, open_count, run, reg_at}
use Rattle.command_head.specs.Formed.{AreFormed}
use Rattle.command_head.proofs.ReadingSteps.{bind_ok, ok_is}
use Rattle.command_head.proofs.Walks.{came, placed_ok}
use Rattle.command_head.proofs.ReadHeads.{word_step}
use Rattle.command_head.proofs.PartSteps.{length-parts, length-after_part, length-after_word, run_more, run_refused, run_ends}
use Rattle.command_head.proofs.Sane.{spent, Sane, step_keeps, run_sane}

-- the first word, and then the parts after it
pub reg_first : (text : List ℕ) (stage : Stage) → placed 0 (step AtWord (first_word_of text)) ≡ Ok stage → run (length text) stage (parts_of_rest (length text) (length text) (begins_in Blank (after_word text)) (after_blanks (after_word text))) ≡ reg_at text
unfolding run reg_at parts_of
reg_first text stage h = sym (rw h refl)

pub reg_refused : (text : List ℕ) (e : HeadFault) → placed 0 (step AtWord (first_word_of text)) ≡ Err e → reg_at text ≡ Err e
unfolding run reg_at parts_of
reg_refused text e h = rw h refl

-- what stage is after the first word
pub word_stage : (at : ℕ) (word : List ℕ) (stage : Stage) → placed at (step AtWord word) ≡ Ok stage → AtName ≡ stage
word_stage at word stage h = ok_is (came AtName) AtName stage refl (word_step word stage (placed_ok at (step AtWord word) stage h)).1

-- the tracks of a head are well formed
pub reg_formed : (text : List ℕ) (head : RegHead) → reg_at text ≡ Ok head → AreFormed (length text) head.alphabets
unfolding run reg_at parts_of
reg_formed text head h =
    let rest = parts_of_rest (length text) (length text) (begins_in Blank (after_word text)) (after_blanks (after_word text)) in
    let n = bind_ok (placed 0 (step AtWord (first_word_of text))) (λ next. run (length text) next rest) head h in
    let name : AtName ≡ n.0 = word_stage 0 (first_word_of text) n.0 n.1 in
    let read : run (length text) AtName rest ≡ Ok head = subst (λ (s : Stage). run (length text) s rest ≡ Ok head) (sym name) n.2 in
    let few = length-parts (length text) (length text) (begins_in Blank (after_word text)) (after_blanks (after_word text)) in
    run_sane (length text) (length text) AtName rest head (omega (arith, length-after_word text)) tt read

-- What is left of a text: what it leads to from a stage on is what is read of the whole.
pub record IsLeft (text : List ℕ) (stage : Stage) (whole : ℕ) (blank : Bool) (rest : List ℕ) : Type 0 where
  pub all : whole ≡ length text
  pub count : ℕ
  pub room : length rest ≤ count
  pub same : run (length text) stage (parts_of_rest count (length text) blank rest) ≡ reg_at text
  pub spends : spent stage + length rest ≤ length text + 1
  pub sane : Sane (length text + 2) stage

-- what is left after the first word
pub left_first : (text word suffix rest : List ℕ) (len whole : ℕ) (blank : Bool) (stage : Stage) → len ≡ prefix_len Word text → word ≡ take len text → suffix ≡ drop len text →
    whole ≡ length text → blank ≡ begins_in Blank suffix → rest ≡ after_blanks suffix → placed 0 (step AtWord word) ≡ Ok stage → IsLeft text stage whole blank rest
left_first text word suffix rest len whole blank stage len_is word_is after_is all blank_is rest_is h =
    let word_is' : word ≡ first_word_of text = word_is ∙ ap (λ (n : ℕ). take n text) len_is in
    let after_is' : suffix ≡ after_word text = after_is ∙ ap (λ (n : ℕ). drop n text) len_is in
    let few = length-after_word text in
    let name : AtName ≡ stage = word_stage 0 word stage h in
    let read : placed 0 (step AtWord (first_word_of text)) ≡ Ok stage = subst (λ (l : List ℕ). placed 0 (step AtWord l) ≡ Ok stage) word_is' h in
    rw (blank_is, rest_is, after_is') record {
      all = all;
      count = length text;
      room = few;
      same = reg_first text stage read;
      spends = subst (λ (s : Stage). spent s + length (after_blanks (after_word text)) ≤ length text + 1) name (omega arith);
      sane = subst (Sane (length text + 2)) name tt;
    }

-- a step at a part, where its place and its bytes are named otherwise
step_is : (text : List ℕ) (whole : ℕ) (blank : Bool) (rest : List ℕ) (stage : Stage) (at : ℕ) (part : List ℕ) (r : Result Stage HeadFault) → whole ≡ length text → at ≡ whole - length rest → part ≡ first_in blank rest →
    placed at (step stage part) ≡ r → placed (length text - length rest) (step stage (first_in blank rest)) ≡ r
step_is text whole blank rest stage at part r all at_is part_is h =
    ap (λ (n : ℕ). placed n (step stage (first_in blank rest))) (sym (at_is ∙ ap (λ (n : ℕ). n - length rest) all)) ∙ ap (λ (l : List ℕ). placed at (step stage l)) (sym part_is) ∙ h

not_empty : (rest : List ℕ) (empty : Bool) → empty ≡ (length rest == 0) → empty ≡ false → 0 < length rest
not_empty [] empty h g = cc
not_empty (b ∷ bs) empty h g = omega arith

pub record IsMore (text : List ℕ) (next : Stage) (whole : ℕ) (blank : Bool) (rest new : List ℕ) : Type 0 where
  pub left : IsLeft text next whole blank new
  pub shorter : length new < length rest

shorter : (rest : List ℕ) → 0 < length rest → length (after_blanks (after_first rest)) < length rest
shorter [] some = absurd (omega arith)
shorter (b ∷ bs) some = length-after_part b bs

-- what is left after one more part
pub left_more : (text : List ℕ) (stage next : Stage) (whole all : ℕ) (blank new_blank : Bool) (rest part new : List ℕ) (at : ℕ) (empty : Bool) → IsLeft text stage whole blank rest → empty ≡ (length rest == 0) → empty ≡ false →
    at ≡ whole - length rest → part ≡ first_in blank rest → all ≡ whole → new_blank ≡ begins_in Blank (after_first rest) → new ≡ after_blanks (after_first rest) → placed at (step stage part) ≡ Ok next → IsMore text next all new_blank rest new
left_more text stage next whole all blank new_blank rest part new at empty left empty_is test at_is part_is all_is blank_is new_is h =
    let some = not_empty rest empty empty_is test in
    let read = step_is text whole blank rest stage at part (Ok next) left.all at_is part_is h in
    let more = run_more left.count (length text) stage next blank rest (reg_at text) some left.room read left.same in
    let less = shorter rest some in
    let spends = left.spends in
    let keeps = step_keeps (length text + 2) stage part next (omega arith) left.sane (placed_ok at (step stage part) next h) in
    let adds = keeps.spends in
    rw (blank_is, new_is) record {
      left = record { all = all_is ∙ left.all; count = more.0; room = more.1; same = more.2; spends = omega arith; sane = keeps.sane };
      shorter = less;
    }

-- a part that is refused
pub left_refused : (text : List ℕ) (stage : Stage) (whole : ℕ) (blank : Bool) (rest part : List ℕ) (at : ℕ) (empty : Bool) → IsLeft text stage whole blank rest → empty ≡ (length rest == 0) → empty ≡ false →
    at ≡ whole - length rest → part ≡ first_in blank rest → (e : HeadFault) → placed at (step stage part) ≡ Err e → reg_at text ≡ Err e
left_refused text stage whole blank rest part at empty left empty_is test at_is part_is e h =
    sym left.same ∙ run_refused left.count (length text) stage blank rest (not_empty rest empty empty_is test) left.room e (step_is text whole blank rest stage at part (Err e) left.all at_is part_is h)

-- the end
pub left_none : (text : List ℕ) (stage : Stage) (whole : ℕ) (blank : Bool) (rest : List ℕ) (empty : Bool) → IsLeft text stage whole blank rest → empty ≡ (length rest == 0) → empty ≡ true → reg_at text ≡ placed (length text) (ended stage)
left_none text stage whole blank rest empty left empty_is test = sym left.same ∙ run_ends left.count (length text) stage blank rest (sym empty_is ∙ test)

-- no set that is open has too many members
pub few_open : (text : List ℕ) (stage : Stage) (whole : ℕ) (blank : Bool) (rest : List ℕ) → length text < 2 ^ 32 → IsLeft text stage whole blank rest → open_count stage < 2 ^ 32
few_open text AtWord whole blank rest short left = omega arith
few_open text AtName whole blank rest short left = omega arith
few_open text (AfterName name) whole blank rest short left = omega arith
few_open text (AtNumber name sets members) whole blank rest short left = let spends = left.spends in omega arith
few_open text (AfterNumber name sets members) whole blank rest short left = let spends = left.spends in omega arith
few_open text (AfterSet name sets) whole blank rest short left = omega arith
few_open text (AfterSystem name names) whole blank rest short left = omega arith
few_open text (AtEnd head) whole blank rest short left = omega arith
