-- A text breaks the grammar at one part, and then that is the fault that is read.
use Rattle.std.proofs.Common.{◌≡◌, ℕ, ◌+◌, ◌^◌, ◌<◌, List, [], ◌∷◌, length, Result, Ok, Err, refl, sym, ◌∙◌, ap, subst}
use Rattle.text_grammar.proofs.FaultLemmas.{breaks_nowhere, breaks_once}
use Rattle.command_head.specs.declared.fault.HeadFault.{HeadFault}
use Rattle.command_head.specs.declared.fault.HeadFault.TheVariants.{Syntax, Number, Memory}
use Rattle.command_head.specs.Readings.{Refusal, Form, Range, placed}
use Rattle.text_grammar.specs.Results.{◌>>=◌}
use Rattle.command_head.specs.Parts.{Part, texts_of, parts_of, number_place}
use Rattle.command_head.specs.Heads.{RegHead, Stage, AtWord, step, ended, run, reg_at}
use Rattle.command_head.specs.Grammar.{DerivesReg}
use Rattle.command_head.specs.Breaks.{ExceedsAt, BreaksIn, IsSyntaxAt, IsNumberAt, HasOneHead, place_of, part_at}
use Rattle.command_head.proofs.ReadingSteps.{ok_is}
use Rattle.command_head.proofs.Walks.{goes, run_goes}
use Rattle.command_head.proofs.ReadHeads.{reg_derived}
use Rattle.command_head.proofs.DerivedHeads.{reg_goes}
use Rattle.command_head.proofs.Breaking.{syntax_breaks, number_breaks}

placed_within : {A : Type 0} (at : ℕ) (r : Result A Refusal) → placed at r ≡ Err Memory → ⊥
placed_within at (Ok x) h = cc
placed_within at (Err Form) h = cc
placed_within at (Err Range) h = cc

-- what is read is never out of memory
run_within : (whole : ℕ) (stage : Stage) (parts : List Part) → run whole stage parts ≡ Err Memory → ⊥
unfolding run
run_within whole stage [] h = placed_within whole (ended stage) h
run_within whole stage (part ∷ parts) h = by_step (λ next g. run_within whole next parts g) (step stage part.bytes) h
  where
    by_step : ((next : Stage) → run whole next parts ≡ Err Memory → ⊥) → (r : Result Stage Refusal) → (placed part.at r >>= λ next. run whole next parts) ≡ Err Memory → ⊥
    by_step rest (Ok next) g = rest next g
    by_step rest (Err Form) g = cc
    by_step rest (Err Range) g = cc

reg_within : (text : List ℕ) → reg_at text ≡ Err Memory → ⊥
unfolding reg_at
reg_within text h = run_within (length text) AtWord (parts_of text) h

reg_derives : (text : List ℕ) (head : RegHead) → reg_at text ≡ Ok head → DerivesReg (texts_of (parts_of text)) head
unfolding reg_at
reg_derives text head h = reg_derived (texts_of (parts_of text)) head (run_goes (length text) AtWord (parts_of text) head h)

same_place : (text : List ℕ) (a b at byte : ℕ) → a ≡ b → place_of text a ≡ at → place_of text b ≡ byte → at ≡ byte
same_place text a b at byte one here there = sym here ∙ ap (place_of text) one ∙ there

-- a break and another of one text, by their kinds
one_kind : {H : Type 0} (grammar : List (List ℕ) → H → Type 0) (text : List ℕ) (at byte : ℕ) → IsSyntaxAt grammar text at → IsNumberAt grammar text byte → ⊥
one_kind grammar text at byte form number =
    let one = breaks_once grammar (texts_of (parts_of text)) number.first.count form.first.count number.first.breaks form.first.breaks in
    form.form (subst (ExceedsAt grammar (texts_of (parts_of text))) one number.exceeds)

pub one_break : {H : Type 0} (grammar : List (List ℕ) → H → Type 0) (text : List ℕ) (at byte : ℕ) → BreaksIn grammar text at → BreaksIn grammar text byte → at ≡ byte
one_break grammar text at byte here there =
    same_place text here.count there.count at byte (breaks_once grammar (texts_of (parts_of text)) here.count there.count here.breaks there.breaks) here.place there.place

-- a text has one number that does not fit where it breaks a grammar
one_number : {H : Type 0} (grammar : List (List ℕ) → H → Type 0) (text : List ℕ) (at byte : ℕ) → IsNumberAt grammar text at → IsNumberAt grammar text byte → at ≡ byte
one_number grammar text at byte here there =
    let one = breaks_once grammar (texts_of (parts_of text)) here.first.count there.first.count here.first.breaks there.first.breaks in
    sym here.place
    ∙ ap (λ (n : ℕ). n + number_place (part_at (texts_of (parts_of text)) here.first.count)) (one_break grammar text here.begin there.begin here.first there.first)
    ∙ ap (λ (k : ℕ). there.begin + number_place (part_at (texts_of (parts_of text)) k)) one
    ∙ there.place

-- the fault that breaks the grammar is the one that is read
pub syntax_read : (text : List ℕ) (at : ℕ) → length text < 2 ^ 32 → IsSyntaxAt DerivesReg text at → reg_at text ≡ Err (Syntax at)
syntax_read text at short is = by_reading (reg_at text) refl
  where
    by_reading : (r : Result RegHead HeadFault) → reg_at text ≡ r → reg_at text ≡ Err (Syntax at)
    by_reading (Ok head) e = absurd (breaks_nowhere DerivesReg (texts_of (parts_of text)) is.first.count head is.first.breaks (reg_derives text head e))
    by_reading (Err (Syntax byte)) e =
        let other = syntax_breaks text byte short e in
        let one = breaks_once DerivesReg (texts_of (parts_of text)) other.first.count is.first.count other.first.breaks is.first.breaks in
        e ∙ ap (λ (n : ℕ). Err (Syntax n)) (same_place text other.first.count is.first.count byte at one other.first.place is.first.place)
    by_reading (Err (Number byte)) e =
        let other = number_breaks text byte short e in
        let one = breaks_once DerivesReg (texts_of (parts_of text)) other.first.count is.first.count other.first.breaks is.first.breaks in
        absurd (is.form (subst (ExceedsAt DerivesReg (texts_of (parts_of text))) one other.exceeds))
    by_reading (Err Memory) e = absurd (reg_within text e)

pub number_read : (text : List ℕ) (at : ℕ) → length text < 2 ^ 32 → IsNumberAt DerivesReg text at → reg_at text ≡ Err (Number at)
number_read text at short is = by_reading (reg_at text) refl
  where
    by_reading : (r : Result RegHead HeadFault) → reg_at text ≡ r → reg_at text ≡ Err (Number at)
    by_reading (Ok head) e = absurd (breaks_nowhere DerivesReg (texts_of (parts_of text)) is.first.count head is.first.breaks (reg_derives text head e))
    by_reading (Err (Syntax byte)) e =
        let other = syntax_breaks text byte short e in
        let one = breaks_once DerivesReg (texts_of (parts_of text)) is.first.count other.first.count is.first.breaks other.first.breaks in
        absurd (other.form (subst (ExceedsAt DerivesReg (texts_of (parts_of text))) one is.exceeds))
    by_reading (Err (Number byte)) e = e ∙ ap (λ (n : ℕ). Err (Number n)) (one_number DerivesReg text byte at (number_breaks text byte short e) is)
    by_reading (Err Memory) e = absurd (reg_within text e)

-- a text has one head or one fault by a grammar by which parts derive from one head
pub one_head : {H : Type 0} (grammar : List (List ℕ) → H → Type 0) → ((parts : List (List ℕ)) (head other : H) → grammar parts head → grammar parts other → head ≡ other) → HasOneHead grammar
one_head {H} grammar single text (Ok head) (Ok other) a b known known' = ap (λ (h : H). let r : Result H HeadFault = Ok h in r) (single (texts_of (parts_of text)) head other a b)
one_head {H} grammar single text (Ok head) (Err (Syntax at)) a b known known' = absurd (breaks_nowhere grammar (texts_of (parts_of text)) b.first.count head b.first.breaks a)
one_head {H} grammar single text (Ok head) (Err (Number at)) a b known known' = absurd (breaks_nowhere grammar (texts_of (parts_of text)) b.first.count head b.first.breaks a)
one_head {H} grammar single text (Err (Syntax at)) (Ok other) a b known known' = absurd (breaks_nowhere grammar (texts_of (parts_of text)) a.first.count other a.first.breaks b)
one_head {H} grammar single text (Err (Number at)) (Ok other) a b known known' = absurd (breaks_nowhere grammar (texts_of (parts_of text)) a.first.count other a.first.breaks b)
one_head {H} grammar single text (Err (Syntax at)) (Err (Syntax byte)) a b known known' = ap (λ (n : ℕ). let r : Result H HeadFault = Err (Syntax n) in r) (one_break grammar text at byte a.first b.first)
one_head {H} grammar single text (Err (Number at)) (Err (Number byte)) a b known known' = ap (λ (n : ℕ). let r : Result H HeadFault = Err (Number n) in r) (one_number grammar text at byte a b)
one_head {H} grammar single text (Err (Syntax at)) (Err (Number byte)) a b known known' = absurd (one_kind grammar text at byte a b)
one_head {H} grammar single text (Err (Number at)) (Err (Syntax byte)) a b known known' = absurd (one_kind grammar text byte at b a)
one_head {H} grammar single text (Err Memory) result a b known known' = absurd (known refl)
one_head {H} grammar single text (Ok head) (Err Memory) a b known known' = absurd (known' refl)
one_head {H} grammar single text (Err (Syntax at)) (Err Memory) a b known known' = absurd (known' refl)
one_head {H} grammar single text (Err (Number at)) (Err Memory) a b known known' = absurd (known' refl)

-- parts derive from at most one `reg`
pub one_reg : (parts : List (List ℕ)) (head other : RegHead) → DerivesReg parts head → DerivesReg parts other → head ≡ other
one_reg parts head other a b = ok_is (goes AtWord parts) head other (reg_goes parts head a) (reg_goes parts other b)
