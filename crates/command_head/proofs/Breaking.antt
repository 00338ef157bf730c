-- The first part that is refused is where the grammar breaks.
use Rattle.std.proofs.Common.{◌≡◌, ℕ, suc, ◌+◌, ◌^◌, ◌<◌, ◌≤◌, Bool, true, false, cond, List, [], ◌∷◌, ◌++◌, length, take, drop, map, Result, Ok, Err, refl, sym, ◌∙◌, ap, subst, arith, codes, bytes_eq, ⊎_elim}
use Rattle.std.specs.Prelude.{slice_index_or}
use Rattle.text_grammar.specs.declared.class.Class.TheVariants.{Blank}
use Rattle.text_grammar.specs.Faults.{Begins, BreaksAt}
use Rattle.command_head.specs.declared.fault.HeadFault.TheVariants.{Syntax, Number}
use Rattle.command_head.specs.Readings.{Refusal, Form, Range, fault_at, placed}
use Rattle.text_grammar.specs.Results.{◌>>=◌}
use Rattle.text_grammar.specs.Numbers.{begins_with, is_number, is_short, number_of}
use Rattle.command_head.specs.Members.{has, put, with_member}
use Rattle.text_grammar.specs.Prefixes.{begins_in}
use Rattle.text_grammar.specs.Systems.{is_system}
use Rattle.command_head.specs.Parts.{Part, after_blanks, after_word, texts_of, parts_of, number_place, is_name, is_quoted}
use Rattle.command_head.specs.Heads.{RegHead, Stage, AtWord, AtName, AfterName, AtNumber, AfterNumber, AfterSet, AfterSystem, AtEnd, body_step, step, ended, run, reg_at}
use Rattle.command_head.specs.Grammar.{DerivesReg}
use Rattle.command_head.specs.Breaks.{part_at, ExceedsAt, IsSyntaxAt, IsNumberAt}
use Rattle.command_head.proofs.PartSteps.{length-parts, length-after_word}
use Rattle.command_head.proofs.Walks.{goes_step, goes_first}
use Rattle.command_head.proofs.ReadHeads.{reg_derived}
use Rattle.command_head.proofs.DerivedHeads.{reg_goes}
use Rattle.command_head.proofs.Sane.{spent, Sane, step_keeps}
use Rattle.command_head.proofs.Completions.{GoesAs, completes, IsAtNumber, allowed, number_stage}
use Rattle.command_head.proofs.ValuedParts.{number_split, valued_split, number_place-number}
use Rattle.command_head.proofs.ValuedStages.{valued_stage}

-- a fault of form is where no number is out of range, the other where a part is one
abbrev KindOf : Refusal → (List (List ℕ) → RegHead → Type 0) → List (List ℕ) → ℕ → Type 0
KindOf Form grammar parts count = ExceedsAt grammar parts count → ⊥
KindOf Range grammar parts count = ExceedsAt grammar parts count × (number_place (part_at parts count) ≡ 0)

-- where parts break what may come after a stage
record IsBroken (whole : ℕ) (stage : Stage) (parts : List Part) (at : ℕ) (refusal : Refusal) : Type 0 where
  count : ℕ
  breaks : BreaksAt (GoesAs stage) (texts_of parts) count
  place : slice_index_or (map (λ (p : Part). p.at) parts) count whole ≡ at
  kind : KindOf refusal (GoesAs stage) (texts_of parts) count

record IsPlaced {A : Type 0} (at : ℕ) (r : Result A Refusal) (byte : ℕ) (refusal : Refusal) : Type 0 where
  refused : r ≡ Err refusal
  place : at ≡ byte

placed_err : {A : Type 0} (at : ℕ) (r : Result A Refusal) (byte : ℕ) (refusal : Refusal) → placed at r ≡ Err (fault_at byte refusal) → IsPlaced at r byte refusal
placed_err at (Ok x) byte refusal h = cc
placed_err at (Err Form) byte Form h = record { refused = refl; place = cc }
placed_err at (Err Range) byte Range h = record { refused = refl; place = cc }
placed_err at (Err Form) byte Range h = cc
placed_err at (Err Range) byte Form h = cc

abbrev refused_head : Refusal → Result RegHead Refusal
refused_head e = Err e

same_refusal : (a b : Refusal) → refused_head a ≡ Err b → a ≡ b
same_refusal a b h = cc

ok_err : {A : Type 0} (r : Result A Refusal) (x : A) (e : Refusal) → r ≡ Ok x → r ≡ Err e → ⊥
ok_err r x e h g = cc

-- at the end of the parts
ended_form : (stage : Stage) (refusal : Refusal) → ended stage ≡ Err refusal → refusal ≡ Form
ended_form AtWord refusal h = cc
ended_form AtName refusal h = cc
ended_form (AfterName name) refusal h = cc
ended_form (AtNumber name sets members) refusal h = cc
ended_form (AfterNumber name sets members) refusal h = cc
ended_form (AfterSet name sets) refusal h = cc
ended_form (AfterSystem name names) refusal h = cc
ended_form (AtEnd head) refusal h = cc

broken_end : (limit whole : ℕ) (stage : Stage) (at : ℕ) (refusal : Refusal) → limit ≤ 2 ^ 32 → spent stage ≤ limit → Sane limit stage → placed whole (ended stage) ≡ Err (fault_at at refusal) → IsBroken whole stage [] at refusal
broken_end limit whole stage at refusal low room sane h =
    let p = placed_err whole (ended stage) at refusal h in
    subst (IsBroken whole stage [] at) (sym (ended_form stage refusal p.refused)) record {
      count = 0;
      breaks = record {
        within = omega arith;
        before = completes limit stage room low sane;
        there = λ inside begins. absurd (omega arith);
        end = λ at_end head goes_on. ok_err (ended stage) head refusal goes_on p.refused;
      };
      place = p.place;
      kind = λ exceeds. let within = exceeds.within in absurd (omega arith);
    }

no_range : {A : Type 0} (b : Bool) (x : A) → cond b (Ok x) (Err Form) ≡ Err Range → ⊥
no_range true x h = cc
no_range false x h = cc

no_range_2 : {A : Type 0} (b c : Bool) (x y : A) → cond b (Ok x) (cond c (Ok y) (Err Form)) ≡ Err Range → ⊥
no_range_2 true c x y h = cc
no_range_2 false true x y h = cc
no_range_2 false false x y h = cc

-- the tests of a number
abbrev tested : {A B : Type 0} → Bool → Bool → Bool → A → (A → B) → Result B Refusal
tested a b c x f = cond a (cond b (cond c (Err Form) (Ok x)) (Err Range)) (Err Form) >>= λ y. Ok (f y)

range_tests : {A B : Type 0} (a b c : Bool) (x : A) (f : A → B) → tested a b c x f ≡ Err Range → (a ≡ true) × (b ≡ false)
range_tests true true true x f h = cc
range_tests true true false x f h = cc
range_tests true false c x f h = (refl, refl)
range_tests false b c x f h = cc

form_tests : {A B : Type 0} (a b c : Bool) (x : A) (f : A → B) → a ≡ true → b ≡ false → tested a b c x f ≡ Err Form → ⊥
form_tests true true c x f e g h = cc
form_tests true false c x f e g h = cc
form_tests false b c x f e g h = cc

-- a number that does not fit
record IsGreat (stage : Stage) (part : List ℕ) : Type 0 where
  at_number : IsAtNumber stage
  number : is_number part ≡ true
  long : is_short (2 ^ 31) (number_of part) ≡ false

range_step : (stage : Stage) (part : List ℕ) → step stage part ≡ Err Range → IsGreat stage part
unfolding step body_step with_member
range_step AtWord part h = absurd (no_range (bytes_eq part (codes "reg")) _ h)
range_step AtName part h = absurd (no_range (is_name part) _ h)
range_step (AfterName name) part h = absurd (no_range_2 (bytes_eq part (codes "{")) (is_system part) _ _ h)
range_step (AtNumber name sets members) part h =
    let t = range_tests (is_number part) (is_short (2 ^ 31) (number_of part)) (has members (number_of part)) (put members (number_of part)) (λ more. AfterNumber name sets more) h in
    record { at_number = tt; number = t.0; long = t.1 }
range_step (AfterNumber name sets members) part h = absurd (no_range_2 (bytes_eq part (codes ",")) (bytes_eq part (codes "}")) _ _ h)
range_step (AfterSet name sets) part h = absurd (no_range_2 (bytes_eq part (codes "{")) (is_quoted part) _ _ h)
range_step (AfterSystem name names) part h = absurd (no_range_2 (is_system part) (is_quoted part) _ _ h)
range_step (AtEnd head) part h = cc

form_step : (stage : Stage) (part : List ℕ) → IsAtNumber stage → step stage part ≡ Err Form → is_number part ≡ true → is_short (2 ^ 31) (number_of part) ≡ false → ⊥
unfolding step with_member
form_step (AtNumber name sets members) part at_number h number long =
    form_tests (is_number part) (is_short (2 ^ 31) (number_of part)) (has members (number_of part)) (put members (number_of part)) (λ more. AfterNumber name sets more) number long h
form_step AtWord part at_number h number long = at_number
form_step AtName part at_number h number long = at_number
form_step (AfterName name) part at_number h number long = at_number
form_step (AfterNumber name sets members) part at_number h number long = at_number
form_step (AfterSet name sets) part at_number h number long = at_number
form_step (AfterSystem name names) part at_number h number long = at_number
form_step (AtEnd head) part at_number h number long = at_number

-- a part that is refused
broken_here : (limit whole : ℕ) (stage : Stage) (part : Part) (parts : List Part) (refusal : Refusal) → limit ≤ 2 ^ 32 → spent stage ≤ limit → Sane limit stage → step stage part.bytes ≡ Err refusal → IsBroken whole stage (part ∷ parts) part.at refusal
broken_here limit whole stage part parts refusal low room sane h = record {
  count = 0;
  breaks = record {
    within = omega arith;
    before = begins;
    there = λ inside goes_on. no_more goes_on;
    end = λ at_end head goes_on. absurd (omega arith);
  };
  place = refl;
  kind = by_kind refusal h;
}
  where
    begins : Begins (GoesAs stage) []
    begins = completes limit stage room low sane

    no_more : Begins (GoesAs stage) (part.bytes ∷ []) → ⊥
    no_more b = let f = goes_first stage part.bytes b.0 b.1 b.2 in ok_err (step stage part.bytes) f.0 refusal f.1 h

    by_kind : (refusal : Refusal) → step stage part.bytes ≡ Err refusal → KindOf refusal (GoesAs stage) (texts_of (part ∷ parts)) 0
    by_kind Form e = λ exceeds.
        let allowed = exceeds.allowed in
        let bytes = part.bytes in
        let other = take (number_place bytes) bytes ++ exceeds.other in
        let f = goes_first stage other allowed.0 allowed.1 allowed.2 in
        ⊎_elim
        (λ z. form_step stage bytes (number_stage stage other f.0 (subst (λ (n : ℕ). is_number (take n bytes ++ exceeds.other) ≡ true) (sym z) exceeds.other_number) f.1) e
        (subst (λ (n : ℕ). is_number (drop n bytes) ≡ true) z exceeds.number) (subst (λ (n : ℕ). is_short (2 ^ 31) (number_of (drop n bytes)) ≡ false) z exceeds.long))
        (λ s. valued_stage stage other f.0 (valued_split bytes exceeds.other s) f.1)
        (number_split bytes)
    by_kind Range e =
        let great = range_step stage part.bytes e in
        let other = allowed limit stage (begins_with 45 part.bytes) room low sane great.at_number in
        let bytes = part.bytes in
        let begin = sym (number_place-number bytes great.number) in (
          record {
            within = omega arith;
            number = subst (λ (n : ℕ). is_number (drop n bytes) ≡ true) begin great.number;
            long = subst (λ (n : ℕ). is_short (2 ^ 31) (number_of (drop n bytes)) ≡ false) begin great.long;
            other = other.other;
            other_number = other.number;
            sign = subst (λ (n : ℕ). begins_with 45 other.other ≡ begins_with 45 (drop n bytes)) begin other.sign_is;
            allowed = subst (λ (n : ℕ). Begins (GoesAs stage) ((take n bytes ++ other.other) ∷ [])) begin other.begins;
          },
          sym begin,
        )

suc_plus : (k : ℕ) → suc k + 1 ≡ suc (k + 1)
suc_plus k = omega arith

-- after a part that goes on
module _ (stage next : Stage) (part : List ℕ) (parts : List (List ℕ)) (h : step stage part ≡ Ok next) where
  begins_more : (prefix : List (List ℕ)) → Begins (GoesAs next) prefix → Begins (GoesAs stage) (part ∷ prefix)
  begins_more prefix b = (b.0, b.1, goes_step stage next part (prefix ++ b.0) h ∙ b.2)

  begins_less : (prefix : List (List ℕ)) → Begins (GoesAs stage) (part ∷ prefix) → Begins (GoesAs next) prefix
  begins_less prefix b = (b.0, b.1, sym (goes_step stage next part (prefix ++ b.0) h) ∙ b.2)

  breaks_more : (count : ℕ) → BreaksAt (GoesAs next) parts count → BreaksAt (GoesAs stage) (part ∷ parts) (suc count)
  breaks_more count b = record {
    within = let within = b.within in omega arith;
    before = begins_more (take count parts) b.before;
    there = λ inside goes_on. b.there (omega arith) (begins_less (take (count + 1) parts) (subst (λ (k : ℕ). Begins (GoesAs stage) (take k (part ∷ parts))) (suc_plus count) goes_on));
    end = λ at_end head goes_on. b.end (omega arith) head (sym (goes_step stage next part parts h) ∙ goes_on);
  }

  exceeds_more : (count : ℕ) → ExceedsAt (GoesAs next) parts count → ExceedsAt (GoesAs stage) (part ∷ parts) (suc count)
  exceeds_more count e = record {
    within = let within = e.within in omega arith;
    number = e.number;
    long = e.long;
    other = e.other;
    other_number = e.other_number;
    sign = e.sign;
    allowed = begins_more (take count parts ++ (take (number_place (part_at parts count)) (part_at parts count) ++ e.other) ∷ []) e.allowed;
  }

  exceeds_less : (count : ℕ) → ExceedsAt (GoesAs stage) (part ∷ parts) (suc count) → ExceedsAt (GoesAs next) parts count
  exceeds_less count e = record {
    within = let within = e.within in omega arith;
    number = e.number;
    long = e.long;
    other = e.other;
    other_number = e.other_number;
    sign = e.sign;
    allowed = begins_less (take count parts ++ (take (number_place (part_at parts count)) (part_at parts count) ++ e.other) ∷ []) e.allowed;
  }

broken_more : (whole : ℕ) (stage next : Stage) (part : Part) (parts : List Part) (at : ℕ) (refusal : Refusal) → step stage part.bytes ≡ Ok next → IsBroken whole next parts at refusal → IsBroken whole stage (part ∷ parts) at refusal
broken_more whole stage next part parts at Form h b = record {
  count = suc b.count;
  breaks = breaks_more stage next part.bytes (texts_of parts) h b.count b.breaks;
  place = b.place;
  kind = λ exceeds. b.kind (exceeds_less stage next part.bytes (texts_of parts) h b.count exceeds);
}
broken_more whole stage next part parts at Range h b = record {
  count = suc b.count;
  breaks = breaks_more stage next part.bytes (texts_of parts) h b.count b.breaks;
  place = b.place;
  kind = (exceeds_more stage next part.bytes (texts_of parts) h b.count b.kind.0, b.kind.1);
}

broken : (limit whole : ℕ) (stage : Stage) (parts : List Part) (at : ℕ) (refusal : Refusal) → limit ≤ 2 ^ 32 → spent stage + length parts ≤ limit → Sane limit stage → run whole stage parts ≡ Err (fault_at at refusal) →
    IsBroken whole stage parts at refusal
unfolding run
broken limit whole stage [] at refusal low room sane h = broken_end limit whole stage at refusal low (omega arith) sane h
broken limit whole stage (part ∷ parts) at refusal low room sane h = by_step (λ next keeps is. broken limit whole next parts at refusal low keeps.0 keeps.1 is) (step stage part.bytes) refl h
  where
    by_step : ((next : Stage) → (spent next + length parts ≤ limit) × Sane limit next → run whole next parts ≡ Err (fault_at at refusal) → IsBroken whole next parts at refusal) →
        (r : Result Stage Refusal) → step stage part.bytes ≡ r → (placed part.at r >>= λ next. run whole next parts) ≡ Err (fault_at at refusal) → IsBroken whole stage (part ∷ parts) at refusal
    by_step rest (Ok next) e g =
        let keeps = step_keeps limit stage part.bytes next (omega arith) sane e in
        let spends = keeps.spends in
        broken_more whole stage next part parts at refusal e (rest next (omega arith, keeps.sane) g)
    by_step rest (Err refused) e g =
        let p = placed_err {A = RegHead} part.at (Err refused) at refusal g in
        subst (λ (byte : ℕ). IsBroken whole stage (part ∷ parts) byte refusal) p.place (broken_here limit whole stage part parts refusal low (omega arith) sane (e ∙ ap (λ (r : Refusal). Err r) (same_refusal refused refusal p.refused)))

-- the same of the grammar of a `reg`
reg_begins : (prefix : List (List ℕ)) → Begins (GoesAs AtWord) prefix → Begins DerivesReg prefix
reg_begins prefix b = (b.0, b.1, reg_derived (prefix ++ b.0) b.1 b.2)

reg_goes_on : (prefix : List (List ℕ)) → Begins DerivesReg prefix → Begins (GoesAs AtWord) prefix
reg_goes_on prefix b = (b.0, b.1, reg_goes (prefix ++ b.0) b.1 b.2)

reg_breaks : (parts : List (List ℕ)) (count : ℕ) → BreaksAt (GoesAs AtWord) parts count → BreaksAt DerivesReg parts count
reg_breaks parts count b = record {
  within = b.within;
  before = reg_begins (take count parts) b.before;
  there = λ inside goes_on. b.there inside (reg_goes_on (take (count + 1) parts) goes_on);
  end = λ at_end head derives. b.end at_end head (reg_goes parts head derives);
}

reg_exceeds : (parts : List (List ℕ)) (count : ℕ) → ExceedsAt (GoesAs AtWord) parts count → ExceedsAt DerivesReg parts count
reg_exceeds parts count e = record { within = e.within; number = e.number; long = e.long; other = e.other; other_number = e.other_number; sign = e.sign; allowed = reg_begins (take count parts ++ (take (number_place (part_at parts count)) (part_at parts count) ++ e.other) ∷ []) e.allowed }

exceeds_reg : (parts : List (List ℕ)) (count : ℕ) → ExceedsAt DerivesReg parts count → ExceedsAt (GoesAs AtWord) parts count
exceeds_reg parts count e = record { within = e.within; number = e.number; long = e.long; other = e.other; other_number = e.other_number; sign = e.sign; allowed = reg_goes_on (take count parts ++ (take (number_place (part_at parts count)) (part_at parts count) ++ e.other) ∷ []) e.allowed }

few_parts : (text : List ℕ) → spent AtWord + length (parts_of text) ≤ length text + 1
unfolding parts_of
few_parts text =
    let few = length-parts (length text) (length text) (begins_in Blank (after_word text)) (after_blanks (after_word text)) in
    let less = length-after_word text in
    omega arith

reg_broken : (text : List ℕ) (at : ℕ) (refusal : Refusal) → length text < 2 ^ 32 → reg_at text ≡ Err (fault_at at refusal) → IsBroken (length text) AtWord (parts_of text) at refusal
unfolding reg_at
reg_broken text at refusal short h = broken (length text + 1) (length text) AtWord (parts_of text) at refusal (omega arith) (few_parts text) tt h

-- the fault that is read is where the parts of the text break the grammar
pub syntax_breaks : (text : List ℕ) (at : ℕ) → length text < 2 ^ 32 → reg_at text ≡ Err (Syntax at) → IsSyntaxAt DerivesReg text at
syntax_breaks text at short h =
    let b = reg_broken text at Form short h in
    record {
      first = record { count = b.count; breaks = reg_breaks (texts_of (parts_of text)) b.count b.breaks; place = b.place };
      form = λ exceeds. b.kind (exceeds_reg (texts_of (parts_of text)) b.count exceeds);
    }

pub number_breaks : (text : List ℕ) (at : ℕ) → length text < 2 ^ 32 → reg_at text ≡ Err (Number at) → IsNumberAt DerivesReg text at
number_breaks text at short h =
    let b = reg_broken text at Range short h in
    let first_byte = b.kind.1 in
    record {
      begin = at;
      first = record { count = b.count; breaks = reg_breaks (texts_of (parts_of text)) b.count b.breaks; place = b.place };
      exceeds = reg_exceeds (texts_of (parts_of text)) b.count b.kind.0;
      place = omega arith;
    }
