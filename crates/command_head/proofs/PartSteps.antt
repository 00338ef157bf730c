-- The parts of a rest, one after another.
use Rattle.std.proofs.Common.{◌≡◌, ℕ, zero, suc, ◌-◌, ◌<◌, ◌≤◌, Bool, true, false, cond, ◌==◌, List, [], ◌∷◌, length, drop, Result, Ok, Err, refl, sym, ◌∙◌, arith, length-drop}
use Rattle.std.proofs.lemmas.Bool.{eqb-true, ne_eqb}
use Rattle.text_grammar.specs.declared.class.Class.TheVariants.{Blank, Digit, Word}
use Rattle.text_grammar.specs.Bytes.{is_letter}
use Rattle.text_grammar.specs.Prefixes.{begins_in, prefix_len}
use Rattle.command_head.specs.declared.fault.HeadFault.{HeadFault}
use Rattle.command_head.specs.Readings.{placed}
use Rattle.text_grammar.specs.Numbers.{begins_with, unsigned}
use Rattle.command_head.specs.Parts.{part_len, after_blanks, after_first, first_in, after_word, parts_of_rest}
use Rattle.command_head.specs.Heads.{RegHead, Stage, step, ended, run}
use Rattle.command_head.proofs.PrefixSteps.{length-after_prefix}
use Rattle.command_head.proofs.PartShape.{letter-name_byte}

above : (c : Bool) (x y : ℕ) → (c ≡ true → 0 < x) → (c ≡ false → 0 < y) → 0 < cond c x y
above true x y f g = f refl
above false x y f g = g refl

digits_some : (bytes : List ℕ) → begins_in Digit bytes ≡ true → 0 < prefix_len Digit bytes
digits_some [] h = cc
digits_some (b ∷ bs) h = rw h (omega arith)

-- a part has a byte at least
pub part_len-some : (b : ℕ) (bs : List ℕ) → 0 < part_len (b ∷ bs)
unfolding part_len
part_len-some b bs = above (is_letter b) _ _ (λ h. rw (letter-name_byte b h) (omega arith))
    (λ _. above (begins_in Digit (unsigned (b ∷ bs))) _ _ (λ h. let some = digits_some (unsigned (b ∷ bs)) h in rw (ne_eqb (prefix_len Digit (unsigned (b ∷ bs))) 0 (λ e. omega arith)) (omega arith))
    (λ _. above (begins_with 34 (b ∷ bs)) _ _ (λ _. omega arith) (λ _. omega arith)))

pub length-after_part : (b : ℕ) (bs : List ℕ) → length (after_blanks (after_first (b ∷ bs))) < length (b ∷ bs)
length-after_part b bs =
    let some = part_len-some b bs in
    let less = length-after_prefix Blank (drop (part_len (b ∷ bs)) (b ∷ bs)) in
    omega (arith, length-drop (part_len (b ∷ bs)) (b ∷ bs))

-- there are no more parts than bytes
pub length-parts : (count whole : ℕ) (blank : Bool) (rest : List ℕ) → length (parts_of_rest count whole blank rest) ≤ length rest
unfolding parts_of_rest
length-parts zero whole blank rest = omega arith
length-parts (suc count) whole blank [] = omega arith
length-parts (suc count) whole blank (b ∷ bs) =
    let fewer = length-after_part b bs in
    let more = length-parts count whole (begins_in Blank (after_first (b ∷ bs))) (after_blanks (after_first (b ∷ bs))) in
    omega arith

-- there are no more bytes after the first word and its blanks than in the text
pub length-after_word : (text : List ℕ) → length (after_blanks (after_word text)) ≤ length text
length-after_word text = omega (arith, length-after_prefix Word text, length-after_prefix Blank (after_word text))

-- one part more, and those after it
pub run_more : (count whole : ℕ) (stage next : Stage) (blank : Bool) (rest : List ℕ) (all : Result RegHead HeadFault) → 0 < length rest → length rest ≤ count →
    placed (whole - length rest) (step stage (first_in blank rest)) ≡ Ok next → run whole stage (parts_of_rest count whole blank rest) ≡ all →
    (left : ℕ) × (length (after_blanks (after_first rest)) ≤ left) × (run whole next (parts_of_rest left whole (begins_in Blank (after_first rest)) (after_blanks (after_first rest))) ≡ all)
unfolding run parts_of_rest
run_more count whole stage next blank [] all some room h goal = absurd (omega arith)
run_more zero whole stage next blank (b ∷ bs) all some room h goal = absurd (omega arith)
run_more (suc count) whole stage next blank (b ∷ bs) all some room h goal =
    let fewer = length-after_part b bs in
    (count, omega arith, sym (rw h refl) ∙ goal)

-- a part that is refused
pub run_refused : (count whole : ℕ) (stage : Stage) (blank : Bool) (rest : List ℕ) → 0 < length rest → length rest ≤ count → (e : HeadFault) →
    placed (whole - length rest) (step stage (first_in blank rest)) ≡ Err e → run whole stage (parts_of_rest count whole blank rest) ≡ Err e
unfolding run parts_of_rest
run_refused count whole stage blank [] some room e h = absurd (omega arith)
run_refused zero whole stage blank (b ∷ bs) some room e h = absurd (omega arith)
run_refused (suc count) whole stage blank (b ∷ bs) some room e h = rw h refl

-- no part more
pub run_ends : (count whole : ℕ) (stage : Stage) (blank : Bool) (rest : List ℕ) → (length rest == 0) ≡ true → run whole stage (parts_of_rest count whole blank rest) ≡ placed whole (ended stage)
unfolding run parts_of_rest
run_ends zero whole stage blank [] h = refl
run_ends (suc count) whole stage blank [] h = refl
run_ends count whole stage blank (b ∷ bs) h = let none = eqb-true (length (b ∷ bs)) 0 h in absurd (omega arith)
