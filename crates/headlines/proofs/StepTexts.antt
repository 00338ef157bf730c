-- What is printed of an accepted command, the lines of its steps, each one line, and its verdict or text; and of a refused one.
use Rattle.std.proofs.Common.{◌≡◌, ◌≢◌, ℕ, zero, suc, ◌+◌, ◌<◌, ◌/◌, ◌%◌, ◌==◌, Bool, true, false, not, ◌&&◌, cond, List, [], ◌∷◌, ◌++◌, Option, None, Some, codes, decimal, refl, sym, ap, ◌∙◌, arith}
use Rattle.std.specs.List.{AllByRecursion, flat_map, list_all}
use Rattle.std.specs.Fmt.{digit_glyph, digits_onto, digits}
use Rattle.std.proofs.lemmas.Bool.{lt-ltb, eqb-false, false≢true}
use Rattle.std.proofs.lemmas.List.{append_assoc}
use Rattle.digit_tuple.specs.Kinds.{kind_name}
use Rattle.digit_tuple.specs.declared.kind.Kind.{Kind}
use Rattle.digit_tuple.specs.declared.kind.Kind.TheVariants as kinds
use Rattle.digit_tuple.specs.declared.steps.StepLine.{StepLine}
use Rattle.command_head.proofs.PartShape.{all-append}
use Rattle.command_parts.specs.declared.fault.Fault.{Fault}
use Rattle.command_parts.specs.Accepting.{Success, Said}
use Rattle.command_parts.specs.Lines.{step_line, step_lines, verdict_line, success_text, said_text, detail, fault_line}
use Rattle.headlines.specs.Sentences.{HasNo}
use Rattle.headlines.specs.RunVerdicts.{step_text, verdict_text, IsAccepted, IsRefused}
use Rattle.headlines.specs.Listings.{IsPrinted}

-- no line feed is in a text of which each byte was looked at
looked_first : (b : ℕ) (rest : Bool) (more : Type 0) (t : Bool) → (b == 10) ≡ t → (rest ≡ true → more) → (not t && rest) ≡ true → (b ≢ 10) × more
looked_first b rest more true same on is = absurd (false≢true is)
looked_first b rest more false other on is = (eqb-false b 10 other, on is)

looked_at : (text : List ℕ) → list_all (λ b. not (b == 10)) text ≡ true → HasNo 10 text
looked_at [] is = tt
looked_at (b ∷ bs) is = looked_first b (list_all (λ b. not (b == 10)) bs) (HasNo 10 bs) (b == 10) refl (looked_at bs) is

kind_single : (kind : Kind) → HasNo 10 (kind_name kind)
kind_single kinds.Read = looked_at (kind_name kinds.Read) refl
kind_single kind = looked_at (kind_name kind) refl

digit_single : (d : ℕ) → d < 10 → digit_glyph false d ≢ 10
digit_single d h = rw (lt-ltb d 10 h) (λ is. absurd (omega (arith, is)))

one_of : (b : Bool) (xs ys : List ℕ) → HasNo 10 xs → HasNo 10 ys → HasNo 10 (cond b xs ys)
one_of true xs ys first second = first
one_of false xs ys first second = second

digits_single : (k n : ℕ) (more : List ℕ) → HasNo 10 more → HasNo 10 (digits_onto k 10 false n more)
digits_single zero n more single = single
digits_single (suc k) n more single =
    let low : n % 10 < 10 = omega arith in
    one_of (n / 10 == 0) (digit_glyph false (n % 10) ∷ more) (digits_onto k 10 false (n / 10) (digit_glyph false (n % 10) ∷ more)) (digit_single (n % 10) low, single)
    (digits_single k (n / 10) (digit_glyph false (n % 10) ∷ more) (digit_single (n % 10) low, single))

number_single : (n : ℕ) → HasNo 10 (decimal n)
unfolding digits
number_single n = digits_single 64 n [] tt

both : (xs ys : List ℕ) → HasNo 10 xs → HasNo 10 ys → HasNo 10 (xs ++ ys)
both xs ys = all-append (λ b. b ≢ 10) xs ys

blank_single : HasNo 10 (codes " ")
blank_single = looked_at (codes " ") refl

-- what is in the line of a step
abbrev body_of : ℕ → StepLine → List ℕ
body_of number step = (decimal number ++ (codes " " ++ kind_name step.kind)) ++ ((codes " " ++ decimal step.width) ++ (codes " " ++ decimal step.size))

body_single : (number : ℕ) (step : StepLine) → HasNo 10 (body_of number step)
body_single number step =
    both (decimal number ++ (codes " " ++ kind_name step.kind)) ((codes " " ++ decimal step.width) ++ (codes " " ++ decimal step.size))
    (both (decimal number) (codes " " ++ kind_name step.kind) (number_single number) (both (codes " ") (kind_name step.kind) blank_single (kind_single step.kind)))
    (both (codes " " ++ decimal step.width) (codes " " ++ decimal step.size) (both (codes " ") (decimal step.width) blank_single (number_single step.width)) (both (codes " ") (decimal step.size) blank_single (number_single step.size)))

joined : (a b c d e f : List ℕ) → ((a ++ b) ++ c) ++ (d ++ (e ++ f)) ≡ a ++ (((b ++ c) ++ (d ++ e)) ++ f)
joined a b c d e f =
    ap (λ (l : List ℕ). l ++ (d ++ (e ++ f))) (append_assoc a b c)
    ∙ append_assoc a (b ++ c) (d ++ (e ++ f))
    ∙ ap (λ (l : List ℕ). a ++ l) (ap (λ (l : List ℕ). (b ++ c) ++ l) (sym (append_assoc d e f)) ∙ sym (append_assoc (b ++ c) (d ++ e) f))

line_is : (number : ℕ) (step : StepLine) → step_line number step ≡ step_text (body_of number step)
line_is number step = joined (codes "step ") (decimal number) (codes " " ++ kind_name step.kind) (codes " " ++ decimal step.width) (codes " " ++ decimal step.size) (codes "\n")

abbrev bodies_of : ℕ → List StepLine → List (List ℕ)
bodies_of number [] = []
bodies_of number (step ∷ steps) = body_of number step ∷ bodies_of (suc number) steps

bodies_single : (number : ℕ) (steps : List StepLine) → AllByRecursion (HasNo 10) (bodies_of number steps)
bodies_single number [] = tt
bodies_single number (step ∷ steps) = (body_single number step, bodies_single (suc number) steps)

lines_are : (number : ℕ) (steps : List StepLine) → step_lines number steps ≡ flat_map step_text (bodies_of number steps)
lines_are number [] = refl
lines_are number (step ∷ steps) = λ i. line_is number step i ++ lines_are (suc number) steps i

verdict_is : (verdict : Option Bool) → verdict_line verdict ≡ verdict_text verdict
verdict_is None = refl
verdict_is (Some true) = refl
verdict_is (Some false) = refl

pub accepted_line : (shown : Bool) (success : Success) → IsAccepted (success_text shown success) success.verdict
accepted_line true success = record { steps = bodies_of 1 success.lines; single = bodies_single 1 success.lines; line_is = λ i. lines_are 1 success.lines i ++ verdict_is success.verdict i }
accepted_line false success = record { steps = []; single = tt; line_is = verdict_is success.verdict }

pub said_line : (shown : Bool) (said : Said) → IsPrinted shown (said_text shown said) said.text
said_line true said = record { steps = bodies_of 1 said.lines; single = bodies_single 1 said.lines; hidden = λ is. absurd (false≢true (sym is)); printed_is = λ i. lines_are 1 said.lines i ++ said.text }
said_line false said = record { steps = []; single = tt; hidden = λ is. refl; printed_is = refl }

pub refused_line : (line : ℕ) (fault : Fault) → IsRefused (fault_line line fault)
refused_line line fault = (decimal line ++ (detail fault ++ codes "\n"), append_assoc (codes "error ") (decimal line) (detail fault ++ codes "\n"))
