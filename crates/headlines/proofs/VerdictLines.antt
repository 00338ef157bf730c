-- The line of a verdict is the end of what a command prints that has a verdict, and of no other.
use Rattle.std.proofs.Common.{◌≡◌, ℕ, zero, suc, ◌<◌, ◌/◌, ◌%◌, ◌==◌, Bool, true, false, cond, List, [], ◌∷◌, ◌++◌, reverse, get_or, Option, None, Some, codes, decimal, refl, sym, ap, ◌∙◌, subst, inl, inr, ◌⊎◌, arith}
use Rattle.std.specs.Fmt.{digit_glyph, digits_onto, digits}
use Rattle.std.proofs.lemmas.Bool.{lt-ltb}
use Rattle.std.proofs.lemmas.List.{append_assoc, append-nil, reverse-append}
use Rattle.digit_tuple.specs.Kinds.{kind_name}
use Rattle.digit_tuple.specs.declared.steps.StepLine.{StepLine}
use Rattle.command_parts.specs.Lines.{step_line, step_lines, shown_steps, verdict_line}
use Rattle.headlines.specs.Sentences.{truth_line}

-- the text ends with a digit and a line feed
record EndsInDigit (text : List ℕ) : Type 0 where
  before : List ℕ
  digit : ℕ
  is : text ≡ before ++ (digit ∷ 10 ∷ [])
  low : digit < 58

-- digits before others
prefixed : (k n : ℕ) (more : List ℕ) → (before : List ℕ) × (digits_onto k 10 false n more ≡ before ++ more)
prefixed zero n more = ([], refl)
prefixed (suc k) n more = by (n / 10 == 0) (prefixed k (n / 10) (digit_glyph false (n % 10) ∷ more))
  where
    by : (b : Bool) → (before : List ℕ) × (digits_onto k 10 false (n / 10) (digit_glyph false (n % 10) ∷ more) ≡ before ++ (digit_glyph false (n % 10) ∷ more))
        → (before : List ℕ) × (cond b (digit_glyph false (n % 10) ∷ more) (digits_onto k 10 false (n / 10) (digit_glyph false (n % 10) ∷ more)) ≡ before ++ more)
    by true rest = (digit_glyph false (n % 10) ∷ [], refl)
    by false rest = (rest.0 ++ digit_glyph false (n % 10) ∷ [], rest.1 ∙ sym (append_assoc rest.0 (digit_glyph false (n % 10) ∷ []) more))

glyph_low : (d : ℕ) → d < 10 → digit_glyph false d < 58
glyph_low d h = rw (lt-ltb d 10 h) (omega arith)

-- a number ends with a digit
last_digit : (n : ℕ) → (before : List ℕ) × (decimal n ≡ before ++ (digit_glyph false (n % 10) ∷ []))
unfolding digits
last_digit n = by (n / 10 == 0) (prefixed 63 (n / 10) (digit_glyph false (n % 10) ∷ []))
  where
    by : (b : Bool) → (before : List ℕ) × (digits_onto 63 10 false (n / 10) (digit_glyph false (n % 10) ∷ []) ≡ before ++ (digit_glyph false (n % 10) ∷ []))
        → (before : List ℕ) × (cond b (digit_glyph false (n % 10) ∷ []) (digits_onto 63 10 false (n / 10) (digit_glyph false (n % 10) ∷ [])) ≡ before ++ (digit_glyph false (n % 10) ∷ []))
    by true rest = ([], refl)
    by false rest = rest

number_ends : (before : List ℕ) (n : ℕ) → EndsInDigit ((before ++ decimal n) ++ codes "\n")
number_ends before n =
    let last = last_digit n in
    let below : n % 10 < 10 = omega arith in
    record {
      before = before ++ last.0;
      digit = digit_glyph false (n % 10);
      is = ap (λ (l : List ℕ). (before ++ l) ++ codes "\n") last.1
          ∙ append_assoc before (last.0 ++ (digit_glyph false (n % 10) ∷ [])) (10 ∷ [])
          ∙ ap (λ (l : List ℕ). before ++ l) (append_assoc last.0 (digit_glyph false (n % 10) ∷ []) (10 ∷ []))
          ∙ sym (append_assoc before last.0 (digit_glyph false (n % 10) ∷ 10 ∷ []));
      low = glyph_low (n % 10) below;
    }

ends_after : (before text : List ℕ) → EndsInDigit text → EndsInDigit (before ++ text)
ends_after before text e = record {
  before = before ++ e.before;
  digit = e.digit;
  is = ap (λ (l : List ℕ). before ++ l) e.is ∙ sym (append_assoc before e.before (e.digit ∷ 10 ∷ []));
  low = e.low;
}

line_ends : (number : ℕ) (step : StepLine) → EndsInDigit (step_line number step)
line_ends number step =
    ends_after ((codes "step " ++ decimal number) ++ (codes " " ++ kind_name step.kind)) ((codes " " ++ decimal step.width) ++ ((codes " " ++ decimal step.size) ++ codes "\n"))
    (ends_after (codes " " ++ decimal step.width) ((codes " " ++ decimal step.size) ++ codes "\n") (number_ends (codes " ") step.size))

-- the lines of steps end so, unless there is none
lines_end : (number : ℕ) (steps : List StepLine) → (step_lines number steps ≡ []) ⊎ EndsInDigit (step_lines number steps)
lines_end number [] = inl refl
lines_end number (step ∷ steps) = inr (by (lines_end (suc number) steps))
  where
    by : (step_lines (suc number) steps ≡ []) ⊎ EndsInDigit (step_lines (suc number) steps) → EndsInDigit (step_line number step ++ step_lines (suc number) steps)
    by (inl none) = subst EndsInDigit (sym (append-nil (step_line number step)) ∙ ap (λ (l : List ℕ). step_line number step ++ l) (sym none)) (line_ends number step)
    by (inr some) = ends_after (step_line number step) (step_lines (suc number) steps) some

shown_end : (shown : Bool) (steps : List StepLine) → (shown_steps shown steps ≡ []) ⊎ EndsInDigit (shown_steps shown steps)
shown_end true steps = lines_end 1 steps
shown_end false steps = inl refl

-- the last byte but one, and the one before it
abbrev second : List ℕ → ℕ
second text = get_or (reverse text) 1 0

abbrev third : List ℕ → ℕ
third text = get_or (reverse text) 2 0

second_digit : (text : List ℕ) → EndsInDigit text → second text < 58
second_digit text e = subst (λ (n : ℕ). n < 58) (sym (ap second e.is ∙ ap (λ (l : List ℕ). get_or l 1 0) (reverse-append e.before (e.digit ∷ 10 ∷ [])))) e.low

second_truth : (before : List ℕ) (truth : Bool) → second (before ++ truth_line truth) ≡ 69
second_truth before true = ap (λ (l : List ℕ). get_or l 1 0) (reverse-append before (codes "TRUE\n"))
second_truth before false = ap (λ (l : List ℕ). get_or l 1 0) (reverse-append before (codes "FALSE\n"))

third_truth : (before : List ℕ) (truth : Bool) → third (before ++ truth_line truth) ≡ cond truth 85 83
third_truth before true = ap (λ (l : List ℕ). get_or l 2 0) (reverse-append before (codes "TRUE\n"))
third_truth before false = ap (λ (l : List ℕ). get_or l 2 0) (reverse-append before (codes "FALSE\n"))

same_truth : (b truth : Bool) → ◌≡◌ {A = ℕ} (cond truth 85 83) (cond b 85 83) → Some b ≡ Some truth
same_truth true true is = refl
same_truth false false is = refl
same_truth true false is = let differ : ◌≡◌ {A = ℕ} 83 85 = is in absurd (omega (arith, differ))
same_truth false true is = let differ : ◌≡◌ {A = ℕ} 85 83 = is in absurd (omega (arith, differ))

of_line : (steps before : List ℕ) (b truth : Bool) → before ++ truth_line truth ≡ steps ++ truth_line b → Some b ≡ Some truth
of_line steps before b truth is = same_truth b truth (sym (third_truth before truth) ∙ ap third is ∙ third_truth steps b)

verdict_of : (steps : List ℕ) → (steps ≡ []) ⊎ EndsInDigit steps → (verdict : Option Bool) (before : List ℕ) (truth : Bool) → before ++ truth_line truth ≡ steps ++ verdict_line verdict → verdict ≡ Some truth
verdict_of steps ends (Some true) before truth is = of_line steps before true truth is
verdict_of steps ends (Some false) before truth is = of_line steps before false truth is
verdict_of steps (inl none) None before truth is =
    let text : before ++ truth_line truth ≡ [] = is ∙ append-nil steps ∙ none in
    let differ : ◌≡◌ {A = ℕ} 69 0 = sym (second_truth before truth) ∙ ap second text in
    absurd (omega (arith, differ))
verdict_of steps (inr some) None before truth is =
    let text : second steps ≡ 69 = sym (ap second (is ∙ append-nil steps)) ∙ second_truth before truth in
    absurd (omega (arith, second_digit steps some, text))

-- what is printed of an accepted command ends with the line of a verdict if and only if that is the command's
pub printed_verdict : (shown : Bool) (steps : List StepLine) (verdict : Option Bool) (before : List ℕ) (truth : Bool) → before ++ truth_line truth ≡ shown_steps shown steps ++ verdict_line verdict → verdict ≡ Some truth
printed_verdict shown steps verdict before truth is = verdict_of (shown_steps shown steps) (shown_end shown steps) verdict before truth is
