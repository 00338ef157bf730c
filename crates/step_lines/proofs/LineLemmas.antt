-- Lists of lines of which one more is known.
use Rattle.std.proofs.Common.{◌≡◌, ℕ, ◌+◌, ◌<◌, ◌≤◌, List, [], ◌∷◌, ◌++◌, length, take, drop, get_or, Some, append_assoc, sym, ap, ◌∙◌, arith}
use Rattle.std.specs.List.{slice_get}
use Rattle.std.proofs.lemmas.List.{take_more, drop-append-le, length-take-le}
use Rattle.std.proofs.lemmas.Option.{get_or_from_slice_get}
use Rattle.digit_tuple.specs.Steps.{StepLog, with_line, with_lines}
use Rattle.digit_tuple.specs.declared.steps.StepLine.{StepLine}

-- the lines after the first so many and before a number, with the line of that number
pub one_more_after : (lines so_far more : List StepLine) (count number : ℕ) (line : StepLine) → count ≤ number → number < length lines → slice_get lines number ≡ Some line
    → so_far ≡ drop count (take number lines) → more ≡ so_far ++ line ∷ [] → more ≡ drop count (take (number + 1) lines)
one_more_after lines so_far more count number line after within is before pushed =
    let there : get_or lines number line ≡ line = get_or_from_slice_get lines number line line is in
    let taken : take (number + 1) lines ≡ take number lines ++ line ∷ [] = take_more lines number line within ∙ ap (λ (l : StepLine). take number lines ++ l ∷ []) there in
    let long : length (take number lines) ≡ number = length-take-le number lines (omega (arith, within)) in
    pushed ∙ (ap (λ (ls : List StepLine). ls ++ line ∷ []) before ∙ (sym (drop-append-le count (take number lines) (line ∷ []) (omega (arith, long, after))) ∙ sym (ap (drop count) taken)))

-- lines were added, and then one more
pub one_more_added : (old mid new : StepLog) (lines : List StepLine) (i : ℕ) (line : StepLine) → i < length lines → line ≡ get_or lines i line → mid ≡ with_lines old (take i lines)
    → new ≡ with_line mid line → new ≡ with_lines old (take (i + 1) lines)
one_more_added old mid new lines i line within is before pushed =
    let taken : take (i + 1) lines ≡ take i lines ++ line ∷ [] = take_more lines i line within ∙ ap (λ (l : StepLine). take i lines ++ l ∷ []) (sym is) in
    let joined : (old.lines ++ take i lines) ++ line ∷ [] ≡ old.lines ++ take (i + 1) lines = append_assoc old.lines (take i lines) (line ∷ []) ∙ sym (ap (λ (ls : List StepLine). old.lines ++ ls) taken) in
    pushed ∙ (ap (λ (log : StepLog). with_line log line) before ∙ (λ i. record { limit = old.limit; lines = joined i }))
