-- The lines of steps, and one more.
use Rattle.std.proofs.Common.{◌≡◌, ℕ, ◌+◌, ◌<◌, suc, List, [], ◌∷◌, ◌++◌, take, length, get_or, Some, sym, ap, ◌∙◌, arith, append_assoc, append-nil}
use Rattle.std.specs.Prelude.{slice_get}
use Rattle.std.proofs.lemmas.List.{take_more, length-take}
use Rattle.std.proofs.lemmas.Option.{slice_get_within, get_or_from_slice_get}
use Rattle.digit_tuple.specs.declared.steps.StepLine.{StepLine}
use Rattle.command_parts.specs.Lines.{step_line, step_lines}

step_lines-more : (n : ℕ) (steps : List StepLine) (step : StepLine) → step_lines n (steps ++ step ∷ []) ≡ step_lines n steps ++ step_line (n + length steps) step
step_lines-more n [] step = let e : n + 0 ≡ n = omega arith in rw e (append-nil (step_line n step))
step_lines-more n (first ∷ steps) step =
    let e : suc n + length steps ≡ n + length (first ∷ steps) = omega arith in
    ap (λ (text : List ℕ). step_line n first ++ text) (step_lines-more (suc n) steps step)
    ∙ (sym (append_assoc (step_line n first) (step_lines (suc n) steps) (step_line (suc n + length steps) step))
    ∙ ap (λ (k : ℕ). (step_line n first ++ step_lines (suc n) steps) ++ step_line k step) e)

-- a step more
pub one_line_more : (steps : List StepLine) (k : ℕ) (step : StepLine) → slice_get steps k ≡ Some step → step_lines 1 (take (k + 1) steps) ≡ step_lines 1 (take k steps) ++ step_line (k + 1) step
one_line_more steps k step at =
    let inside : k < length steps = slice_get_within steps k step at in
    let same : get_or steps k step ≡ step = get_or_from_slice_get steps k step step at in
    let count : 1 + length (take k steps) ≡ k + 1 = omega (arith, length-take k steps) in
    ap (step_lines 1) (take_more steps k step inside ∙ ap (λ (x : StepLine). take k steps ++ x ∷ []) same)
    ∙ (step_lines-more 1 (take k steps) step ∙ ap (λ (n : ℕ). step_lines 1 (take k steps) ++ step_line n step) count)
