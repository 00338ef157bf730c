-- The lines of steps do not depend on the lines before them.
use Rattle.std.proofs.Common.{◌≡◌, ℕ, List, [], ◌∷◌, ◌++◌, Result, Ok, inl, inr, append_assoc, refl, sym, ap, ◌∙◌, subst}
use Rattle.std.proofs.lemmas.List.{append-nil}
use Rattle.digit_tuple.specs.StepResults.{Then}
use Rattle.digit_tuple.specs.Steps.{StepLog, with_lines}
use Rattle.digit_tuple.specs.declared.steps.StepLine.{StepLine}
use Rattle.automaton_steps.specs.Makings.{Making, MakesWith, DoesStep}

-- these lines are added after those of any steps under the same limit
pub record Shifted {A E : Type 0} (does : StepLog → Result A E → StepLog → Type 0) (old new : StepLog) (made : A) : Type 0 where
  pub lines : List StepLine
  pub new_is : new ≡ with_lines old lines
  pub shift : (other : StepLog) → other.limit ≡ old.limit → does other (Ok made) (with_lines other lines)

abbrev pub Shifts : {A E : Type 0} → (StepLog → Result A E → StepLog → Type 0) → Type 0
Shifts does = (old new : StepLog) (made : _) → does old (Ok made) new → Shifted does old new made

-- no line is added
pub nothing_added : (log : StepLog) → with_lines log [] ≡ log
nothing_added log = λ i. record { limit = log.limit; lines = append-nil log.lines i }

added_twice : (log : StepLog) (lines more : List StepLine) → with_lines (with_lines log lines) more ≡ with_lines log (lines ++ more)
added_twice log lines more =
    let joined : (log.lines ++ lines) ++ more ≡ log.lines ++ (lines ++ more) = append_assoc log.lines lines more in
    λ i. record { limit = log.limit; lines = joined i }

-- what adds no line shifts, where it says nothing of the lines
pub still : {A E : Type 0} (does : StepLog → Result A E → StepLog → Type 0) (old new : StepLog) (made : A) → new ≡ old → ((other : StepLog) → does other (Ok made) other) → Shifted does old new made
still does old new made same so = record {
  lines = [];
  new_is = same ∙ sym (nothing_added old);
  shift = λ other limit. subst (does other (Ok made)) (sym (nothing_added other)) (so other);
}

pub step_shifts : {Made : Type 0} (making : Making Made) → Shifts (DoesStep making)
step_shifts making old new made done = record {
  lines = done.line ∷ [];
  new_is = done.new_is;
  shift = λ other limit. record { line = done.line; step = subst (λ (most : ℕ). MakesWith most making made done.line) (sym limit) done.step; new_is = refl };
}

pub then_shifts : {A B E : Type 0} (first : StepLog → Result A E → StepLog → Type 0) (next : A → StepLog → Result B E → StepLog → Type 0) → Shifts first → ((a : A) → Shifts (next a)) → Shifts (Then first next)
then_shifts first next one more old new made (inl (a, mid, does, rest)) =
    let before = one old mid a does in
    let after = more a mid new made rest in
    let limit_kept : mid.limit ≡ old.limit = ap (λ (log : StepLog). log.limit) before.new_is in
    record {
      lines = before.lines ++ after.lines;
      new_is = after.new_is ∙ ap (λ (log : StepLog). with_lines log after.lines) before.new_is ∙ added_twice old before.lines after.lines;
      shift = λ other limit. inl (
        a,
        with_lines other before.lines,
        before.shift other limit,
        subst (next a (with_lines other before.lines) (Ok made)) (added_twice other before.lines after.lines) (after.shift (with_lines other before.lines) (limit ∙ sym limit_kept)),
      );
    }
then_shifts first next one more old new made (inr (fault, does, is)) = absurd cc
