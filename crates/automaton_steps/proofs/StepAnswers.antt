-- A step has one answer where it makes one value, and where its words are alike by an equivalence.
use Rattle.std.proofs.Common.{◌≡◌, ◌⊎◌, inl, inr, ℕ, ◌+◌, length, Result, Ok, Err, refl, sym, ◌∙◌, ap, arith}
use Rattle.digit_tuple.specs.Deterministic.{states_of}
use Rattle.digit_tuple.specs.Letters.{product}
use Rattle.digit_tuple.specs.StepResults.{IsDone, ExceedsLetters, ExceedsWidth}
use Rattle.digit_tuple.specs.Steps.{StepLog, with_line}
use Rattle.digit_tuple.specs.Width.{IsEquivalence}
use Rattle.digit_tuple.specs.declared.step_fault.StepFault.{StepFault}
use Rattle.digit_tuple.specs.declared.step_fault.StepFault.TheVariants.{Letters, States, Memory}
use Rattle.digit_tuple.specs.declared.steps.StepLine.{StepLine}
use Rattle.digit_tuple.proofs.LetterLemmas.{not_too_large}
use Rattle.digit_tuple.proofs.WidthLemmas.{IsOneWidth-equivalence}
use Rattle.automaton_steps.specs.Laws.{HasOneOutcome}
use Rattle.automaton_steps.specs.OneAnswers.{AreOneAnswer}
use Rattle.automaton_steps.specs.Makings.{Making, MakesWith, IsRefusedStep}

module _ {Made : Type 0} (making : Making Made) (equivalence : IsEquivalence making.step.alike) (one : (made other : Made) → making.IsMade made → making.IsMade other → made ≡ other) where
  one_line : (limit : ℕ) (made other : Made) (line next : StepLine) → MakesWith limit making made line → MakesWith limit making other next → line ≡ next
  one_line limit made other line next a b =
      let width = IsOneWidth-equivalence making.step.alike (product making.step.sizes) equivalence in
      let kinds : line.kind ≡ next.kind = a.line_is.kind_is ∙ sym b.line_is.kind_is in
      let widths : line.width ≡ next.width = width.one line.width next.width a.line_is.width b.line_is.width in
      let states : states_of (making.automaton_of made) ≡ states_of (making.automaton_of other) = ap (λ (m : Made). states_of (making.automaton_of m)) (one made other a.made_is b.made_is) in
      let sizes : line.size ≡ next.size = a.line_is.size_is ∙ (states ∙ sym b.line_is.size_is) in
      λ i. record { kind = kinds i; width = widths i; size = sizes i }

  same_done : (old new next : StepLog) (made other : Made) → IsDone old (MakesWith old.limit making made) new → IsDone old (MakesWith old.limit making other) next
      → AreOneAnswer Memory (Ok made) (Ok other) new next
  same_done old new next made other a b =
      inl (
        ap Ok (one made other a.step.made_is b.step.made_is),
        a.new_is ∙ ap (with_line old) (one_line old.limit made other a.line b.line a.step b.step) ∙ sym b.new_is,
      )

  -- a step that is done passes no limit
  passes_none : (old : StepLog) (made : Made) (line : StepLine) (fault : StepFault) → MakesWith old.limit making made line → IsRefusedStep old making.step fault → fault ≡ Memory
  passes_none old made line (Letters n) a refused = absurd (not_too_large making.step.sizes a.line_is.alphabet refused.1)
  passes_none old made line (States n) a refused =
      let width = IsOneWidth-equivalence making.step.alike (product making.step.sizes) equivalence in
      absurd (width.excludes (old.limit + 1) line.width (omega (arith, a.line_is.within)) a.line_is.width refused.1.apart)
  passes_none old made line Memory a refused = refl

  one_limit : (old : StepLog) (fault other : StepFault) → IsRefusedStep old making.step fault → IsRefusedStep old making.step other → (fault ≡ other) ⊎ ((fault ≡ Memory) ⊎ (other ≡ Memory))
  one_limit old (Letters m) (Letters n) a b = inl (ap Letters (a.0 ∙ sym b.0))
  one_limit old (Letters m) (States n) a b = absurd (not_too_large making.step.sizes b.1.alphabet a.1)
  one_limit old (States m) (Letters n) a b = absurd (not_too_large making.step.sizes a.1.alphabet b.1)
  one_limit old (States m) (States n) a b = inl (ap States (a.0 ∙ sym b.0))
  one_limit old Memory other a b = inr (inl refl)
  one_limit old (Letters m) Memory a b = inr (inr refl)
  one_limit old (States m) Memory a b = inr (inr refl)

  same_refused : (old new next : StepLog) (fault other : StepFault) → (new ≡ old) → (next ≡ old) → (fault ≡ other) ⊎ ((fault ≡ Memory) ⊎ (other ≡ Memory))
      → AreOneAnswer {Made = Made} Memory (Err fault) (Err other) new next
  same_refused old new next fault other first second (inl same) = inl (ap Err same, first ∙ sym second)
  same_refused old new next fault other first second (inr (inl out)) = inr (inl (ap Err out))
  same_refused old new next fault other first second (inr (inr out)) = inr (inr (ap Err out))

  pub step_one : HasOneOutcome making
  step_one old new next (Ok made) (Ok other) a b = same_done old new next made other a b
  step_one old new next (Ok made) (Err fault) a b = inr (inr (ap Err (passes_none old made a.line fault a.step b.0)))
  step_one old new next (Err fault) (Ok made) a b = inr (inl (ap Err (passes_none old made b.line fault b.step a.0)))
  step_one old new next (Err fault) (Err other) a b = same_refused old new next fault other a.1 b.1 (one_limit old fault other a.0 b.0)
