-- A step has one result: canonical automata over the same tracks with one language are equal.
use Rattle.std.proofs.Common.{◌≡◌, ◌↔◌, ℕ, List, IsTrue, sym, ◌∙◌, subst}
use Rattle.digit_tuple.specs.Deterministic.{Automaton, accepts_of}
use Rattle.digit_tuple.specs.Letters.{IsWord, product}
use Rattle.digit_tuple.proofs.TruthLemmas.{same_tests}
use Rattle.minimise.specs.Canonical.{IsCanonical}
use Rattle.minimise.proofs.CanonicalLemmas.{canonical_forms}
use Rattle.product_op.specs.declared.op.Op.{Op}
use Rattle.automaton_steps.proofs.StepAnswers.{step_one}
use Rattle.lang_ops.specs.Concatenation.{IsConcatenated}
use Rattle.lang_ops.specs.ConcatSteps.{IsConcatAutomaton, concat_step}
use Rattle.lang_ops.specs.Laws.{ConcatHasOneOutcome, ProductHasOneOutcome, StarHasOneOutcome}
use Rattle.lang_ops.specs.ProductSteps.{IsCombination, product_step}
use Rattle.lang_ops.specs.Star.{IsStarred}
use Rattle.lang_ops.specs.StarSteps.{IsStarAutomaton, star_step}
use Rattle.lang_ops.proofs.WidthLaws.{IsEquivalence-concat, IsEquivalence-pair, IsEquivalence-star}

-- both are canonical over these sizes, and accept the same words
one_automaton : (sizes : List ℕ) (d e : Automaton) → IsCanonical d → IsCanonical e → d.sizes ≡ sizes → e.sizes ≡ sizes → ((w : List ℕ) → IsWord (product sizes) w → accepts_of d w ≡ accepts_of e w) → d ≡ e
one_automaton sizes d e one other first second same =
    canonical_forms d e one other (first ∙ sym second) (λ w over. same w (subst (λ (s : List ℕ). IsWord (product s) w) first over))

by_fact : (v w : Automaton) (P : Type 0) (word : List ℕ) → (IsTrue (accepts_of v word) ↔ P) → (IsTrue (accepts_of w word) ↔ P) → accepts_of v word ≡ accepts_of w word
by_fact v w P word one other = same_tests (accepts_of v word) (accepts_of w word) (λ is. other.1 (one.0 is), λ is. one.1 (other.0 is))

one_concat : (a b d e : Automaton) → IsConcatAutomaton a b d → IsConcatAutomaton a b e → d ≡ e
one_concat a b d e one other =
    one_automaton a.sizes d e one.canonical other.canonical one.sizes other.sizes (λ w over. by_fact d e (IsConcatenated a b w) w (one.language w over) (other.language w over))

one_star : (a d e : Automaton) → IsStarAutomaton a d → IsStarAutomaton a e → d ≡ e
one_star a d e one other =
    one_automaton a.sizes d e one.canonical other.canonical one.sizes other.sizes (λ w over. by_fact d e (IsStarred a w) w (one.language w over) (other.language w over))

one_combination : (op : Op) (a b d e : Automaton) → IsCombination op a b d → IsCombination op a b e → d ≡ e
one_combination op a b d e one other = one_automaton a.sizes d e one.canonical other.canonical one.sizes other.sizes (λ w over. one.language w over ∙ sym (other.language w over))

pub concat_one : ConcatHasOneOutcome
concat_one a b = step_one (concat_step a b) (IsEquivalence-concat a b) (one_concat a b)

pub star_one : StarHasOneOutcome
star_one a = step_one (star_step a) (IsEquivalence-star a) (one_star a)

pub product_one : ProductHasOneOutcome
product_one op a b = step_one (product_step op a b) (IsEquivalence-pair a b) (one_combination op a b)
