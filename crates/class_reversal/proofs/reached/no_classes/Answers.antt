use Rattle.std.proofs.Common.{◌≡◌, ◌+◌, ◌++◌, ℕ, List, reverse, sym, ap, ◌∙◌, subst, arith}
use Rattle.std.proofs.lemmas.Result.{IfOk-from_err}
use Rattle.digit_tuple.specs.Deterministic.{Automaton, letters_of, states_of}
use Rattle.digit_tuple.specs.NoWords.{bare_automaton}
use Rattle.digit_tuple.specs.Width.{HasApart, HasWidth}
use Rattle.digit_tuple.specs.declared.faults.OpFault.TheVariants.{Letters, States}
use Rattle.digit_tuple.proofs.WidthLemmas.{HasApart-one, HasWidth-one}
use Rattle.residual_classes.specs.ClassFunctions.{class_after}
use Rattle.minimise.specs.Canonical.{IsCanonicalWithClasses}
use Rattle.class_reversal.specs.ReversedClasses.{SameReversedClassAfter}
use Rattle.class_reversal.proofs.BareLemmas.{bare_classes, class_after-bare}
use Rattle.class_reversal.proofs.FaultLemmas.{fault_of_call, no_fault, no_letters, no_states}
use Rattle.class_reversal.proofs.ReversalLemmas.{no_class_after}
use Rattle.class_reversal.proofs.reached.no_classes.Goals as goal

pub returns-in_err-result-clause-states : goal.returns-in_err-result-clause-states
returns-in_err-result-clause-states c refused =
    let d = c.args.d.now in
    let classes = c.args.classes.now in
    let fault = fault_of_call c.from_residual.result c.no_words_within.result c.in_err-result.field-0.0 States c.in_err-result.was c.from_residual.ensures.1 refused in
    let one : 1 ≡ c.args.limit.most + 1 = omega (arith, c.no_words_within.ensures.states.0 fault) in
    subst (HasApart (SameReversedClassAfter d classes) (letters_of d)) one (HasApart-one (SameReversedClassAfter d classes) (letters_of d))

pub returns-clause-canonical : goal.returns-clause-canonical
returns-clause-canonical c =
    subst (λ (e : Automaton). IsCanonicalWithClasses e c.in_ok-classes.classes.items) (sym c.in_ok-result.ensures.no_words)
    (subst (λ (classes : List ℕ). IsCanonicalWithClasses (bare_automaton c.args.alphabet) classes) (sym c.in_ok-classes.ensures.items) (bare_classes c.args.alphabet))

pub returns-clause-function : goal.returns-clause-function
returns-clause-function c w over =
    ap (λ (e : Automaton). class_after e c.in_ok-classes.classes.items w) c.in_ok-result.ensures.no_words
    ∙ ap (λ (classes : List ℕ). class_after (bare_automaton c.args.alphabet) classes w) c.in_ok-classes.ensures.items
    ∙ class_after-bare c.args.alphabet w
    ∙ sym (no_class_after c.args.d.now c.args.classes.now c.requires.count c.requires.none (reverse w))

pub returns-clause-width : goal.returns-clause-width
returns-clause-width c =
    let d = c.args.d.now in
    let classes = c.args.classes.now in
    let none = no_class_after d classes c.requires.count c.requires.none in
    subst (HasWidth (SameReversedClassAfter d classes) (letters_of d)) (sym c.in_ok-result.ensures.width)
    (HasWidth-one (SameReversedClassAfter d classes) (letters_of d) (λ w over u more. none (reverse (w ++ u)) ∙ sym (none (reverse u))))

pub returns-in_err-result-clause-sizes : goal.returns-in_err-result-clause-sizes
returns-in_err-result-clause-sizes c = IfOk-from_err c.from_residual.result _ c.from_residual.ensures.0

pub returns-in_err-result-clause-canonical : goal.returns-in_err-result-clause-canonical
returns-in_err-result-clause-canonical c = IfOk-from_err c.from_residual.result _ c.from_residual.ensures.0

pub returns-in_err-result-clause-function : goal.returns-in_err-result-clause-function
returns-in_err-result-clause-function c = IfOk-from_err c.from_residual.result _ c.from_residual.ensures.0

pub returns-in_err-result-clause-width : goal.returns-in_err-result-clause-width
returns-in_err-result-clause-width c = IfOk-from_err c.from_residual.result _ c.from_residual.ensures.0

pub returns-in_err-result-clause-size : goal.returns-in_err-result-clause-size
returns-in_err-result-clause-size c = IfOk-from_err c.from_residual.result _ c.from_residual.ensures.0

pub returns-in_err-result-clause-within : goal.returns-in_err-result-clause-within
returns-in_err-result-clause-within c = IfOk-from_err c.from_residual.result _ c.from_residual.ensures.0

pub returns-in_err-result-clause-letters : goal.returns-in_err-result-clause-letters
returns-in_err-result-clause-letters c refused = c.no_words_within.ensures.letters (fault_of_call c.from_residual.result c.no_words_within.result c.in_err-result.field-0.0 Letters c.in_err-result.was c.from_residual.ensures.1 refused)

pub returns-in_err-classes-clause-sizes : goal.returns-in_err-classes-clause-sizes
returns-in_err-classes-clause-sizes c = IfOk-from_err c.from_residual-in_err-classes.result _ c.from_residual-in_err-classes.ensures.0

pub returns-in_err-classes-clause-canonical : goal.returns-in_err-classes-clause-canonical
returns-in_err-classes-clause-canonical c = IfOk-from_err c.from_residual-in_err-classes.result _ c.from_residual-in_err-classes.ensures.0

pub returns-in_err-classes-clause-function : goal.returns-in_err-classes-clause-function
returns-in_err-classes-clause-function c = IfOk-from_err c.from_residual-in_err-classes.result _ c.from_residual-in_err-classes.ensures.0

pub returns-in_err-classes-clause-width : goal.returns-in_err-classes-clause-width
returns-in_err-classes-clause-width c = IfOk-from_err c.from_residual-in_err-classes.result _ c.from_residual-in_err-classes.ensures.0

pub returns-in_err-classes-clause-size : goal.returns-in_err-classes-clause-size
returns-in_err-classes-clause-size c = IfOk-from_err c.from_residual-in_err-classes.result _ c.from_residual-in_err-classes.ensures.0

pub returns-in_err-classes-clause-within : goal.returns-in_err-classes-clause-within
returns-in_err-classes-clause-within c = IfOk-from_err c.from_residual-in_err-classes.result _ c.from_residual-in_err-classes.ensures.0

pub returns-in_err-classes-clause-states : goal.returns-in_err-classes-clause-states
returns-in_err-classes-clause-states c refused = absurd (no_states c.from_residual-in_err-classes.result c.from_residual-in_err-classes.ensures.1 refused)

pub returns-in_err-classes-clause-letters : goal.returns-in_err-classes-clause-letters
returns-in_err-classes-clause-letters c refused = no_letters c.from_residual-in_err-classes.result c.from_residual-in_err-classes.ensures.1 refused

pub returns-clause-sizes : goal.returns-clause-sizes
returns-clause-sizes c = ap (λ (e : Automaton). e.sizes) c.in_ok-result.ensures.no_words ∙ c.requires.alphabet

pub returns-clause-size : goal.returns-clause-size
returns-clause-size c = omega (arith, ap states_of c.in_ok-result.ensures.no_words, c.in_ok-result.ensures.width)

pub returns-clause-within : goal.returns-clause-within
returns-clause-within c = omega (arith, c.in_ok-result.ensures.width, c.in_ok-result.ensures.within)

pub returns-clause-states : goal.returns-clause-states
returns-clause-states c refused = absurd (no_fault _ States refused)

pub returns-clause-letters : goal.returns-clause-letters
returns-clause-letters c refused = no_fault _ Letters refused
