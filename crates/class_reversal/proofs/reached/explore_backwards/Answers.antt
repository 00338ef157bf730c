use Rattle.std.proofs.Common.{◌+◌, ℕ, List, sym, ap, ◌∙◌, subst}
use Rattle.std.proofs.lemmas.Result.{IfOk-from_err}
use Rattle.digit_tuple.specs.Deterministic.{letters_of}
use Rattle.digit_tuple.specs.Keys.{LeadAlike}
use Rattle.digit_tuple.specs.Letters.{product}
use Rattle.digit_tuple.specs.declared.faults.OpFault.TheVariants.{Letters, States}
use Rattle.digit_tuple.proofs.WidthLemmas.{HasApart-same, HasWidth-same}
use Rattle.minimise.specs.Canonical.{IsCanonicalWithClasses}
use Rattle.class_reversal.specs.BackwardClasses.{AreTargets, classes_back}
use Rattle.class_reversal.specs.ReversedClasses.{GivesReversedClasses, SameReversedClassAfter}
use Rattle.class_reversal.proofs.FaultLemmas.{fault_of_call, no_fault, no_letters, no_states}
use Rattle.class_reversal.proofs.ReversalLemmas.{alike_from_lead, canonical_reversal, gives_reversed, lead_from_alike}
use Rattle.class_reversal.proofs.reached.explore_backwards.Goals as goal

pub explore_keys-requires-clause-graph : goal.explore_keys-requires-clause-graph
explore_keys-requires-clause-graph c = (c.requires.count, subst (AreTargets c.args.d.now) (sym c.deref.ensures.value) c.in_ok-targets.ensures)

pub returns-in_err-result-clause-states : goal.returns-in_err-result-clause-states
returns-in_err-result-clause-states c refused =
    let d = c.args.d.now in
    let classes = c.args.classes.now in
    let fault = fault_of_call c.from_residual-in_err-result.result c.explore_keys.result c.in_err-result.field-0.0 States c.in_err-result.was c.from_residual-in_err-result.ensures.1 refused in
    HasApart-same (LeadAlike (classes_back d) classes) (SameReversedClassAfter d classes) (letters_of d) (c.args.limit.most + 1)
    (λ w v over there alike. lead_from_alike d classes c.requires.count c.requires.some c.requires.reached.0 c.requires.reached.1 w v alike) (c.explore_keys.ensures.states fault)

pub returns-clause-canonical : goal.returns-clause-canonical
returns-clause-canonical c =
    let d = c.args.d.now in
    let made = c.in_ok-result.field-0.result in
    let done = c.in_ok-result.ensures in
    subst (λ (classes : List ℕ). IsCanonicalWithClasses made.dfa classes) (sym c.in_ok-classes.ensures)
    (canonical_reversal d c.args.classes.now c.requires.count c.requires.some made.dfa made.keys done.explored done.table.initial c.requires.reached.0 c.requires.reached.1 done.table
    (done.sizes ∙ c.requires.alphabet) done.numbered.0 done.numbered.1)

pub returns-clause-function : goal.returns-clause-function
returns-clause-function c =
    let d = c.args.d.now in
    let made = c.in_ok-result.field-0.result in
    let done = c.in_ok-result.ensures in
    subst (λ (classes : List ℕ). GivesReversedClasses d c.args.classes.now made.dfa classes) (sym c.in_ok-classes.ensures)
    (gives_reversed d c.args.classes.now c.requires.count c.requires.some made.dfa made.keys done.explored done.table.initial)

pub returns-clause-width : goal.returns-clause-width
returns-clause-width c =
    let d = c.args.d.now in
    let classes = c.args.classes.now in
    HasWidth-same (LeadAlike (classes_back d) classes) (SameReversedClassAfter d classes) (letters_of d) c.in_ok-result.field-0.width
    (λ w v over there lead. alike_from_lead d classes c.requires.count c.requires.some w v lead)
    (λ w v over there alike. lead_from_alike d classes c.requires.count c.requires.some c.requires.reached.0 c.requires.reached.1 w v alike) c.in_ok-result.ensures.width

pub explore_keys-requires-clause-letters : goal.explore_keys-requires-clause-letters
explore_keys-requires-clause-letters c = sym (ap product c.requires.alphabet)

pub returns-in_err-targets-clause-sizes : goal.returns-in_err-targets-clause-sizes
returns-in_err-targets-clause-sizes c = IfOk-from_err c.from_residual.result _ c.from_residual.ensures.0

pub returns-in_err-targets-clause-canonical : goal.returns-in_err-targets-clause-canonical
returns-in_err-targets-clause-canonical c = IfOk-from_err c.from_residual.result _ c.from_residual.ensures.0

pub returns-in_err-targets-clause-function : goal.returns-in_err-targets-clause-function
returns-in_err-targets-clause-function c = IfOk-from_err c.from_residual.result _ c.from_residual.ensures.0

pub returns-in_err-targets-clause-width : goal.returns-in_err-targets-clause-width
returns-in_err-targets-clause-width c = IfOk-from_err c.from_residual.result _ c.from_residual.ensures.0

pub returns-in_err-targets-clause-size : goal.returns-in_err-targets-clause-size
returns-in_err-targets-clause-size c = IfOk-from_err c.from_residual.result _ c.from_residual.ensures.0

pub returns-in_err-targets-clause-within : goal.returns-in_err-targets-clause-within
returns-in_err-targets-clause-within c = IfOk-from_err c.from_residual.result _ c.from_residual.ensures.0

pub returns-in_err-targets-clause-states : goal.returns-in_err-targets-clause-states
returns-in_err-targets-clause-states c refused = absurd (no_states c.from_residual.result c.from_residual.ensures.1 refused)

pub returns-in_err-targets-clause-letters : goal.returns-in_err-targets-clause-letters
returns-in_err-targets-clause-letters c refused = no_letters c.from_residual.result c.from_residual.ensures.1 refused

pub returns-in_err-result-clause-sizes : goal.returns-in_err-result-clause-sizes
returns-in_err-result-clause-sizes c = IfOk-from_err c.from_residual-in_err-result.result _ c.from_residual-in_err-result.ensures.0

pub returns-in_err-result-clause-canonical : goal.returns-in_err-result-clause-canonical
returns-in_err-result-clause-canonical c = IfOk-from_err c.from_residual-in_err-result.result _ c.from_residual-in_err-result.ensures.0

pub returns-in_err-result-clause-function : goal.returns-in_err-result-clause-function
returns-in_err-result-clause-function c = IfOk-from_err c.from_residual-in_err-result.result _ c.from_residual-in_err-result.ensures.0

pub returns-in_err-result-clause-width : goal.returns-in_err-result-clause-width
returns-in_err-result-clause-width c = IfOk-from_err c.from_residual-in_err-result.result _ c.from_residual-in_err-result.ensures.0

pub returns-in_err-result-clause-size : goal.returns-in_err-result-clause-size
returns-in_err-result-clause-size c = IfOk-from_err c.from_residual-in_err-result.result _ c.from_residual-in_err-result.ensures.0

pub returns-in_err-result-clause-within : goal.returns-in_err-result-clause-within
returns-in_err-result-clause-within c = IfOk-from_err c.from_residual-in_err-result.result _ c.from_residual-in_err-result.ensures.0

pub returns-in_err-result-clause-letters : goal.returns-in_err-result-clause-letters
returns-in_err-result-clause-letters c refused = c.explore_keys.ensures.no_letters (fault_of_call c.from_residual-in_err-result.result c.explore_keys.result c.in_err-result.field-0.0 Letters c.in_err-result.was c.from_residual-in_err-result.ensures.1 refused)

pub returns-in_err-classes-clause-sizes : goal.returns-in_err-classes-clause-sizes
returns-in_err-classes-clause-sizes c = IfOk-from_err c.from_residual-in_err-classes.result _ c.from_residual-in_err-classes.ensures.0

pub returns-in_err-classes-clause-canonical : goal.returns-in_err-classes-clause-canonical
returns-in_err-classes-clause-canonical c = IfOk-from_err c.from_residual-in_err-classes.result _ c.from_residual-in_err-classes.ensures.0

pub returns-in_err-classes-clause-function : goal.returns-in_err-classes-clause-function
returns-in_err-classes-clause-function c = IfOk-from_err c.from_residual-in_err-classes.result _ c.from_residual-in_err-classes.ensures.0

pub returns-in_err-classes-clause-width : goal.returns-in_err-classes-clause-width
returns-in_err-classes-clause-width c = IfOk-from_err c.from_residual-in_err-classes.result _ c.from_residual-in_err-classes.ensures.0

pub returns-in_err-classes-clause-size : goal.returns-in_err-classes-clause-size
returns-in_err-classes-clause-size c = IfOk-from_err c.from_residual-in_err-classes.result _ c.from_residual-in_err-classes.ensures.0

pub returns-in_err-classes-clause-within : goal.returns-in_err-classes-clause-within
returns-in_err-classes-clause-within c = IfOk-from_err c.from_residual-in_err-classes.result _ c.from_residual-in_err-classes.ensures.0

pub returns-in_err-classes-clause-states : goal.returns-in_err-classes-clause-states
returns-in_err-classes-clause-states c refused = absurd (no_states c.from_residual-in_err-classes.result c.from_residual-in_err-classes.ensures.1 refused)

pub returns-in_err-classes-clause-letters : goal.returns-in_err-classes-clause-letters
returns-in_err-classes-clause-letters c refused = no_letters c.from_residual-in_err-classes.result c.from_residual-in_err-classes.ensures.1 refused

pub returns-clause-sizes : goal.returns-clause-sizes
returns-clause-sizes c = c.in_ok-result.ensures.sizes ∙ c.requires.alphabet

pub returns-clause-size : goal.returns-clause-size
returns-clause-size c = c.in_ok-result.ensures.size

pub returns-clause-within : goal.returns-clause-within
returns-clause-within c = c.in_ok-result.ensures.within

pub returns-clause-states : goal.returns-clause-states
returns-clause-states c refused = absurd (no_fault _ States refused)

pub returns-clause-letters : goal.returns-clause-letters
returns-clause-letters c refused = no_fault _ Letters refused
