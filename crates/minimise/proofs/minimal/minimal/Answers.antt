use Rattle.std.proofs.Common.{List, ℕ, ◌∙◌, sym, ap, subst, arith}
use Rattle.residual_classes.specs.ClassFunctions.{SameClassFunction}
use Rattle.minimise.specs.Canonical.{IsCanonicalWithClasses}
use Rattle.minimise.proofs.QuotientLemmas.{IsQuotient-read, SameClassFunction-explored, IsCanonical-explored}
use Rattle.std.proofs.lemmas.Result.{IfOk-from_err}
use Rattle.digit_tuple.specs.Letters.{product}
use Rattle.minimise.proofs.minimal.minimal.Goals as goal

pub returns-in-Ok-clause-function : goal.returns-in-Ok-clause-function
returns-in-Ok-clause-function c =
    let d = c.args.machine.now.dfa.now in
    let outputs = c.args.machine.now.outputs.now in
    let made = c.in-Ok.stepped.result in
    let quotient = IsQuotient-read d outputs c.args.classes.now c.in_ok-leaders.leaders.items c.deref.result.now c.states.result c.requires.outputs c.deref.ensures.value c.states.ensures.value c.alphabet.ensures.table c.requires.classes c.in_ok-leaders.ensures in
    let done = c.in-Ok.ensures in
    subst (λ (os : List ℕ). SameClassFunction d outputs made.dfa os) (sym c.in_ok-outputs-in-Ok.ensures)
    (SameClassFunction-explored d made.dfa outputs c.args.classes.now c.deref.result.now quotient made.keys done.explored done.keys done.table.initial)

pub returns-in-Ok-clause-canonical : goal.returns-in-Ok-clause-canonical
returns-in-Ok-clause-canonical c =
    let d = c.args.machine.now.dfa.now in
    let outputs = c.args.machine.now.outputs.now in
    let made = c.in-Ok.stepped.result in
    let quotient = IsQuotient-read d outputs c.args.classes.now c.in_ok-leaders.leaders.items c.deref.result.now c.states.result c.requires.outputs c.deref.ensures.value c.states.ensures.value c.alphabet.ensures.table c.requires.classes c.in_ok-leaders.ensures in
    let done = c.in-Ok.ensures in
    subst (λ (os : List ℕ). IsCanonicalWithClasses made.dfa os) (sym c.in_ok-outputs-in-Ok.ensures)
    (IsCanonical-explored d made.dfa outputs c.args.classes.now c.deref.result.now quotient made.keys done.explored done.keys done.table done.numbered.0 done.numbered.1
    (done.sizes ∙ c.in_ok-alphabet.ensures ∙ c.alphabet.ensures.sizes))

pub leaders-requires-clause-count : goal.leaders-requires-clause-count
leaders-requires-clause-count c = omega (arith, c.requires.classes.width, c.states.ensures.value)

pub leaders-requires-clause-small : goal.leaders-requires-clause-small
leaders-requires-clause-small c = omega (arith, c.requires.classes.width, c.alphabet.ensures.table.part.small)

pub leaders-requires-clause-below : goal.leaders-requires-clause-below
leaders-requires-clause-below c k z within = omega (arith, c.requires.classes.below k z within, c.requires.classes.width)

pub explore_keys-requires-clause-graph : goal.explore_keys-requires-clause-graph
explore_keys-requires-clause-graph c = IsQuotient-read c.args.machine.now.dfa.now c.args.machine.now.outputs.now c.args.classes.now c.in_ok-leaders.leaders.items c.deref.result.now c.states.result c.requires.outputs c.deref.ensures.value c.states.ensures.value c.alphabet.ensures.table c.requires.classes c.in_ok-leaders.ensures

pub outputs_of-requires-clause-graph : goal.outputs_of-requires-clause-graph
outputs_of-requires-clause-graph c = IsQuotient-read c.args.machine.now.dfa.now c.args.machine.now.outputs.now c.args.classes.now c.in_ok-leaders.leaders.items c.deref.result.now c.states.result c.requires.outputs c.deref.ensures.value c.states.ensures.value c.alphabet.ensures.table c.requires.classes c.in_ok-leaders.ensures

pub outputs_of-requires-clause-keys : goal.outputs_of-requires-clause-keys
outputs_of-requires-clause-keys c = c.in-Ok.ensures.keys

pub returns-in_err-alphabet-clause-sizes : goal.returns-in_err-alphabet-clause-sizes
returns-in_err-alphabet-clause-sizes c = IfOk-from_err c.from_residual.result _ c.from_residual.ensures.0

pub returns-in_err-alphabet-clause-function : goal.returns-in_err-alphabet-clause-function
returns-in_err-alphabet-clause-function c = IfOk-from_err c.from_residual.result _ c.from_residual.ensures.0

pub returns-in_err-alphabet-clause-canonical : goal.returns-in_err-alphabet-clause-canonical
returns-in_err-alphabet-clause-canonical c = IfOk-from_err c.from_residual.result _ c.from_residual.ensures.0

pub returns-in_err-leaders-clause-sizes : goal.returns-in_err-leaders-clause-sizes
returns-in_err-leaders-clause-sizes c = IfOk-from_err c.from_residual-in_err-leaders.result _ c.from_residual-in_err-leaders.ensures.0

pub returns-in_err-leaders-clause-function : goal.returns-in_err-leaders-clause-function
returns-in_err-leaders-clause-function c = IfOk-from_err c.from_residual-in_err-leaders.result _ c.from_residual-in_err-leaders.ensures.0

pub returns-in_err-leaders-clause-canonical : goal.returns-in_err-leaders-clause-canonical
returns-in_err-leaders-clause-canonical c = IfOk-from_err c.from_residual-in_err-leaders.result _ c.from_residual-in_err-leaders.ensures.0

pub explore_keys-requires-clause-letters : goal.explore_keys-requires-clause-letters
explore_keys-requires-clause-letters c = sym (ap product (c.in_ok-alphabet.ensures ∙ c.alphabet.ensures.sizes))

pub returns-in_err-outputs-in-Ok-clause-sizes : goal.returns-in_err-outputs-in-Ok-clause-sizes
returns-in_err-outputs-in-Ok-clause-sizes c = IfOk-from_err c.from_residual-in_err-outputs-in-Ok.result _ c.from_residual-in_err-outputs-in-Ok.ensures.0

pub returns-in_err-outputs-in-Ok-clause-function : goal.returns-in_err-outputs-in-Ok-clause-function
returns-in_err-outputs-in-Ok-clause-function c = IfOk-from_err c.from_residual-in_err-outputs-in-Ok.result _ c.from_residual-in_err-outputs-in-Ok.ensures.0

pub returns-in_err-outputs-in-Ok-clause-canonical : goal.returns-in_err-outputs-in-Ok-clause-canonical
returns-in_err-outputs-in-Ok-clause-canonical c = IfOk-from_err c.from_residual-in_err-outputs-in-Ok.result _ c.from_residual-in_err-outputs-in-Ok.ensures.0

pub returns-in-Ok-clause-sizes : goal.returns-in-Ok-clause-sizes
returns-in-Ok-clause-sizes c = c.in-Ok.ensures.sizes ∙ c.in_ok-alphabet.ensures ∙ c.alphabet.ensures.sizes
