use Rattle.std.proofs.Common.{List, ℕ, ◌<◌, length, sym, ap, ◌∙◌, subst, arith}
use Rattle.std.specs.List.{All}
use Rattle.std.proofs.lemmas.List.{length-map}
use Rattle.digit_tuple.specs.Deterministic.{IsTable, State, letters_of}
use Rattle.residual_classes.specs.Outputs.{bit_of}
use Rattle.residual_classes.specs.ClassFunctions.{SameClassFunction}
use Rattle.residual_classes.specs.CoarseClasses.{AreResidualClasses}
use Rattle.residual_classes.specs.Leaders.{AreAlone}
use Rattle.minimise.proofs.BitLemmas.{SameLanguage-bits, IsCanonical-bits}
use Rattle.minimise.proofs.MinimalLemmas.{IsCanonical-alone}
use Rattle.std.proofs.lemmas.Result.{IfOk-from_err}
use Rattle.minimise.proofs.canonical.minimal_unless_canonical.Goals as goal

pub returns-then-branch-clause-canonical : goal.returns-then-branch-clause-canonical
returns-then-branch-clause-canonical c =
    let table : IsTable (letters_of c.args.d.now) c.args.d.now.states = c.states-states.ensures.table in
    let are = subst (λ (os : List ℕ). AreResidualClasses c.args.d.now os c.in_ok-classes.classes.items) (c.deref.ensures.value ∙ c.in_ok-outputs.ensures) c.in_ok-classes.ensures in
    IsCanonical-alone c.args.d.now c.in_ok-classes.classes.items c.requires.0 table c.requires.1 are (subst AreAlone c.deref-2.ensures.value (c.in_ok-are_alone.ensures.0 c.if-branch.true))

pub returns-clause-language : goal.returns-clause-language
returns-clause-language c =
    let d = c.args.d.now in
    let minimal = c.in_ok-minimal.minimal in
    let outputs = c.in_ok-minimal.field-0-1.items in
    let same = subst (λ (os : List ℕ). SameClassFunction d os minimal outputs) (c.deref.ensures.value ∙ c.in_ok-outputs.ensures) c.in_ok-minimal.ensures.function in
    SameLanguage-bits d minimal outputs c.in_ok-minimal.ensures.sizes same c.in_ok-minimal.ensures.canonical

pub returns-clause-minimal : goal.returns-clause-minimal
returns-clause-minimal c =
    let d = c.args.d.now in
    let minimal = c.in_ok-minimal.minimal in
    let outputs = c.in_ok-minimal.field-0-1.items in
    let same = subst (λ (os : List ℕ). SameClassFunction d os minimal outputs) (c.deref.ensures.value ∙ c.in_ok-outputs.ensures) c.in_ok-minimal.ensures.function in
    IsCanonical-bits d minimal outputs c.in_ok-minimal.ensures.sizes same c.in_ok-minimal.ensures.canonical

pub residual_classes-requires : goal.residual_classes-requires
residual_classes-requires c = ap length (c.deref.ensures.value ∙ c.in_ok-outputs.ensures) ∙ length-map c.args.d.now.states (λ (state : State). bit_of state.accepting)

pub are_alone-requires-clause-small : goal.are_alone-requires-clause-small
are_alone-requires-clause-small c = omega (arith, ap length c.deref-2.ensures.value, c.in_ok-classes.ensures.width, c.states-states.ensures.table.part.small)

pub are_alone-requires-clause-below : goal.are_alone-requires-clause-below
are_alone-requires-clause-below c =
    subst (λ (xs : List ℕ). All (λ class. class < length xs) xs) (sym c.deref-2.ensures.value) (λ k z within. omega (arith, c.in_ok-classes.ensures.below k z within, c.in_ok-classes.ensures.width))

pub minimal-requires-clause-outputs : goal.minimal-requires-clause-outputs
minimal-requires-clause-outputs c = ap length (c.deref.ensures.value ∙ c.in_ok-outputs.ensures) ∙ length-map c.args.d.now.states (λ (state : State). bit_of state.accepting)

pub minimal-requires-clause-classes : goal.minimal-requires-clause-classes
minimal-requires-clause-classes c = subst (AreResidualClasses c.args.d.now c.deref.result.now) (sym c.deref-3.ensures.value) c.in_ok-classes.ensures

pub returns-clause-sizes : goal.returns-clause-sizes
returns-clause-sizes c = c.in_ok-minimal.ensures.sizes

pub returns-in_err-outputs-clause-sizes : goal.returns-in_err-outputs-clause-sizes
returns-in_err-outputs-clause-sizes c = IfOk-from_err c.from_residual.result _ c.from_residual.ensures.0

pub returns-in_err-outputs-clause-language : goal.returns-in_err-outputs-clause-language
returns-in_err-outputs-clause-language c = IfOk-from_err c.from_residual.result _ c.from_residual.ensures.0

pub returns-in_err-outputs-clause-minimal : goal.returns-in_err-outputs-clause-minimal
returns-in_err-outputs-clause-minimal c = IfOk-from_err c.from_residual.result _ c.from_residual.ensures.0

pub returns-in_err-outputs-clause-canonical : goal.returns-in_err-outputs-clause-canonical
returns-in_err-outputs-clause-canonical c = IfOk-from_err c.from_residual.result _ c.from_residual.ensures.0

pub returns-in_err-classes-clause-sizes : goal.returns-in_err-classes-clause-sizes
returns-in_err-classes-clause-sizes c = IfOk-from_err c.from_residual-in_err-classes.result _ c.from_residual-in_err-classes.ensures.0

pub returns-in_err-classes-clause-language : goal.returns-in_err-classes-clause-language
returns-in_err-classes-clause-language c = IfOk-from_err c.from_residual-in_err-classes.result _ c.from_residual-in_err-classes.ensures.0

pub returns-in_err-classes-clause-minimal : goal.returns-in_err-classes-clause-minimal
returns-in_err-classes-clause-minimal c = IfOk-from_err c.from_residual-in_err-classes.result _ c.from_residual-in_err-classes.ensures.0

pub returns-in_err-classes-clause-canonical : goal.returns-in_err-classes-clause-canonical
returns-in_err-classes-clause-canonical c = IfOk-from_err c.from_residual-in_err-classes.result _ c.from_residual-in_err-classes.ensures.0

pub returns-in_err-are_alone-clause-sizes : goal.returns-in_err-are_alone-clause-sizes
returns-in_err-are_alone-clause-sizes c = IfOk-from_err c.from_residual-in_err-are_alone.result _ c.from_residual-in_err-are_alone.ensures.0

pub returns-in_err-are_alone-clause-language : goal.returns-in_err-are_alone-clause-language
returns-in_err-are_alone-clause-language c = IfOk-from_err c.from_residual-in_err-are_alone.result _ c.from_residual-in_err-are_alone.ensures.0

pub returns-in_err-are_alone-clause-minimal : goal.returns-in_err-are_alone-clause-minimal
returns-in_err-are_alone-clause-minimal c = IfOk-from_err c.from_residual-in_err-are_alone.result _ c.from_residual-in_err-are_alone.ensures.0

pub returns-in_err-are_alone-clause-canonical : goal.returns-in_err-are_alone-clause-canonical
returns-in_err-are_alone-clause-canonical c = IfOk-from_err c.from_residual-in_err-are_alone.result _ c.from_residual-in_err-are_alone.ensures.0

pub returns-in_err-minimal-clause-sizes : goal.returns-in_err-minimal-clause-sizes
returns-in_err-minimal-clause-sizes c = IfOk-from_err c.from_residual-in_err-minimal.result _ c.from_residual-in_err-minimal.ensures.0

pub returns-in_err-minimal-clause-language : goal.returns-in_err-minimal-clause-language
returns-in_err-minimal-clause-language c = IfOk-from_err c.from_residual-in_err-minimal.result _ c.from_residual-in_err-minimal.ensures.0

pub returns-in_err-minimal-clause-minimal : goal.returns-in_err-minimal-clause-minimal
returns-in_err-minimal-clause-minimal c = IfOk-from_err c.from_residual-in_err-minimal.result _ c.from_residual-in_err-minimal.ensures.0

pub returns-in_err-minimal-clause-canonical : goal.returns-in_err-minimal-clause-canonical
returns-in_err-minimal-clause-canonical c = IfOk-from_err c.from_residual-in_err-minimal.result _ c.from_residual-in_err-minimal.ensures.0

pub returns-then-branch-clause-sizes : goal.returns-then-branch-clause-sizes
returns-then-branch-clause-sizes c = tt

pub returns-then-branch-clause-language : goal.returns-then-branch-clause-language
returns-then-branch-clause-language c = tt

pub returns-then-branch-clause-minimal : goal.returns-then-branch-clause-minimal
returns-then-branch-clause-minimal c = tt

pub returns-clause-canonical : goal.returns-clause-canonical
returns-clause-canonical c = tt
