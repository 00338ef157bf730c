use Rattle.std.proofs.Common.{◌∙◌, subst, map, Ok}
use Rattle.std.proofs.lemmas.List.{take_all}
use Rattle.std.proofs.lemmas.Iterator.{items_from_collect}
use Rattle.std.proofs.lemmas.Iterator.Consumers.{YieldsList-from_rest}
use Rattle.formula_resolve.specs.Occurrences.{free_of}
use Rattle.formula_resolve.specs.FreeVariables.{IsKept}
use Rattle.formula_resolve.proofs.VariableLemmas.{kept_none, kept_all}
use Rattle.formula_resolve.proofs.variable.free_variables.Goals as goal

pub loop-occurrence-init : goal.loop-occurrence-init
loop-occurrence-init c = kept_none c.new-variables.result.entries c.new-variables.ensures.empty

pub returns : goal.returns
returns c =
    items_from_collect {E = Unit {0}} (Ok c.in_ok-collect.field-0) c.in_ok-collect.ensures.ran (YieldsList-from_rest (map (λ e. e.1) c.loop-occurrence.variables.entries) c.into_values.ensures.rest)
    ∙ kept_all (free_of 1 c.args.occurrences.now) c.loop-occurrence.variables.entries
    (subst (λ os. IsKept (free_of 1 os) c.loop-occurrence.variables.entries) (take_all c.loop-occurrence.occurrence-index c.args.occurrences.now c.loop-occurrence-test.false) c.loop-occurrence.invariant)
