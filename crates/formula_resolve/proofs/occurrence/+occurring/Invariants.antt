use Rattle.std.proofs.Common.{◌≡◌, ◌++◌, take}
use Rattle.formula_parse.specs.Views.{factors_view, addends_view}
use Rattle.formula_resolve.specs.Occurrences.{factor_occurrences, addend_occurrences}
use Rattle.formula_resolve.specs.Scopes.{binders_of}
use Rattle.formula_resolve.proofs.occurrence.+occurring.Given as goal

abbrev pub invariant-add_term-loop-factor : goal.invariant-add_term-loop-factor
invariant-add_term-loop-factor l = l.found.items ≡ l.initial.found.items ++ factor_occurrences l.system (binders_of l.scope) (factors_view (take l.factor-index l.factor-items))

abbrev pub invariant-add_term-loop-addend : goal.invariant-add_term-loop-addend
invariant-add_term-loop-addend l = l.found.items ≡ l.initial.found.items ++ addend_occurrences l.system (binders_of l.scope) (addends_view (take l.addend-index l.addend-items))
