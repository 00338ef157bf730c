use Rattle.std.proofs.Common.{◌++◌, take}
use Rattle.formula_parse.specs.Views.{terms_view}
use Rattle.formula_plan.specs.OwnNames.{own_among, HaveSame}
use Rattle.formula_plan.proofs.names.add_terms.Given as goal

abbrev pub invariant-loop-term : goal.invariant-loop-term
invariant-loop-term l = HaveSame l.free (l.initial.free ++ own_among (terms_view (take l.term-index l.terms)))
