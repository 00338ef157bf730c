use Rattle.std.proofs.Common.{take}
use Rattle.formula_parse.specs.Views.{addends_view}
use Rattle.term_plans.specs.TermPlanning.{IsSumSoFar}
use Rattle.term_plans.proofs.terms.+terms.Given as goal

abbrev pub invariant-term-loop-addend : goal.invariant-term-loop-addend
invariant-term-loop-addend l = IsSumSoFar l.system (addends_view (take l.addend-index l.addend-items)) l.initial.planner l.planner l.before
