use Rattle.std.proofs.Common.{take}
use Rattle.formula_parse.specs.Views.{terms_view}
use Rattle.term_plans.specs.ArgumentPlans.{argument_plans}
use Rattle.term_plans.specs.Planning.{DoesTerms}
use Rattle.term_plans.proofs.arguments.arguments.Given as goal

abbrev pub invariant-loop-i : goal.invariant-loop-i
invariant-loop-i l = DoesTerms l.initial.planner l.planner l.placed.items (argument_plans l.systems (terms_view (take l.i l.terms)) l.initial.planner.next)
