use Rattle.std.proofs.Common.{◌≡◌, map, take}
use Rattle.formula_parse.specs.Tokens.{Name}
use Rattle.formula_parse.specs.Views.{factors_view}
use Rattle.term_plans.specs.TermPlans.{factor_plans}
use Rattle.term_plans.specs.TermPlanning.{scaling_view}
use Rattle.term_plans.proofs.terms.scalings.Given as goal

abbrev pub invariant-loop-factor : goal.invariant-loop-factor
invariant-loop-factor l = (s : Name) → (factor_plans s (factors_view (take l.factor-index l.factors))).scalings ≡ map scaling_view l.found.items
