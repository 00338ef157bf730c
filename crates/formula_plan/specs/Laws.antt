-- Laws of plans: what a plan makes holds where the formula is true, and formulas that are read are linear.
use Rattle.std.specs.Prelude.{◌↔◌, ℕ, List}
use Rattle.formula_parse.specs.Tokens.{Token}
use Rattle.formula_parse.specs.Trees.{Formula}
use Rattle.formula_parse.specs.Grammar.{Reads}
use Rattle.formula_truth.specs.Truth.{Holds}
use Rattle.formula_truth.specs.Tests.{Tests, tested}
use Rattle.term_plans.specs.Tracks.{Numbers, of_variables}
use Rattle.formula_plan.specs.FactPlans.{Headers}
use Rattle.formula_plan.specs.FormulaPlans.{plan_of}
use Rattle.term_plans.specs.Means.{Means, AreDecided}
use Rattle.term_plans.specs.Linear.{IsLinearFormula}

-- of each linear formula; that the parts are decided is what automata give
abbrev pub PlansMean : Type 0
PlansMean = (t : Tests) (h : Headers) (f : Formula) (k : ℕ) → IsLinearFormula f → AreDecided (tested t) (plan_of h f k).last
    → (a : Numbers) → Means (tested t) (plan_of h f k).last a ↔ Holds (tested t) f (of_variables a)

-- the tree of a text that is read is linear
abbrev pub TreesAreLinear : Type 0
TreesAreLinear = (ts : List Token) (tree : Formula) → Reads ts tree → IsLinearFormula tree
