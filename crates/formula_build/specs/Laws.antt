-- The law of what the plan of a formula makes.
use Rattle.std.specs.Prelude.{◌↔◌, ℕ, List, map}
use Rattle.formula_parse.specs.Trees.{Formula}
use Rattle.formula_truth.specs.Truth.{Holds}
use Rattle.formula_plan.specs.FactPlans.{Headers}
use Rattle.formula_plan.specs.FormulaPlans.{plan_of}
use Rattle.term_plans.specs.Linear.{IsLinearFormula}
use Rattle.number_relations.specs.Relations.{RelationValue, RelationHolds}
use Rattle.plan_relations.specs.TrackNames.{AreNamed}
use Rattle.plan_relations.specs.Libraries.{LibraryValue, IsLibrary, meanings_of}
use Rattle.plan_relations.specs.Makings.{Makes, IsReady}

-- what the plan of a formula makes holds of the numbers for which the formula is true
abbrev pub FormulasHold : Type 0
FormulasHold = (l : LibraryValue) (h : Headers) (f : Formula) (k : ℕ) (c : RelationValue) → IsLibrary l → IsLinearFormula f
    → AreNamed (plan_of h f k).last → IsReady l (plan_of h f k).last → Makes l (plan_of h f k).last c
    → (number_of : List ℕ → ℕ) → RelationHolds c (map number_of c.names) ↔ Holds (meanings_of l) f number_of
