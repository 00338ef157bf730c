-- Formulas that are resolved, and the relations that are their solutions.
use Rattle.std.specs.Prelude.{◌≡◌, ◌↔◌, ℕ, List, map, None, Result, if◌then◌else◌}
use Rattle.std.specs.List.{AllPairs}
use Rattle.digit_tuple.specs.Names.{IsBytesBefore}
use Rattle.digit_tuple.specs.StepResults.{Then}
use Rattle.digit_tuple.specs.Steps.{StepLog}
use Rattle.digit_tuple.specs.declared.direction.Direction.{Direction}
use Rattle.digit_tuple.specs.declared.direction.Direction.TheVariants.{Msd, Lsd}
use Rattle.digit_tuple.specs.declared.step_fault.StepFault.{StepFault}
use Rattle.automaton_steps.specs.Makings.{Gives, WithSome}
use Rattle.formula_parse.specs.Tokens.{Name}
use Rattle.formula_parse.specs.Trees.{Formula}
use Rattle.formula_truth.specs.Truth.{Holds}
use Rattle.formula_resolve.specs.Headers.{Headers}
use Rattle.formula_resolve.specs.Mentions.{mentions}
use Rattle.formula_resolve.specs.Arity.{first_misuse}
use Rattle.formula_resolve.specs.Occurrences.{all_occurrences}
use Rattle.formula_resolve.specs.Clashes.{first_clash}
use Rattle.formula_resolve.specs.Directions.{is_lsd, first_conflict}
use Rattle.term_plans.specs.Plans.{Made}
use Rattle.formula_plan.specs.FormulaPlans.{plan_of}
use Rattle.term_plans.specs.Linear.{IsLinearFormula}
use Rattle.number_relations.specs.Relations.{RelationValue, IsRelation, RelationHolds}
use Rattle.number_relations.specs.Placed.{IsOrdered}
use Rattle.plan_relations.specs.Libraries.{LibraryValue, meanings_of}
use Rattle.plan_relations.specs.Building.{Builds}
use Rattle.formula_build.specs.Resolved.{plan_headers}
use Rattle.formula_build.specs.VariableNames.{AreNamedIn}

-- the direction that a system's name says
abbrev pub direction_named : Name → Direction
direction_named s = if is_lsd s then Lsd else Msd

-- as formulas that are read are: products have at most one factor that is no numeral, and the names of variables begin with a letter
abbrev pub IsFormed : Formula → Type 0
IsFormed f = IsLinearFormula f × AreNamedIn f

-- the formula has a resolution: its names have the tracks that they are given, no variable two systems, and no two directions meet
pub record IsResolved (h : Headers) (f : Formula) : Type 0 where
  pub arity : first_misuse h (mentions f) ≡ None
  pub clash : first_clash (all_occurrences h f) ≡ None
  pub conflict : first_conflict h f ≡ None

-- the plan of the formula, with fresh tracks from 0 on
abbrev pub formula_plan : Headers → Formula → Made
formula_plan h f = plan_of (plan_headers h) f 0

-- The relation has its tracks in byte order of their names, and holds of the numbers for which the formula is true.
pub record IsSolution (l : LibraryValue) (f : Formula) (r : RelationValue) : Type 0 where
  pub relation : IsRelation r
  pub ordered : AllPairs IsBytesBefore r.names
  pub holds : (number_of : List ℕ → ℕ) → RelationHolds r (map number_of r.names) ↔ Holds (meanings_of l) f number_of

-- the steps of the plan are done, and what is made at last is put in order, or they stop at the first that passes a limit, or memory runs out
abbrev pub BuildsFormula : LibraryValue → Made → StepLog → Result RelationValue StepFault → StepLog → Type 0
BuildsFormula l m = Then (Builds l m.steps m.last) (λ made. WithSome (IsOrdered made) Gives)
