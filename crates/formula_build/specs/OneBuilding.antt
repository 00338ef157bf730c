-- Libraries that agree, and the law that formulas are built alike with them.
use Rattle.std.specs.Prelude.{◌≡◌, Result}
use Rattle.digit_tuple.specs.Steps.{StepLog}
use Rattle.digit_tuple.specs.declared.step_fault.StepFault.{StepFault}
use Rattle.digit_tuple.specs.declared.step_fault.StepFault.TheVariants.{Memory}
use Rattle.automaton_steps.specs.OneAnswers.{AreOneAnswer}
use Rattle.formula_parse.specs.Tokens.{Name}
use Rattle.term_plans.specs.Plans.{Made}
use Rattle.num_system.specs.Sealed.{SystemValue}
use Rattle.number_relations.specs.Relations.{RelationValue}
use Rattle.plan_relations.specs.Libraries.{LibraryValue, IsLibrary, IsSystemIn}
use Rattle.formula_build.specs.Solutions.{BuildsFormula}

-- names that mean something in both libraries mean the same, and both have the same relations and words
pub record Agree (l m : LibraryValue) : Type 0 where
  pub relations : l.relations ≡ m.relations
  pub words : l.words ≡ m.words
  pub systems : (y : Name) (s t : SystemValue) → IsSystemIn l y s → IsSystemIn m y t → s ≡ t

-- the steps of a plan have one answer: one relation and the same lines, or one refusal
abbrev pub OneBuilding : Type 0
OneBuilding = (l m : LibraryValue) (old new next : StepLog) (p : Made) (result other : Result RelationValue StepFault) → IsLibrary l → IsLibrary m → Agree l m
    → BuildsFormula l p old result new → BuildsFormula m p old other next → AreOneAnswer Memory result other new next
