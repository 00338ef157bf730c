-- What holds of the relations of tables.
use Rattle.std.specs.Prelude.{◌≡◌, ◌↔◌, ℕ, List, Ok}
use Rattle.std.specs.List.{AllByRecursion}
use Rattle.digit_tuple.specs.Steps.{StepLog}
use Rattle.digit_tuple.specs.declared.step_fault.StepFault.TheVariants.{Memory}
use Rattle.automaton_steps.specs.OneAnswers.{HasOneAnswer}
use Rattle.dfa_reading.specs.Listed.{Listed}
use Rattle.dfa_reading.specs.Reading.{relation_of}
use Rattle.num_system.specs.Sealed.{SystemValue, IsSealed}
use Rattle.number_relations.specs.Relations.{RelationValue, IsRelation, RelationHolds}
use Rattle.definitions.specs.TableSteps.{IsTable, AreForTracks, DoesTable, ListedHoldsOver}

-- sealed systems, one for each track of the table, in one direction
pub record AreTableSystems (listed : Listed) (systems : List SystemValue) : Type 0 where
  pub sealed : AllByRecursion IsSealed systems
  pub tracks : AreForTracks listed.header systems

-- a relation over these systems that holds of the numbers of which the table does
pub record IsRelationOfTable (systems : List SystemValue) (listed : Listed) (r : RelationValue) : Type 0 where
  pub relation : IsRelation r
  pub systems_are : r.systems ≡ systems
  pub holds : (ns : List ℕ) → RelationHolds r ns ↔ ListedHoldsOver systems listed ns

-- the steps of a table make its relation
abbrev pub TablesHold : Type 0
TablesHold = (systems : List SystemValue) (listed : Listed) (old new : StepLog) (r : RelationValue) → AreTableSystems listed systems → DoesTable systems listed old (Ok r) new
    → IsRelationOfTable systems listed r

-- and have one answer
abbrev pub TablesHaveOneAnswer : Type 0
TablesHaveOneAnswer = (systems : List SystemValue) (listed : Listed) → HasOneAnswer Memory (DoesTable systems listed)

-- what a file lists is a table
abbrev pub FilesAreTables : Type 0
FilesAreTables = (text : List ℕ) (listed : Listed) → relation_of text ≡ Ok listed → IsTable listed
