-- The steps by which listed automata are combined: after those of the systems that are admitted, first those that read the tables, then one
-- that makes the word.
use Rattle.std.specs.Prelude.{◌≡◌, ◌⊎◌, ℕ, suc, pos, List, [], ◌∷◌, Some, Ok, Err, ⊤}
use Rattle.digit_tuple.specs.Steps.{StepLog}
use Rattle.digit_tuple.specs.declared.step_fault.StepFault.{StepFault}
use Rattle.digit_tuple.specs.declared.steps.StepLine.{StepLine}
use Rattle.combinations.specs.Combined.{AreSystemsFor}
use Rattle.automaton_steps.specs.Makings.{DoesStep}
use Rattle.combinations.specs.CombineSteps.{combine_step}
use Rattle.combinations.specs.Parts.{PartValue}
use Rattle.command_head.specs.Heads.{ValuedName}
use Rattle.command_head.specs.Values.{value_at}
use Rattle.dfa_loading.specs.declared.loaded.Loaded.{Loaded}
use Rattle.plan_relations.specs.Libraries.{NamedRelation, relation_named}
use Rattle.named_systems.specs.NamedSystems.{NamedSystem, AreSealed}
use Rattle.num_system.specs.Sealed.{SystemValue}
use Rattle.word_output.specs.Words.{WordValue}
use Rattle.system_files.specs.SystemFiles.{Custom}
use Rattle.command_parts.specs.FormulaSteps.{AreMeant, IsReadingStopped}
use Rattle.command_parts.specs.TableReads.{TableRead, AreTablesRead, relations_in}

-- the relations of listed automata, the first of which is at this place of the list, with their values
abbrev pub ArePartsFrom : List NamedRelation → ℕ → List ValuedName → List PartValue → Type 0
ArePartsFrom relations place [] [] = ⊤
ArePartsFrom relations place [] (p ∷ parts) = ⊥
ArePartsFrom relations place (v ∷ automata) [] = ⊥
ArePartsFrom relations place (v ∷ automata) (p ∷ parts) = (relation_named relations v.name ≡ Some p.relation) × (p.value ≡ value_at place v.value) × ArePartsFrom relations (suc place) automata parts

-- All tables are read, over sealed systems that names mean, and these are the relations of the listed automata with their values. Their systems
-- are those of the first.
pub record AreListedParts (admitted : StepLog) (custom : Custom) (tables : List Loaded) (automata : List ValuedName) : Type 0 where
  pub systems : List NamedSystem
  pub sealed : AreSealed systems
  pub meant : AreMeant custom systems
  pub reads : List TableRead
  pub reading : StepLog
  pub read : AreTablesRead systems admitted tables reads reading
  pub parts : List PartValue
  pub parts_are : ArePartsFrom (relations_in reads) 0 automata parts
  pub tracks : List SystemValue
  pub tracks_are : AreSystemsFor parts tracks

-- the step that combines them makes this word, and these are the lines of all steps
pub record AreCombineSteps (admitted : StepLog) (custom : Custom) (tables : List Loaded) (automata : List ValuedName) (word : WordValue) (lines : List StepLine) : Type 0 where
  pub before : AreListedParts admitted custom tables automata
  pub log : StepLog
  pub done : DoesStep (combine_step (Some (pos 0)) before.parts before.tracks) before.reading (Ok word) log
  pub lines_are : lines ≡ log.lines

-- it is refused by this fault
pub record IsCombiningStopped (admitted : StepLog) (custom : Custom) (tables : List Loaded) (automata : List ValuedName) (fault : StepFault) : Type 0 where
  pub before : AreListedParts admitted custom tables automata
  pub log : StepLog
  pub refused : DoesStep (combine_step (Some (pos 0)) before.parts before.tracks) before.reading (Err fault) log

-- a step that reads a table, or the one that combines, is the first to pass a limit
abbrev pub AreCombineStepsRefused : StepLog → Custom → List Loaded → List ValuedName → StepFault → Type 0
AreCombineStepsRefused admitted custom tables automata fault = IsReadingStopped admitted custom tables fault ⊎ IsCombiningStopped admitted custom tables automata fault
