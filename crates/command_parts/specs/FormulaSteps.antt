-- The steps by which a formula is decided: after those of the systems that are admitted, first those that read the tables of the automata and
-- words that it names, then those of its change, over the systems that names mean.
use Rattle.std.specs.Prelude.{◌≡◌, ◌⊎◌, List, [], Result, Err}
use Rattle.std.specs.List.{AllByRecursion}
use Rattle.digit_tuple.specs.Steps.{StepLog}
use Rattle.digit_tuple.specs.declared.step_fault.StepFault.{StepFault}
use Rattle.digit_tuple.specs.declared.step_fault.StepFault.TheVariants.{Memory}
use Rattle.digit_tuple.specs.declared.steps.StepLine.{StepLine}
use Rattle.dfa_loading.specs.Headers.{headers_of}
use Rattle.dfa_loading.specs.declared.loaded.Loaded.{Loaded}
use Rattle.formula_parse.specs.Trees as trees
use Rattle.plan_relations.specs.Libraries.{LibraryValue}
use Rattle.named_systems.specs.NamedSystems.{NamedSystem, AreSealed}
use Rattle.formula_build.specs.Solutions.{BuildsFormula, formula_plan}
use Rattle.num_system.specs.Sealed.{system_of}
use Rattle.number_relations.specs.Relations.{RelationValue}
use Rattle.system_files.specs.SystemFiles.{Custom}
use Rattle.definitions.specs.Named.{IsSystemNamed}
use Rattle.command_parts.specs.TableReads.{TableRead, AreTablesRead, IsReadingRefused, library_with}

-- each system is the one that its name means, read in that direction
abbrev pub AreMeant : Custom → List NamedSystem → Type 0
AreMeant custom systems = AllByRecursion (λ (s : NamedSystem). IsSystemNamed custom s.name s.system.direction (system_of s.system)) systems

-- these systems, no relation and no word
abbrev pub library_of : List NamedSystem → LibraryValue
library_of systems = library_with [] systems

-- All tables are read. The steps of the formula's change, over sealed systems each under its name, and over the relations and words of the tables, make
-- this relation, or are refused by this fault. The lines are those of all steps that were done.
pub record AreFormulaSteps (admitted : StepLog) (custom : Custom) (tables : List Loaded) (formula : trees.Formula) (result : Result RelationValue StepFault) (lines : List StepLine) : Type 0 where
  pub systems : List NamedSystem
  pub sealed : AreSealed systems
  pub meant : AreMeant custom systems
  pub reads : List TableRead
  pub reading : StepLog
  pub read : AreTablesRead systems admitted tables reads reading
  pub log : StepLog
  pub builds : BuildsFormula (library_with reads systems) (formula_plan (headers_of tables) formula) reading result log
  pub lines_are : lines ≡ log.lines

-- the steps that read the tables are refused by this fault
pub record IsReadingStopped (admitted : StepLog) (custom : Custom) (tables : List Loaded) (fault : StepFault) : Type 0 where
  pub systems : List NamedSystem
  pub sealed : AreSealed systems
  pub meant : AreMeant custom systems
  pub refused : IsReadingRefused systems admitted tables fault

-- or memory runs out there
abbrev pub IsUnread : StepLog → Custom → List Loaded → StepFault → Type 0
IsUnread admitted custom tables fault = (fault ≡ Memory) ⊎ IsReadingStopped admitted custom tables fault

-- a step that reads a table, or one of the change, is the first to pass a limit
abbrev pub AreStepsRefused : StepLog → Custom → List Loaded → trees.Formula → StepFault → Type 0
AreStepsRefused admitted custom tables formula fault = IsReadingStopped admitted custom tables fault ⊎ ((lines : List StepLine) × AreFormulaSteps admitted custom tables formula (Err fault) lines)
