-- What loaded tables make, read into the library of a formula.
use Rattle.std.specs.Prelude.{◌≡◌, ◌⊎◌, ℕ, List, Result, Ok, MatchResult}
use Rattle.std.specs.List.{AllByRecursion}
use Rattle.digit_tuple.specs.Steps.{StepLog}
use Rattle.digit_tuple.specs.declared.step_fault.StepFault.{StepFault}
use Rattle.digit_tuple.specs.declared.step_fault.StepFault.TheVariants as faults
use Rattle.dfa_loading.specs.Places.{lists_of}
use Rattle.dfa_loading.specs.declared.loaded.Loaded.{Loaded}
use Rattle.dfa_reading.specs.WordFiles.{IsWordListed}
use Rattle.formula_resolve.specs.declared.file.File.TheVariants.{Automaton, Word}
use Rattle.plan_relations.specs.Libraries.{ReadValue, with_relation, with_word}
use Rattle.named_systems.specs.NamedSystems.{NamedSystem}
use Rattle.num_system.specs.Sealed.{SystemValue}
use Rattle.num_system.specs.Tracks.{ShareDirection}
use Rattle.number_relations.specs.Relations.{RelationValue}
use Rattle.word_output.specs.Words.{WordValue}
use Rattle.definitions.specs.TableSteps.{IsTable}
use Rattle.command_parts.specs.TableReads.{TableRead, ARelation, AWord, read_of, AreSystemsUnder, IsRelationRead, IsWordRead, IsTableRead, IsTableRefused, AreTablesRead, IsReadingRefused}

-- a table over systems, each of which is under its name, in one direction, which is what its text lists; a word's lists a word
pub record IsReadable (systems : List NamedSystem) (table : Loaded) : Type 0 where
  pub lists : lists_of table.file table.text ≡ Ok table.listed
  pub is_table : IsTable table.listed
  pub is_word : (name : List ℕ) → table.file ≡ Word name → IsWordListed table.listed
  pub tracks : List SystemValue
  pub over : AreSystemsUnder systems table.listed.header tracks
  pub shared_direction : ShareDirection tracks

abbrev pub AreReadable : List NamedSystem → List Loaded → Type 0
AreReadable systems tables = AllByRecursion (IsReadable systems) tables

-- why a table is not read: memory ran out, or a step is the first to pass a limit
abbrev pub IsTableFault : List NamedSystem → StepLog → Loaded → StepFault → Type 0
IsTableFault systems old table fault = (fault ≡ faults.Memory) ⊎ IsTableRefused systems old table fault

-- the steps of an automaton's table make the relation that its name means
abbrev pub IsReadRelation : List NamedSystem → StepLog → Loaded → RelationValue → StepLog → Type 0
IsReadRelation systems old table r new = (name : List ℕ) → table.file ≡ Automaton name → IsRelationRead systems old table (record { name = name; relation = r }) new

-- those of a word's table make the word
abbrev pub IsReadWord : List NamedSystem → StepLog → Loaded → WordValue → StepLog → Type 0
IsReadWord systems old table w new = (name : List ℕ) → table.file ≡ Word name → IsWordRead systems old table (record { name = name; word = w }) new

-- with one more after the others
abbrev pub with_read : ReadValue → TableRead → ReadValue
with_read read (ARelation r) = record { relations = with_relation read.relations r.name r.relation; words = read.words }
with_read read (AWord w) = record { relations = read.relations; words = with_word read.words w.name w.word }

-- what a table makes is added, or it is not read
abbrev pub AddsTable : List NamedSystem → StepLog → Loaded → ReadValue → Result (Unit {0}) StepFault → ReadValue → StepLog → Type 0
AddsTable systems old table before result after new =
    MatchResult result (λ _. (r : TableRead) × IsTableRead systems old table r new × (after ≡ with_read before r)) (IsTableFault systems old table)

-- why tables are not read
abbrev pub IsReadingFault : List NamedSystem → StepLog → List Loaded → StepFault → Type 0
IsReadingFault systems old tables fault = (fault ≡ faults.Memory) ⊎ IsReadingRefused systems old tables fault

-- what the tables make, each under its name, or why they are not read
abbrev pub ReadsTables : List NamedSystem → StepLog → List Loaded → Result ReadValue StepFault → StepLog → Type 0
ReadsTables systems old tables result new =
    MatchResult result (λ read. (reads : List TableRead) × AreTablesRead systems old tables reads new × (read ≡ read_of reads)) (IsReadingFault systems old tables)
