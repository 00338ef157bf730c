-- The steps by which the files that a formula names are read, one after another: those of an automaton make a relation, and those of a word
-- its letters.
use Rattle.std.specs.Prelude.{◌≡◌, ◌⊎◌, List, [], ◌∷◌, Some, Ok, Err}
use Rattle.std.specs.List.{AllZip}
use Rattle.digit_tuple.specs.Steps.{StepLog}
use Rattle.digit_tuple.specs.declared.step_fault.StepFault.{StepFault}
use Rattle.dfa_reading.specs.Headers.{Header, Truth, Systems, Sets}
use Rattle.dfa_reading.specs.Listed.{Listed}
use Rattle.dfa_loading.specs.declared.loaded.Loaded.{Loaded}
use Rattle.formula_resolve.specs.declared.file.File.{File}
use Rattle.formula_resolve.specs.declared.file.File.TheVariants.{Automaton, Word}
use Rattle.plan_relations.specs.Libraries.{NamedRelation, NamedWord, ReadValue, LibraryValue}
use Rattle.named_systems.specs.NamedSystems.{NamedSystem, system_named}
use Rattle.num_system.specs.Sealed.{SystemValue}
use Rattle.word_output.specs.WordReadings.{DoesWord}
use Rattle.definitions.specs.TableSteps.{DoesTable}

-- what is made of a file: a relation or a word, under the file's name
pub data TableRead : Type 0 where
  ARelation : NamedRelation → TableRead
  AWord : NamedWord → TableRead

-- the relations of what was made, and the words
abbrev pub relations_in : List TableRead → List NamedRelation
relations_in [] = []
relations_in (ARelation r ∷ reads) = r ∷ relations_in reads
relations_in (AWord w ∷ reads) = relations_in reads

abbrev pub words_in : List TableRead → List NamedWord
words_in [] = []
words_in (ARelation r ∷ reads) = words_in reads
words_in (AWord w ∷ reads) = w ∷ words_in reads

abbrev pub read_of : List TableRead → ReadValue
read_of reads = record { relations = relations_in reads; words = words_in reads }

-- what names mean by these and by systems
abbrev pub library_with : List TableRead → List NamedSystem → LibraryValue
library_with reads systems = record { relations = relations_in reads; words = words_in reads; systems = systems }

-- the systems that are under the names of a header; sets have none
abbrev pub AreSystemsUnder : List NamedSystem → Header → List SystemValue → Type 0
AreSystemsUnder systems (Truth value) tracks = tracks ≡ []
AreSystemsUnder systems (Systems names) tracks = AllZip (λ name s. system_named systems name ≡ Some s) names tracks
AreSystemsUnder systems (Sets sets) tracks = ⊥

-- the steps of an automaton's table make the relation that its name means
pub record IsRelationRead (systems : List NamedSystem) (old : StepLog) (table : Loaded) (r : NamedRelation) (new : StepLog) : Type 0 where
  pub file_is : table.file ≡ Automaton r.name
  pub tracks : List SystemValue
  pub over : AreSystemsUnder systems table.listed.header tracks
  pub done : DoesTable tracks table.listed old (Ok r.relation) new

-- those of a word's table make the word that its name means
pub record IsWordRead (systems : List NamedSystem) (old : StepLog) (table : Loaded) (w : NamedWord) (new : StepLog) : Type 0 where
  pub file_is : table.file ≡ Word w.name
  pub tracks : List SystemValue
  pub over : AreSystemsUnder systems table.listed.header tracks
  pub done : DoesWord tracks table.listed old (Ok w.word) new

abbrev pub IsTableRead : List NamedSystem → StepLog → Loaded → TableRead → StepLog → Type 0
IsTableRead systems old table (ARelation r) new = IsRelationRead systems old table r new
IsTableRead systems old table (AWord w) new = IsWordRead systems old table w new

-- a step of a file of this kind is the first to pass a limit
abbrev pub PassesFile : File → StepLog → List SystemValue → Listed → StepFault → Type 0
PassesFile (Automaton name) old tracks listed fault = (new : StepLog) × DoesTable tracks listed old (Err fault) new
PassesFile (Word name) old tracks listed fault = (new : StepLog) × DoesWord tracks listed old (Err fault) new

-- a step of the table is
pub record IsTableRefused (systems : List NamedSystem) (old : StepLog) (table : Loaded) (fault : StepFault) : Type 0 where
  pub tracks : List SystemValue
  pub over : AreSystemsUnder systems table.listed.header tracks
  pub passes : PassesFile table.file old tracks table.listed fault

-- the steps of some tables, one after another, make what their names mean
abbrev pub AreTablesRead : List NamedSystem → StepLog → List Loaded → List TableRead → StepLog → Type 0
AreTablesRead systems old [] [] new = new ≡ old
AreTablesRead systems old [] (r ∷ reads) new = ⊥
AreTablesRead systems old (table ∷ tables) [] new = ⊥
AreTablesRead systems old (table ∷ tables) (r ∷ reads) new = (mid : StepLog) × IsTableRead systems old table r mid × AreTablesRead systems mid tables reads new

-- a step of one of them is the first to pass a limit
abbrev pub IsReadingRefused : List NamedSystem → StepLog → List Loaded → StepFault → Type 0
IsReadingRefused systems old [] fault = ⊥
IsReadingRefused systems old (table ∷ tables) fault =
    IsTableRefused systems old table fault
    ⊎ ((r : TableRead) × (mid : StepLog) × IsTableRead systems old table r mid × IsReadingRefused systems mid tables fault)
