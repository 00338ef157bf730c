-- What the code makes of listed automata, part by part.
use Rattle.std.specs.Prelude.{◌≡◌, ◌≢◌, ℕ, ◌<◌, ◌^◌, Bool, List, [], ◌∷◌, length, map, None, Some, Result, MatchResult}
use Rattle.std.specs.List.{AllByRecursion}
use Rattle.command_head.specs.HeadViews.{valued_view}
use Rattle.command_head.specs.Heads.{CombineHead, ValuedName}
use Rattle.command_head.specs.declared.head.ValuedName as valued
use Rattle.digit_tuple.specs.Steps.{StepLog}
use Rattle.dfa_loading.specs.Headers.{headers_of}
use Rattle.dfa_loading.specs.Loading.{AreListedBy}
use Rattle.digit_tuple.specs.declared.steps.StepLine.{StepLine}
use Rattle.plan_relations.specs.Libraries.{NamedRelation, relation_named}
use Rattle.named_systems.specs.NamedSystems.{NamedSystem}
use Rattle.formula_build.specs.declared.names.Names.{Names}
use Rattle.formula_resolve.specs.Headers.{Headers, automaton_tracks}
use Rattle.number_relations.specs.Relations.{RelationValue}
use Rattle.wal_outside.specs.Files.{Files}
use Rattle.word_output.specs.Words.{WordValue}
use Rattle.definitions.specs.Texts.{Stores}
use Rattle.definitions.specs.Trees.{Ledger, custom_of}
use Rattle.system_files.specs.SystemFiles.{Custom}
use Rattle.word_commands.specs.declared.combine.ListedAutomata.{ListedAutomata}
use Rattle.command_parts.specs.declared.fault.Fault.{Fault}
use Rattle.command_parts.specs.declared.file_change.Made.{Made}
use Rattle.command_parts.specs.declared.step_options.StepOptions.{StepOptions}
use Rattle.command_parts.specs.Checks.{Fails, Pure}
use Rattle.word_commands.specs.CombineOutcomes.{listed_names, listed_files, listed_mentions, first_plain, HaveSystemsOfFirst, CombinedAnswers, after_listed_tables, after_listed_systems}
use Rattle.word_commands.specs.CombineSteps.{AreCombineSteps}
use Rattle.command_parts.specs.FileChanges.{Makes}
use Rattle.command_parts.specs.MentionedTables.{AreLoaded, AreNames}

-- the automata in their order
abbrev pub automata_in : List valued.ValuedName → List ValuedName
automata_in automata = map valued_view automata

abbrev pub automata_of : ListedAutomata → List ValuedName
automata_of read = automata_in read.automata.items

-- they and a name for the word
abbrev pub head_of : List ℕ → ListedAutomata → CombineHead
head_of word read = record { word = word; automata = automata_of read }

-- the files list the tables
abbrev pub AreTablesOf : ListedAutomata → Files → Type 0
AreTablesOf read files = AreListedBy files (listed_files (automata_of read)) read.mentioned.tables.items

-- there are some automata, whose places are numbers of 32 bits, signed, and what they mention is loaded
pub record IsReadList (read : ListedAutomata) : Type 0 where
  pub some : read.automata.items ≢ []
  pub few : length read.automata.items < 2 ^ 31
  pub loaded : AreLoaded (listed_mentions (automata_of read)) read.mentioned

-- the names of the systems of their tracks mean these
abbrev pub AreListedNames : ListedAutomata → Custom → Names → Type 0
AreListedNames read custom names = AreNames (listed_mentions (automata_of read)) read.mentioned.tables.items custom names

-- the systems of the tracks of the first of some automata
abbrev pub first_names : Headers → List (List ℕ) → List (List ℕ)
first_names h [] = []
first_names h (name ∷ names) = automaton_tracks h name

-- their systems are sealed, each under its name, none is over sets, and all have the systems of the first
pub record IsPossible (read : ListedAutomata) (names : Names) : Type 0 where
  pub read_list : IsReadList read
  pub named : (custom : Custom) × AreListedNames read custom names
  pub plain : first_plain (headers_of read.mentioned.tables.items) (listed_names (automata_of read)) ≡ None
  pub shape : HaveSystemsOfFirst (headers_of read.mentioned.tables.items) (listed_names (automata_of read))

-- a relation is under each of their names
abbrev pub HasRelations : List NamedRelation → List ValuedName → Type 0
HasRelations relations automata = AllByRecursion (λ (v : ValuedName). (r : RelationValue) × (relation_named relations v.name ≡ Some r)) automata

-- over these systems the steps make the word
pub record AreStepsOver (admitted : StepLog) (custom : Custom) (systems : List NamedSystem) (read : ListedAutomata) (word : WordValue) (lines : List StepLine) : Type 0 where
  pub steps : AreCombineSteps admitted custom read.mentioned.tables.items (automata_of read) word lines
  pub systems_are : steps.before.systems ≡ systems

-- they do, or why they do not
abbrev pub MakesWord : StepLog → Custom → List NamedSystem → ListedAutomata → Result WordValue Fault → StepLog → Type 0
MakesWord admitted custom systems read result new =
    MatchResult result (λ word. AreStepsOver admitted custom systems read word new.lines) (Fails (Pure (CombinedAnswers admitted custom read.mentioned.tables.items (automata_of read))))

-- by these texts of users' systems this is what the checks after the tables make
abbrev pub MakesAfterListed : StepOptions → ListedAutomata → Custom → Result Made Fault → Type 0
MakesAfterListed options read custom result = (ledger : Ledger) (files : Files) (word : List ℕ) → Stores ledger files → custom_of ledger ≡ custom → AreTablesOf read files
    → Makes (custom_of ledger) (after_listed_tables options.limit ledger (head_of word read) read.mentioned.tables.items) options.shown result

-- and those after the systems
abbrev pub MakesAfterListedSystems : StepLog → Bool → ListedAutomata → Custom → Result Made Fault → Type 0
MakesAfterListedSystems admitted shown read custom result = (ledger : Ledger) (files : Files) (word : List ℕ) → Stores ledger files → custom_of ledger ≡ custom → AreTablesOf read files
    → Makes (custom_of ledger) (after_listed_systems ledger (head_of word read) read.mentioned.tables.items admitted) shown result
