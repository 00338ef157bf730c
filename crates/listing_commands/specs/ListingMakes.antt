-- What the code makes of the words that an automaton lists, part by part.
use Rattle.std.specs.Prelude.{◌≡◌, ◌++◌, ◌⊎◌, ℕ, ℤ, Bool, false, List, [], None, Some, Option, Result, Ok, Err, MatchResult, ⊤}
use Rattle.std.specs.List.{AllByRecursion}
use Rattle.digit_tuple.specs.Deterministic.{Automaton}
use Rattle.digit_tuple.specs.Steps.{StepLog}
use Rattle.digit_tuple.specs.Systems.{digit_sets}
use Rattle.digit_tuple.specs.declared.direction.Direction.{Direction}
use Rattle.digit_tuple.specs.declared.step_fault.StepFault.{StepFault}
use Rattle.digit_tuple.specs.declared.step_fault.StepFault.TheVariants as steps
use Rattle.digit_tuple.specs.declared.steps.StepLine.{StepLine}
use Rattle.wal_outside.specs.Files.{Files}
use Rattle.dfa_loading.specs.Loading.{AreListedBy}
use Rattle.dfa_loading.specs.declared.loaded.Loaded.{Loaded}
use Rattle.dfa_reading.specs.Headers.{Header, Truth, Systems, Sets}
use Rattle.dfa_reading.specs.Listed.{Listed}
use Rattle.dfa_reading.specs.Reading.{relation_of}
use Rattle.formula_build.specs.declared.names.Names.{Names}
use Rattle.named_systems.specs.NamedSystems.{NamedSystem, AreSealed}
use Rattle.num_system.specs.Sealed.{SystemValue, IsSealed}
use Rattle.num_system.specs.Tracks.{direction_of}
use Rattle.number_relations.specs.Relations.{RelationValue}
use Rattle.word_walk.specs.Listed.{is_listed}
use Rattle.language_steps.specs.LanguageSteps.{DoesPlainTable}
use Rattle.language_steps.specs.Tables.{is_over_sets}
use Rattle.definitions.specs.TableSteps.{AreForTracks, DoesTable, IsTable}
use Rattle.definitions.specs.Texts.{Stores}
use Rattle.definitions.specs.Trees.{Ledger, custom_of}
use Rattle.system_files.specs.SystemFiles.{Custom}
use Rattle.table_listings.specs.Questions.{Answers, HasTooLongAnswer, IsAskedOn}
use Rattle.table_listings.specs.declared.question.Answer.{Answer}
use Rattle.table_listings.specs.declared.question.Answer.TheVariants as given
use Rattle.table_listings.specs.declared.question.Question.{Question}
use Rattle.command_parts.specs.declared.fault.Fault.{Fault}
use Rattle.listing_commands.specs.declared.listing.Asked.{Asked}
use Rattle.listing_commands.specs.declared.listing.ReadListing.{ReadListing}
use Rattle.listing_commands.specs.declared.listing_fault.ListingFault.{ListingFault}
use Rattle.listing_commands.specs.declared.listing_fault.ListingFault.TheVariants as own
use Rattle.command_parts.specs.declared.step_options.StepOptions.{StepOptions}
use Rattle.command_parts.specs.FormulaSteps.{AreMeant}
use Rattle.listing_commands.specs.ListingOutcomes.{Reply, Lines, Verdict, reply_text, after_listing_systems, after_listing_tables, listing_files, listing_mentions}
use Rattle.command_parts.specs.Lines.{shown_steps}
use Rattle.command_parts.specs.FileChanges.{PrintsChecked}
use Rattle.command_parts.specs.MentionedTables.{AreLoaded, AreNames}
use Rattle.command_parts.specs.TableReading.{IsReadable}
use Rattle.command_parts.specs.TableReads.{AreSystemsUnder}
use Rattle.command_parts.specs.WordPrinting.{HaveNames, tracks_named}

-- the relation of a table, as its automaton
abbrev pub DoesRelation : List SystemValue → Listed → StepLog → Result Automaton StepFault → StepLog → Type 0
DoesRelation tracks listed old (Ok d) new = (r : RelationValue) × (r.automaton ≡ d) × DoesTable tracks listed old (Ok r) new
DoesRelation tracks listed old (Err fault) new = DoesTable tracks listed old (Err fault) new

-- the place is on the tracks, an automaton is read, and this is the answer about the words that it lists
pub record IsAnswered (Does : Result Automaton StepFault → Type 0) (skip : Option Direction) (sets : List (List ℤ)) (question : Question) (answer : Answer) : Type 0 where
  pub on : IsAskedOn sets question
  pub read : Automaton
  pub does : Does (Ok read)
  pub answers : Answers (is_listed read skip) sets question answer

-- and the lines of the answer are too long
pub record IsAnsweredTooLong (Does : Result Automaton StepFault → Type 0) (skip : Option Direction) (sets : List (List ℤ)) (question : Question) : Type 0 where
  pub on : IsAskedOn sets question
  pub read : Automaton
  pub does : Does (Ok read)
  pub long : HasTooLongAnswer (is_listed read skip) sets question

-- why there is no answer: the place is not on the tracks, a step passes a limit, the lines are too long, or memory ran out
abbrev pub IsNotAnswered : (Result Automaton StepFault → Type 0) → Option Direction → List (List ℤ) → List ℕ → Question → ListingFault → Type 0
IsNotAnswered Does skip sets name question (own.Place of) = (of ≡ name) × ¬ IsAskedOn sets question
IsNotAnswered Does skip sets name question (own.Step (steps.Letters step)) = IsAskedOn sets question × Does (Err (steps.Letters step))
IsNotAnswered Does skip sets name question (own.Step (steps.States step)) = IsAskedOn sets question × Does (Err (steps.States step))
IsNotAnswered Does skip sets name question (own.Step steps.Memory) = ⊤
IsNotAnswered Does skip sets name question own.Long = IsAnsweredTooLong Does skip sets question

-- an answer, or why there is none
abbrev pub AnswersBy : (Result Automaton StepFault → Type 0) → Option Direction → List (List ℤ) → List ℕ → Question → Result Answer ListingFault → Type 0
AnswersBy Does skip sets name question result = MatchResult result (IsAnswered Does skip sets question) (IsNotAnswered Does skip sets name question)

-- the digits of the tracks of a header over these systems
abbrev pub sets_below : Header → List SystemValue → List (List ℤ)
sets_below (Truth value) tracks = []
sets_below (Systems names) tracks = digit_sets (tracks_named names tracks)
sets_below (Sets sets) tracks = sets

-- over these systems
abbrev pub AnswersOver : StepLog → Loaded → List SystemValue → List ℕ → Question → Result Answer ListingFault → StepLog → Type 0
AnswersOver old table tracks name question result new =
    AnswersBy (λ r. DoesRelation tracks table.listed old r new) (Some (direction_of tracks)) (sets_below table.listed.header tracks) name question result

-- over the systems that are under the names of a header, unless memory ran out
abbrev pub AnswersUnder : List NamedSystem → StepLog → Loaded → List ℕ → Question → Result Answer ListingFault → StepLog → Type 0
AnswersUnder systems old table name question result new =
    (result ≡ Err (own.Step steps.Memory)) ⊎ ((tracks : List SystemValue) × AreSystemsUnder systems table.listed.header tracks × AnswersOver old table tracks name question result new)

-- about the words of a table, by its header
abbrev pub AnswersBelow : Header → List NamedSystem → StepLog → Loaded → List ℕ → Question → Result Answer ListingFault → StepLog → Type 0
AnswersBelow (Sets sets) systems old table name question result new = AnswersBy (λ r. DoesPlainTable table.listed old r new) None sets name question result
AnswersBelow (Systems names) systems old table name question result new = AnswersUnder systems old table name question result new
AnswersBelow (Truth value) systems old table name question result new = AnswersUnder systems old table name question result new

-- the place is on no tracks of these digits, or memory ran out
abbrev pub IsPlaceFault : List (List ℤ) → Asked → ListingFault → Type 0
IsPlaceFault sets asked (own.Place of) = (of ≡ asked.name) × ¬ IsAskedOn sets asked.question
IsPlaceFault sets asked (own.Step steps.Memory) = ⊤
IsPlaceFault sets asked (own.Step (steps.Letters step)) = ⊥
IsPlaceFault sets asked (own.Step (steps.States step)) = ⊥
IsPlaceFault sets asked own.Long = ⊥

-- these are systems of a header, one for each name
abbrev pub HaveHeader : Header → List SystemValue → Type 0
HaveHeader (Truth value) tracks = tracks ≡ []
HaveHeader (Systems names) tracks = HaveNames names tracks
HaveHeader (Sets sets) tracks = ⊥

-- these are sealed systems of the table's header, in one direction, and the table is what its text lists
pub record HasTracks (table : Loaded) (tracks : List SystemValue) : Type 0 where
  pub lists : relation_of table.text ≡ Ok table.listed
  pub is_table : IsTable table.listed
  pub sealed : AllByRecursion IsSealed tracks
  pub tracks_are : AreForTracks table.listed.header tracks
  pub named : HaveHeader table.listed.header tracks

-- a table that is not over sets has sealed systems under the names of its header
pub record CanBeListed (systems : List NamedSystem) (table : Loaded) : Type 0 where
  pub lists : relation_of table.text ≡ Ok table.listed
  pub is_table : IsTable table.listed
  pub sealed : AreSealed systems
  pub readable : is_over_sets table.listed.header ≡ false → IsReadable systems table
  pub meant : (custom : Custom) × AreMeant custom systems

-- the automaton is mentioned, and loaded
abbrev pub IsReadListing : ReadListing → Type 0
IsReadListing read = AreLoaded (listing_mentions read.asked.name) read.mentioned

-- the names of the systems of its tracks mean these
abbrev pub AreListingNames : ReadListing → Custom → Names → Type 0
AreListingNames read custom names = AreNames (listing_mentions read.asked.name) read.mentioned.tables.items custom names

-- an answer as what is said, and what is printed of it and of the steps
abbrev pub reply_of : Answer → Reply
reply_of (given.Lines text) = Lines text.items
reply_of (given.Verdict infinite) = Verdict infinite

abbrev pub answer_text : Bool → List StepLine → Answer → List ℕ
answer_text shown lines answer = shown_steps shown lines ++ reply_text (reply_of answer)

-- by these texts of users' systems this is what the checks after the table make
abbrev pub PrintsAfterTables : StepOptions → ReadListing → Custom → Result (List ℕ) Fault → Type 0
PrintsAfterTables options read custom result = (ledger : Ledger) (files : Files) → Stores ledger files → custom_of ledger ≡ custom → AreListedBy files (listing_files read.asked.name) read.mentioned.tables.items
    → PrintsChecked (after_listing_tables options.limit ledger read.asked.name read.asked.question read.mentioned.tables.items) options.shown result

-- and those after the systems
abbrev pub PrintsAfterSystems : StepLog → Bool → ReadListing → Custom → Result (List ℕ) Fault → Type 0
PrintsAfterSystems admitted shown read custom result = (ledger : Ledger) (files : Files) → Stores ledger files → custom_of ledger ≡ custom → AreListedBy files (listing_files read.asked.name) read.mentioned.tables.items
    → PrintsChecked (after_listing_systems ledger read.asked.name read.asked.question read.mentioned.tables.items admitted) shown result
