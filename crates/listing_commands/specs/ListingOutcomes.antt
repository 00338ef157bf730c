-- What `test` and `inf` do, by their checks in their order: the shape of the head, the file of the automaton, its systems, that the place is a
-- word over its tracks, the steps that read its table, and the length of the lines. Nothing is stored.
use Rattle.std.specs.Prelude.{◌≡◌, ◌↔◌, ℕ, ℤ, Bool, List, [], ◌∷◌, Some, Result, Ok, Err, IsTrue, codes}
use Rattle.digit_tuple.specs.Deterministic.{Automaton}
use Rattle.digit_tuple.specs.Steps.{StepLog}
use Rattle.digit_tuple.specs.declared.step_fault.StepFault.{StepFault}
use Rattle.digit_tuple.specs.declared.step_fault.StepFault.TheVariants as steps
use Rattle.digit_tuple.specs.declared.steps.StepLine.{StepLine}
use Rattle.wal_outside.specs.declared.folder.Folder.TheVariants.{Automata}
use Rattle.command_head.specs.Grammar.{DerivesName, DerivesTest}
use Rattle.command_head.specs.Heads.{TestHead}
use Rattle.command_head.specs.Parts.{parts_of, texts_of}
use Rattle.command_head.specs.TestBreaks.{IsTestFault}
use Rattle.command_head.specs.declared.fault.HeadFault.{HeadFault}
use Rattle.command_head.specs.declared.fault.HeadFault.TheVariants as heads
use Rattle.dfa_loading.specs.Headers.{headers_of}
use Rattle.dfa_loading.specs.declared.loaded.Loaded.{Loaded}
use Rattle.dfa_reading.specs.Headers.{Header, Truth, Systems, Sets}
use Rattle.formula_resolve.specs.FirstMentions.{first_files, first_systems}
use Rattle.formula_resolve.specs.declared.file.File.{File}
use Rattle.formula_resolve.specs.declared.mention.Mention.{Mention}
use Rattle.formula_resolve.specs.declared.mention.Mention.TheVariants.{Called}
use Rattle.named_systems.specs.NamedSystems.{NamedSystem, AreSealed}
use Rattle.language_steps.specs.LanguageSteps.{DoesPlainTable}
use Rattle.definitions.specs.Listings.{AreTracksOf, IsListedOver}
use Rattle.definitions.specs.Tracks.{Tracks, letter_sets}
use Rattle.definitions.specs.Trees.{Entry, Ledger, Tree, tree_of, custom_of}
use Rattle.system_files.specs.SystemFiles.{Custom}
use Rattle.table_listings.specs.Questions.{HasLines, HasTooLongAnswer, HasVerdict, IsAskedOn}
use Rattle.table_listings.specs.declared.question.Question.{Question}
use Rattle.table_listings.specs.declared.question.Question.TheVariants.{Words, Infinity}
use Rattle.command_parts.specs.declared.shape_refusal.ShapeRefusal.TheVariants as shape_refusals
use Rattle.command_parts.specs.declared.word_refusal.WordRefusal.TheVariants as word_refusals
use Rattle.command_parts.specs.declared.refusal.Refusal.TheVariants as refusals
use Rattle.command_parts.specs.declared.fault.Fault.{Fault}
use Rattle.command_parts.specs.declared.fault.Fault.TheVariants as faults
use Rattle.command_parts.specs.Accepting.{Said}
use Rattle.command_parts.specs.Checks.{Check, Passing, Pure, Then, IsSingle}
use Rattle.command_parts.specs.FileChecks.{files_loaded}
use Rattle.command_parts.specs.FormulaSteps.{AreMeant, IsReadingStopped}
use Rattle.command_parts.specs.HeadAnswers.{HeadAnswers, fault_of_head}
use Rattle.command_parts.specs.Lines.{verdict_line}
use Rattle.command_parts.specs.RefusingChecks.{Refusing}
use Rattle.command_parts.specs.SystemChecks.{systems_known}
use Rattle.command_parts.specs.TableReads.{TableRead, AreTablesRead}
use Rattle.command_parts.specs.TrackSystems.{fault_of}

-- the automaton is mentioned as one that is called
abbrev pub listing_mentions : List ℕ → List Mention
listing_mentions name = Called name 0 ∷ []

-- its file
abbrev pub listing_files : List ℕ → List File
listing_files name = first_files (listing_mentions name)

-- the systems of its tracks, each once
abbrev pub listing_systems : List Loaded → List ℕ → List (List ℕ)
listing_systems tables name = first_systems (headers_of tables) (listing_mentions name)

-- there is one table, and these are its tracks
abbrev pub AreTableTracks : Custom → List Loaded → Tracks → Type 0
AreTableTracks custom [] tracks = ⊥
AreTableTracks custom (table ∷ []) tracks = AreTracksOf custom table.listed.header tracks
AreTableTracks custom (table ∷ other ∷ tables) tracks = ⊥

-- the place is a word over the tracks, or it is not
abbrev pub PlaceAnswers : List ℕ → Tracks → Question → Result (Unit {0}) (List ℕ) → Type 0
PlaceAnswers name tracks question (Ok on) = IsAskedOn (letter_sets tracks) question
PlaceAnswers name tracks question (Err of) = (of ≡ name) × ¬ IsAskedOn (letter_sets tracks) question

-- a table over sets is read by one step
pub record IsPlainRead (admitted : StepLog) (table : Loaded) (lines : List StepLine) : Type 0 where
  pub read : Automaton
  pub log : StepLog
  pub done : DoesPlainTable table.listed admitted (Ok read) log
  pub lines_are : lines ≡ log.lines

-- one over systems by the steps of relations, over sealed systems that names mean; a truth value takes none
pub record IsSystemsRead (admitted : StepLog) (custom : Custom) (table : Loaded) (lines : List StepLine) : Type 0 where
  pub systems : List NamedSystem
  pub sealed : AreSealed systems
  pub meant : AreMeant custom systems
  pub reads : List TableRead
  pub log : StepLog
  pub done : AreTablesRead systems admitted (table ∷ []) reads log
  pub lines_are : lines ≡ log.lines

-- the lines of the steps that read a table by its header
abbrev pub IsRead : Header → StepLog → Custom → Loaded → List StepLine → Type 0
IsRead (Sets sets) admitted custom table lines = IsPlainRead admitted table lines
IsRead (Systems names) admitted custom table lines = IsSystemsRead admitted custom table lines
IsRead (Truth value) admitted custom table lines = IsSystemsRead admitted custom table lines

-- or one of them is the first that passes a limit
abbrev pub IsReadRefused : Header → StepLog → Custom → Loaded → StepFault → Type 0
IsReadRefused (Sets sets) admitted custom table fault = (log : StepLog) × DoesPlainTable table.listed admitted (Err fault) log
IsReadRefused (Systems names) admitted custom table fault = IsReadingStopped admitted custom (table ∷ []) fault
IsReadRefused (Truth value) admitted custom table fault = IsReadingStopped admitted custom (table ∷ []) fault

-- the lines of the steps, or the number of the first one that passes a limit
abbrev pub ReadingAnswersBelow : Header → StepLog → Custom → Loaded → Result (List StepLine) StepFault → Type 0
ReadingAnswersBelow header admitted custom table (Ok lines) = IsRead header admitted custom table lines
ReadingAnswersBelow header admitted custom table (Err (steps.Letters step)) = IsReadRefused header admitted custom table (steps.Letters step)
ReadingAnswersBelow header admitted custom table (Err (steps.States step)) = IsReadRefused header admitted custom table (steps.States step)
ReadingAnswersBelow header admitted custom table (Err steps.Memory) = ⊥

-- of the one table that there is
abbrev pub ReadingAnswers : StepLog → Custom → List Loaded → Result (List StepLine) StepFault → Type 0
ReadingAnswers admitted custom [] result = ⊥
ReadingAnswers admitted custom (table ∷ []) result = ReadingAnswersBelow table.listed.header admitted custom table result
ReadingAnswers admitted custom (table ∷ other ∷ tables) result = ⊥

-- a test that says of each word whether the definition lists it over the tracks
abbrev pub DecidesListed : Custom → Tracks → Tree → (List ℕ → Bool) → Type 0
DecidesListed custom tracks tree lists = (w : List ℕ) → IsTrue (lists w) ↔ IsListedOver custom tracks tree w

-- the definition under the name, and the words that it lists
pub record HasListing (ledger : Ledger) (name : List ℕ) (tracks : Tracks) : Type 0 where
  pub entry : Entry
  pub there : ledger Automata name ≡ Some entry
  pub lists : List ℕ → Bool
  pub decides_words : DecidesListed (custom_of ledger) tracks (tree_of entry) lists

-- what is said: the lines of words, or whether there are infinitely many
pub data Reply : Type 0 where
  Lines : List ℕ → Reply
  Verdict : Bool → Reply

abbrev pub reply_text : Reply → List ℕ
reply_text (Lines text) = text
reply_text (Verdict infinite) = verdict_line (Some infinite)

abbrev pub IsReply : (List ℕ → Bool) → List (List ℤ) → Question → Reply → Type 0
IsReply lists sets question (Lines text) = HasLines lists sets question text
IsReply lists sets question (Verdict infinite) = HasVerdict lists question infinite

-- the reply, or that its lines are too long
abbrev pub ReplyAnswers : Ledger → List ℕ → Tracks → Question → Result Reply (Unit {0}) → Type 0
ReplyAnswers ledger name tracks question (Ok reply) = (listing : HasListing ledger name tracks) × IsReply listing.lists (letter_sets tracks) question reply
ReplyAnswers ledger name tracks question (Err long) = (listing : HasListing ledger name tracks) × HasTooLongAnswer listing.lists (letter_sets tracks) question

abbrev pub too_long : Unit {0} → Fault
too_long long = faults.Refused (refusals.Word word_refusals.TestLong)

-- the checks after the steps, after the place, and after the tracks
abbrev pub after_read : Ledger → List ℕ → Question → Tracks → List StepLine → Check Said
after_read ledger name question tracks lines = Then (Refusing too_long (ReplyAnswers ledger name tracks question)) (λ reply. Passing (λ (said : Said). said ≡ record { lines = lines; text = reply_text reply }))

abbrev pub after_place : Ledger → List ℕ → Question → List Loaded → StepLog → Tracks → Check Said
after_place ledger name question tables admitted tracks = Then (Refusing fault_of (ReadingAnswers admitted (custom_of ledger) tables)) (λ lines. after_read ledger name question tracks lines)

abbrev pub after_tracks : Ledger → List ℕ → Question → List Loaded → StepLog → Tracks → Check Said
after_tracks ledger name question tables admitted tracks = Then (Refusing (λ of. faults.Refused (refusals.Shape (shape_refusals.Place of))) (PlaceAnswers name tracks question)) (λ on. after_place ledger name question tables admitted tracks)

-- those after the systems, after the table, and after the head
abbrev pub after_listing_systems : Ledger → List ℕ → Question → List Loaded → StepLog → Check Said
after_listing_systems ledger name question tables admitted = Then (Passing (AreTableTracks (custom_of ledger) tables)) (λ tracks. after_tracks ledger name question tables admitted tracks)

abbrev pub after_listing_tables : ℕ → Ledger → List ℕ → Question → List Loaded → Check Said
after_listing_tables limit ledger name question tables = Then (systems_known limit (custom_of ledger) (listing_systems tables name)) (λ admitted. after_listing_systems ledger name question tables admitted)

abbrev pub after_listing_head : ℕ → Ledger → List ℕ → Question → Check Said
after_listing_head limit ledger name question = Then (files_loaded ledger (listing_files name)) (λ tables. after_listing_tables limit ledger name question tables)

-- the head of a `test`, or its fault
abbrev pub TestAnswers : List ℕ → Result TestHead HeadFault → Type 0
TestAnswers text (Ok head) = DerivesTest (texts_of (parts_of text)) head
TestAnswers text (Err (heads.Syntax at)) = IsTestFault text (heads.Syntax at)
TestAnswers text (Err (heads.Number at)) = IsTestFault text (heads.Number at)
TestAnswers text (Err heads.Memory) = ⊥

-- what it asks
abbrev pub words_asked : TestHead → Question
words_asked head = Words (record { place = head.place; count = head.count })

-- all checks of a `test`, and of an `inf`
abbrev pub test_checks : ℕ → Ledger → List ℕ → Check Said
test_checks limit ledger text = Then (Refusing fault_of_head (TestAnswers text)) (λ head. after_listing_head limit ledger head.name (words_asked head))

abbrev pub inf_checks : ℕ → Ledger → List ℕ → Check Said
inf_checks limit ledger text = Then (Pure (HeadAnswers (DerivesName (codes "inf")) text)) (λ name. after_listing_head limit ledger name Infinity)

-- a `test` has at most one proper outcome
abbrev pub TestHasOneOutcome : Type 0
TestHasOneOutcome = (limit : ℕ) (ledger : Ledger) (text : List ℕ) → IsSingle (test_checks limit ledger text)

-- an `inf` has at most one proper outcome
abbrev pub InfHasOneOutcome : Type 0
InfHasOneOutcome = (limit : ℕ) (ledger : Ledger) (text : List ℕ) → IsSingle (inf_checks limit ledger text)
