-- What an `image` does, by its checks in their order: the shape of its head, the file of the morphism, that of the word, the word's systems, that
-- it has one track, that all images have one length, its steps with the letters that have no rule, and the length of the text to store.
use Rattle.std.specs.Prelude.{◌≡◌, ◌≢◌, ◌⊎◌, ℕ, List, [], ◌∷◌, length, None, Some, Result, Ok, Err, codes}
use Rattle.digit_tuple.specs.Steps.{StepLog}
use Rattle.digit_tuple.specs.declared.direction.Direction.{Direction}
use Rattle.digit_tuple.specs.declared.steps.StepLine.{StepLine}
use Rattle.wal_outside.specs.declared.folder.Folder.TheVariants.{Words}
use Rattle.command_head.specs.Grammar.{DerivesImage}
use Rattle.command_head.specs.Heads.{ImageHead}
use Rattle.dfa_loading.specs.Headers.{headers_of}
use Rattle.dfa_loading.specs.declared.loaded.Loaded.{Loaded}
use Rattle.plan_relations.specs.Libraries.{word_named}
use Rattle.named_systems.specs.NamedSystems.{NamedSystem, AreSealed}
use Rattle.formula_resolve.specs.Arity.{kept_count}
use Rattle.formula_resolve.specs.FirstMentions.{first_files, first_systems}
use Rattle.formula_resolve.specs.Headers.{Headers, word_tracks}
use Rattle.formula_resolve.specs.declared.mention.Mention.{Mention}
use Rattle.formula_resolve.specs.declared.mention.Mention.TheVariants.{Indexed}
use Rattle.morph_words.specs.declared.morphism_kind.MorphismKind.{MorphismKind}
use Rattle.morph_words.specs.Rules.{Rules}
use Rattle.morph_words.specs.Uniform.{HasLength, IsImageLength, IsLengthRefused}
use Rattle.word_commands.specs.ImageSteps.{DoesImage}
use Rattle.word_commands.specs.declared.image_fault.ImageFault.{ImageFault}
use Rattle.word_commands.specs.declared.image_fault.ImageFault.TheVariants as images
use Rattle.word_output.specs.Words.{WordValue}
use Rattle.definitions.specs.Named.{IsSystemNamed}
use Rattle.definitions.specs.Tracks as named_tracks
use Rattle.definitions.specs.Trees.{Defined, Entry, Image, Ledger, custom_of, tree_of}
use Rattle.system_files.specs.SystemFiles.{Custom}
use Rattle.command_parts.specs.declared.shape_refusal.ShapeRefusal.TheVariants as shape_refusals
use Rattle.command_parts.specs.declared.word_refusal.WordRefusal.TheVariants as word_refusals
use Rattle.command_parts.specs.declared.refusal.Refusal.{Refusal}
use Rattle.command_parts.specs.declared.refusal.Refusal.TheVariants as refusals
use Rattle.command_parts.specs.declared.fault.Fault.TheVariants as faults
use Rattle.command_parts.specs.Accepting.{Success, stored}
use Rattle.command_parts.specs.Checks.{Check, Passing, Pure, Then, IsSingle}
use Rattle.command_parts.specs.FileChecks.{files_loaded}
use Rattle.command_parts.specs.FormulaSteps.{AreMeant, IsReadingStopped}
use Rattle.command_parts.specs.HeadAnswers.{HeadAnswers}
use Rattle.word_commands.specs.MorphismChecks.{morphism_loaded}
use Rattle.command_parts.specs.SystemChecks.{systems_known}
use Rattle.command_parts.specs.TableReads.{TableRead, AreTablesRead, words_in}
use Rattle.word_commands.specs.ImageFaults.{fault_of_imaging}

-- the old word is mentioned as one that is indexed at one position
abbrev pub old_mentions : List ℕ → List Mention
old_mentions old = Indexed old 1 ∷ []

-- the word has one track, or has another number of them
abbrev pub OneTrackAnswers : Headers → List ℕ → Result (Unit {0}) Refusal → Type 0
OneTrackAnswers h old (Ok one) = length (word_tracks h old) ≡ 1
OneTrackAnswers h old (Err refusal) = (length (word_tracks h old) ≢ 1) × (refusal ≡ refusals.Shape (shape_refusals.Arity old (kept_count (length (word_tracks h old))) 1))

-- all images have one length that is allowed, or the first kind that says that they have not
abbrev pub LengthsAnswers : Rules → Result (Unit {0}) Refusal → Type 0
LengthsAnswers rules (Ok uniform) = (k : ℕ) × HasLength IsImageLength rules k
LengthsAnswers rules (Err refusal) = (kind : MorphismKind) × (refusal ≡ refusals.Word (word_refusals.Morphism kind)) × IsLengthRefused IsImageLength rules kind

-- the system of the word's track, read in a direction
pub record WordTrack : Type 0 where
  pub direction : Direction
  pub system : named_tracks.NamedSystem

-- it is what the name of the track's system means
abbrev pub IsTrackOf : Custom → Headers → List ℕ → WordTrack → Type 0
IsTrackOf custom h old track = (word_tracks h old ≡ track.system.name ∷ []) × IsSystemNamed custom track.system.name track.direction track.system.system

-- the table is read over sealed systems that names mean, and its steps make this word
pub record IsOldWordRead (admitted : StepLog) (custom : Custom) (tables : List Loaded) (old : List ℕ) : Type 0 where
  pub systems : List NamedSystem
  pub sealed : AreSealed systems
  pub meant : AreMeant custom systems
  pub reads : List TableRead
  pub reading : StepLog
  pub read : AreTablesRead systems admitted tables reads reading
  pub word : WordValue
  pub word_is : word_named (words_in reads) old ≡ Some word

-- the steps of the image make this word, and these are the lines of all steps
pub record AreImageSteps (admitted : StepLog) (custom : Custom) (tables : List Loaded) (old name : List ℕ) (rules : Rules) (word : WordValue) (lines : List StepLine) : Type 0 where
  pub before : IsOldWordRead admitted custom tables old
  pub log : StepLog
  pub done : DoesImage rules before.word name before.reading (Ok word) log
  pub lines_are : lines ≡ log.lines

-- the image of the word is refused by this fault
pub record IsImagingStopped (admitted : StepLog) (custom : Custom) (tables : List Loaded) (old name : List ℕ) (rules : Rules) (fault : ImageFault) : Type 0 where
  pub before : IsOldWordRead admitted custom tables old
  pub log : StepLog
  pub refused : DoesImage rules before.word name before.reading (Err fault) log

-- a step that reads the table, or one of the image, is the first to pass a limit, or the old word has a letter without a rule
abbrev pub AreImageStepsRefused : StepLog → Custom → List Loaded → List ℕ → List ℕ → Rules → ImageFault → Type 0
AreImageStepsRefused admitted custom tables old name rules (images.Morphism kind) = ⊥
AreImageStepsRefused admitted custom tables old name rules (images.Missing letter) = IsImagingStopped admitted custom tables old name rules (images.Missing letter)
AreImageStepsRefused admitted custom tables old name rules (images.Step fault) = IsReadingStopped admitted custom tables fault ⊎ IsImagingStopped admitted custom tables old name rules (images.Step fault)

-- the lines of the steps; or the number of the first one that passes a limit; or that the old word has a letter without a rule, where that
-- comes first
abbrev pub ImagedAnswers : StepLog → Custom → List Loaded → List ℕ → List ℕ → Rules → Result (List StepLine) Refusal → Type 0
ImagedAnswers admitted custom tables old name rules (Ok lines) = (word : WordValue) × AreImageSteps admitted custom tables old name rules word lines
ImagedAnswers admitted custom tables old name rules (Err refusal) = (fault : ImageFault) × (fault_of_imaging fault ≡ faults.Refused refusal) × AreImageStepsRefused admitted custom tables old name rules fault

-- the checks after the systems: what is stored is the rules and the definition that the old name means
abbrev pub after_old_systems : Ledger → ImageHead → Rules → List Loaded → StepLog → Check Success
after_old_systems ledger head rules tables admitted =
    Then (Pure (OneTrackAnswers (headers_of tables) head.old)) (λ one.
    Then (Pure (LengthsAnswers rules)) (λ uniform.
    Then (Passing (IsTrackOf (custom_of ledger) (headers_of tables) head.old)) (λ (track : WordTrack).
    Then (Pure (ImagedAnswers admitted (custom_of ledger) tables head.old track.system.name rules)) (λ lines.
    Then (Passing (λ entry. ledger Words head.old ≡ Some entry)) (λ (entry : Entry).
    stored (custom_of ledger) (record { folder = Words; name = head.word; entry = Defined (Image track.direction track.system rules (tree_of entry)); lines = lines; verdict = None }))))))

-- the checks after the table, and after the head
abbrev pub after_old_table : ℕ → Ledger → ImageHead → Rules → List Loaded → Check Success
after_old_table limit ledger head rules tables = Then (systems_known limit (custom_of ledger) (first_systems (headers_of tables) (old_mentions head.old))) (λ admitted. after_old_systems ledger head rules tables admitted)

abbrev pub after_image_head : ℕ → Ledger → ImageHead → Check Success
after_image_head limit ledger head =
    Then (morphism_loaded ledger head.mapping) (λ rules.
    Then (files_loaded ledger (first_files (old_mentions head.old))) (λ tables. after_old_table limit ledger head rules tables))

-- all checks of an `image`
abbrev pub image_checks : ℕ → Ledger → List ℕ → Check Success
image_checks limit ledger text = Then (Pure (HeadAnswers (DerivesImage (codes "image")) text)) (λ head. after_image_head limit ledger head)

-- an `image` has at most one proper outcome
abbrev pub ImageHasOneOutcome : Type 0
ImageHasOneOutcome = (limit : ℕ) (ledger : Ledger) (text : List ℕ) → IsSingle (image_checks limit ledger text)
