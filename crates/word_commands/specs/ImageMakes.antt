-- What the code makes of the image of a word, part by part.
use Rattle.std.specs.Prelude.{◌≡◌, ℕ, Bool, List, [], slice_index_or, Result, MatchResult}
use Rattle.command_head.specs.Heads.{ImageHead}
use Rattle.digit_tuple.specs.Steps.{StepLog}
use Rattle.digit_tuple.specs.declared.steps.StepLine.{StepLine}
use Rattle.dfa_loading.specs.Headers.{headers_of}
use Rattle.formula_resolve.specs.Headers.{word_tracks}
use Rattle.morphism_loading.specs.MorphismFiles.{IsMorphismIn}
use Rattle.wal_outside.specs.Files.{Files}
use Rattle.word_images.specs.ImageWords.{IsImageWord}
use Rattle.word_output.specs.Words.{WordValue}
use Rattle.definitions.specs.Texts.{Stores}
use Rattle.definitions.specs.Trees.{Ledger, custom_of}
use Rattle.system_files.specs.SystemFiles.{Custom}
use Rattle.command_parts.specs.declared.fault.Fault.{Fault}
use Rattle.word_commands.specs.declared.image.ReadImage.{ReadImage}
use Rattle.command_parts.specs.declared.file_change.Made.{Made}
use Rattle.command_parts.specs.declared.step_options.StepOptions.{StepOptions}
use Rattle.command_parts.specs.Checks.{Fails}
use Rattle.command_parts.specs.FormulaLoads.{HasSystems}
use Rattle.word_commands.specs.ImageOutcomes.{AreImageSteps, after_image_head, after_old_systems, after_old_table}
use Rattle.command_parts.specs.FileChanges.{Makes}
use Rattle.word_commands.specs.OldWordMakes.{AreTablesOfOld, IsOldAt, systems_of_old}

-- a head of these names, and the name of the old word
abbrev pub head_of : List ℕ → List ℕ → ReadImage → ImageHead
head_of word morphism read = record { word = word; mapping = morphism; old = read.old.name }

-- the rules and the table are those that the files have under the names of a head
pub record IsReadBy (head : ImageHead) (files : Files) (read : ReadImage) : Type 0 where
  pub rules : IsMorphismIn files head.mapping read.morphism
  pub old : IsOldAt head.old files read.old

-- a command of this head is refused by the files
abbrev pub IsUnread : ImageHead → Files → Fault → Type 0
IsUnread head files fault = (limit : ℕ) (ledger : Ledger) → Stores ledger files → Fails (after_image_head limit ledger head) fault

-- what a head names is read, or a command is refused
abbrev pub ReadsImage : ImageHead → Files → Result ReadImage Fault → Type 0
ReadsImage head files result = MatchResult result (IsReadBy head files) (IsUnread head files)

-- the names of the systems of the old word's tracks, and of the first of them
abbrev pub old_tracks_of : ReadImage → List (List ℕ)
old_tracks_of read = word_tracks (headers_of read.old.mentioned.tables.items) read.old.name

abbrev pub old_system_of : ReadImage → List ℕ
old_system_of read = slice_index_or (old_tracks_of read) 0 []

-- the steps make this word, which is the image of the old one, over systems that the names that this mentions mean
pub record IsImaged (admitted : StepLog) (custom : Custom) (read : ReadImage) (word : WordValue) (lines : List StepLine) : Type 0 where
  pub steps : AreImageSteps admitted custom read.old.mentioned.tables.items read.old.name (old_system_of read) read.morphism word lines
  pub image : IsImageWord read.morphism steps.before.word word
  pub has : HasSystems (systems_of_old read.old) steps.before.systems

-- by these texts of users' systems this is what the checks after the table make
abbrev pub MakesAfterOld : StepOptions → ReadImage → Custom → Result Made Fault → Type 0
MakesAfterOld options read custom result = (ledger : Ledger) (files : Files) (word morphism : List ℕ) → Stores ledger files → custom_of ledger ≡ custom → AreTablesOfOld read.old files
    → Makes (custom_of ledger) (after_old_table options.limit ledger (head_of word morphism read) read.morphism read.old.mentioned.tables.items) options.shown result

-- and those after the systems
abbrev pub MakesAfterOldSystems : StepLog → Bool → ReadImage → Custom → Result Made Fault → Type 0
MakesAfterOldSystems admitted shown read custom result = (ledger : Ledger) (files : Files) (word morphism : List ℕ) → Stores ledger files → custom_of ledger ≡ custom → AreTablesOfOld read.old files
    → Makes (custom_of ledger) (after_old_systems ledger (head_of word morphism read) read.morphism read.old.mentioned.tables.items admitted) shown result
