-- What the code makes of a word under a transducer, part by part.
use Rattle.std.specs.Prelude.{◌≡◌, ℕ, Bool, List, Some, Result, MatchResult}
use Rattle.command_head.specs.Heads.{ImageHead}
use Rattle.dfa_loading.specs.Headers.{headers_of}
use Rattle.digit_tuple.specs.Steps.{StepLog}
use Rattle.digit_tuple.specs.declared.direction.Direction.TheVariants.{Msd}
use Rattle.digit_tuple.specs.declared.steps.StepLine.{StepLine}
use Rattle.num_system.specs.Tracks.{direction_of}
use Rattle.transducer_loading.specs.TransducerFiles.{IsTransducerIn}
use Rattle.wal_outside.specs.Files.{Files}
use Rattle.word_output.specs.Words.{WordValue}
use Rattle.word_transduce.specs.TransducedWords.{IsTransduced}
use Rattle.definitions.specs.Texts.{Stores}
use Rattle.definitions.specs.Trees.{Ledger, custom_of}
use Rattle.system_files.specs.SystemFiles.{Custom}
use Rattle.word_commands.specs.declared.base_system.BaseSystem.{BaseSystem}
use Rattle.command_parts.specs.declared.fault.Fault.{Fault}
use Rattle.command_parts.specs.declared.file_change.Made.{Made}
use Rattle.command_parts.specs.declared.step_options.StepOptions.{StepOptions}
use Rattle.word_commands.specs.declared.transduce.ReadTransducer.{ReadTransducer}
use Rattle.word_commands.specs.BaseWords.{IsBaseOf, IsOverBase}
use Rattle.command_parts.specs.Checks.{Fails}
use Rattle.word_commands.specs.OldWordMakes.{AreTablesOfOld, IsMadeOfOld, IsOldAt}
use Rattle.command_parts.specs.FileChanges.{Makes}
use Rattle.word_commands.specs.TransduceOutcomes.{after_transduce_head, after_transduced_systems, after_transduced_table}
use Rattle.word_commands.specs.TransduceSteps.{DoesTransduce}

-- a head of these names, and the name of the old word
abbrev pub head_of : List ℕ → List ℕ → ReadTransducer → ImageHead
head_of word mapping read = record { word = word; mapping = mapping; old = read.old.name }

-- the transducer and the table are those that the files have under the names of a head
pub record IsReadBy (head : ImageHead) (files : Files) (read : ReadTransducer) : Type 0 where
  pub transducer : IsTransducerIn files head.mapping read.transducer
  pub old : IsOldAt head.old files read.old

-- a command of this head is refused by the files
abbrev pub IsUnread : ImageHead → Files → Fault → Type 0
IsUnread head files fault = (limit : ℕ) (ledger : Ledger) → Stores ledger files → Fails (after_transduce_head limit ledger head) fault

-- what a head names is read, or a command is refused
abbrev pub ReadsTransducer : ImageHead → Files → Result ReadTransducer Fault → Type 0
ReadsTransducer head files result = MatchResult result (IsReadBy head files) (IsUnread head files)

-- a word over one base, the most significant digit first
pub record IsOverMsd (word : WordValue) : Type 0 where
  pub k : ℕ
  pub over : IsOverBase word k
  pub direction : direction_of word.systems ≡ Msd

-- the steps make this word, which has the outputs of the run over the old one
pub record IsTransducedOld (admitted : StepLog) (custom : Custom) (read : ReadTransducer) (word : WordValue) (lines : List StepLine) : Type 0 where
  pub of_old : IsMadeOfOld admitted custom read.old (DoesTransduce read.transducer) word lines
  pub transduced : IsTransduced read.transducer of_old.made.before.word word

-- the old word is over some base, the most significant digit first
abbrev pub HasMsdBase : ReadTransducer → Type 0
HasMsdBase read = (over : BaseSystem) × IsBaseOf (Some Msd) (headers_of read.old.mentioned.tables.items) read.old.name over

-- by these texts of users' systems this is what the checks after the table make
abbrev pub MakesAfterTable : StepOptions → ReadTransducer → Custom → Result Made Fault → Type 0
MakesAfterTable options read custom result = (ledger : Ledger) (files : Files) (word mapping : List ℕ) → Stores ledger files → custom_of ledger ≡ custom → AreTablesOfOld read.old files
    → Makes (custom_of ledger) (after_transduced_table options.limit ledger (head_of word mapping read) read.transducer read.old.mentioned.tables.items) options.shown result

-- and those after the systems
abbrev pub MakesAfterSystems : StepLog → Bool → ReadTransducer → Custom → Result Made Fault → Type 0
MakesAfterSystems admitted shown read custom result = (ledger : Ledger) (files : Files) (word mapping : List ℕ) → Stores ledger files → custom_of ledger ≡ custom → AreTablesOfOld read.old files
    → Makes (custom_of ledger) (after_transduced_systems ledger (head_of word mapping read) read.transducer read.old.mentioned.tables.items admitted) shown result
