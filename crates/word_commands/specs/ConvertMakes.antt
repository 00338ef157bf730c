-- What the code makes of a word that is wanted over another base, part by part.
use Rattle.std.specs.Prelude.{◌≡◌, ◌↔◌, ℕ, ℤ, Bool, List, [], ◌∷◌, None, Result}
use Rattle.std.specs.Rc.{rc_value}
use Rattle.command_head.specs.Heads.{ConvertHead}
use Rattle.dfa_loading.specs.Headers.{headers_of}
use Rattle.digit_tuple.specs.Steps.{StepLog}
use Rattle.digit_tuple.specs.declared.steps.StepLine.{StepLine}
use Rattle.wal_outside.specs.Files.{Files}
use Rattle.word_output.specs.Words.{HasLetter, IsWordValue, WordValue}
use Rattle.definitions.specs.Texts.{Stores}
use Rattle.definitions.specs.Trees.{Ledger, custom_of}
use Rattle.system_files.specs.SystemFiles.{Custom}
use Rattle.word_commands.specs.declared.base_system.BaseSystem.{BaseSystem}
use Rattle.word_commands.specs.declared.convert.Change.{Change}
use Rattle.word_commands.specs.declared.convert.ReadConvert.{ReadConvert}
use Rattle.word_commands.specs.declared.convert.Target.{Target}
use Rattle.command_parts.specs.declared.fault.Fault.{Fault}
use Rattle.word_commands.specs.declared.old_word.OldWord.{OldWord}
use Rattle.command_parts.specs.declared.file_change.Made.{Made}
use Rattle.command_parts.specs.declared.step_options.StepOptions.{StepOptions}
use Rattle.word_commands.specs.BaseWords.{IsBaseOf}
use Rattle.word_commands.specs.ConvertOutcomes.{IsChange, after_convert_systems, after_convert_table}
use Rattle.word_commands.specs.ConvertSteps.{DoesConvert, IsSealedBase}
use Rattle.word_commands.specs.OldWordMakes.{AreTablesOfOld, IsMadeOfOld}
use Rattle.command_parts.specs.FileChanges.{Makes}

-- a head of this new name, the system and the old word
abbrev pub head_of : List ℕ → ReadConvert → ConvertHead
head_of word read = record { word = word; system = read.system; old = read.old.name }

-- the old word has one track over a base, which is changed so to the system of a name, and the target is that
pub record IsConvertible (old : OldWord) (change : Change) (target : Target) : Type 0 where
  pub over : BaseSystem
  pub over_is : IsBaseOf None (headers_of old.mentioned.tables.items) old.name over
  pub name : List ℕ
  pub change_is : IsChange over name change
  pub system_is : IsSealedBase change.system (rc_value target.system)
  pub common_is : target.common ≡ change.common

-- both words have the same letter at each number, or both have none
abbrev pub HasSameLetters : WordValue → WordValue → Type 0
HasSameLetters word made = (n : ℕ) (letter : ℤ) → HasLetter made (n ∷ []) letter ↔ HasLetter word (n ∷ []) letter

-- the steps make this word, which has the letters of the old one
pub record IsConverted (admitted : StepLog) (custom : Custom) (old : OldWord) (change : Change) (word : WordValue) (lines : List StepLine) : Type 0 where
  pub of_old : IsMadeOfOld admitted custom old (DoesConvert change) word lines
  pub word_is : IsWordValue word
  pub letters : HasSameLetters of_old.made.before.word word

-- by these texts of users' systems this is what the checks after the table make
abbrev pub MakesAfterConvertTable : StepOptions → ReadConvert → Custom → Result Made Fault → Type 0
MakesAfterConvertTable options read custom result = (ledger : Ledger) (files : Files) (word : List ℕ) → Stores ledger files → custom_of ledger ≡ custom → AreTablesOfOld read.old files
    → Makes (custom_of ledger) (after_convert_table options.limit ledger (head_of word read) read.old.mentioned.tables.items) options.shown result

-- and those after the systems
abbrev pub MakesAfterConvertSystems : StepLog → Bool → ReadConvert → Custom → Result Made Fault → Type 0
MakesAfterConvertSystems admitted shown read custom result = (ledger : Ledger) (files : Files) (word : List ℕ) → Stores ledger files → custom_of ledger ≡ custom → AreTablesOfOld read.old files
    → Makes (custom_of ledger) (after_convert_systems ledger (head_of word read) read.old.mentioned.tables.items admitted) shown result
