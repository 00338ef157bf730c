-- What the code makes of a word that a command names, part by part.
use Rattle.std.specs.Prelude.{◌≡◌, ℕ, List, Ok, Some, Result, MatchResult}
use Rattle.digit_tuple.specs.Steps.{StepLog}
use Rattle.digit_tuple.specs.declared.step_fault.StepFault.{StepFault}
use Rattle.digit_tuple.specs.declared.steps.StepLine.{StepLine}
use Rattle.dfa_loading.specs.Headers.{headers_of}
use Rattle.dfa_loading.specs.Loading.{AreListedBy}
use Rattle.plan_relations.specs.Libraries.{word_named}
use Rattle.formula_build.specs.declared.names.Names.{Names}
use Rattle.formula_resolve.specs.FirstMentions.{first_files, first_systems}
use Rattle.named_systems.specs.NamedSystems.{NamedSystem, AreSealed}
use Rattle.wal_outside.specs.Files.{Files}
use Rattle.word_output.specs.Words.{WordValue}
use Rattle.system_files.specs.SystemFiles.{Custom}
use Rattle.command_parts.specs.declared.fault.Fault.{Fault}
use Rattle.word_commands.specs.declared.old_word.OldWord.{OldWord}
use Rattle.command_parts.specs.FormulaLoads.{AreUnloaded, HasSystems}
use Rattle.command_parts.specs.FormulaSteps.{AreMeant}
use Rattle.word_commands.specs.ImageOutcomes.{IsOldWordRead, old_mentions}
use Rattle.command_parts.specs.MentionedTables.{AreLoaded, AreMentionedIn, AreNames}
use Rattle.word_commands.specs.OldWordSteps.{AreOldWordSteps}
use Rattle.command_parts.specs.TableReads.{TableRead, AreTablesRead, words_in}

-- the files list the table of the word
abbrev pub AreTablesOfOld : OldWord → Files → Type 0
AreTablesOfOld old files = AreListedBy files (first_files (old_mentions old.name)) old.mentioned.tables.items

-- some files do, and the word is mentioned
abbrev pub IsLoadedOld : OldWord → Type 0
IsLoadedOld old = AreLoaded (old_mentions old.name) old.mentioned

-- the word of this name is loaded
pub record IsOldAt (name : List ℕ) (files : Files) (old : OldWord) : Type 0 where
  pub name_is : old.name ≡ name
  pub there : AreMentionedIn (old_mentions old.name) files old.mentioned

-- it is, or not
abbrev pub LoadsOld : List ℕ → Files → Result OldWord Fault → Type 0
LoadsOld name files result = MatchResult result (IsOldAt name files) (AreUnloaded files (first_files (old_mentions name)))

-- the systems that the word mentions
abbrev pub systems_of_old : OldWord → List (List ℕ)
systems_of_old old = first_systems (headers_of old.mentioned.tables.items) (old_mentions old.name)

-- they are sealed, each under its name, which means it
abbrev pub AreOldNames : OldWord → Custom → Names → Type 0
AreOldNames old custom names = AreNames (old_mentions old.name) old.mentioned.tables.items custom names

-- over systems that the names that the word mentions mean, the steps that read its table make this word
pub record IsOldRead (admitted : StepLog) (custom : Custom) (old : OldWord) (word : WordValue) (reading : StepLog) : Type 0 where
  pub systems : List NamedSystem
  pub sealed : AreSealed systems
  pub meant : AreMeant custom systems
  pub has : HasSystems (systems_of_old old) systems
  pub reads : List TableRead
  pub read : AreTablesRead systems admitted old.mentioned.tables.items reads reading
  pub word_is : word_named (words_in reads) old.name ≡ Some word

-- so it is read
abbrev pub before_of : {admitted reading : StepLog} {custom : Custom} {old : OldWord} {word : WordValue} → IsOldRead admitted custom old word reading → IsOldWordRead admitted custom old.mentioned.tables.items old.name
before_of {reading = reading} {word = word} is = record { systems = is.systems; sealed = is.sealed; meant = is.meant; reads = is.reads; reading = reading; read = is.read; word = word; word_is = is.word_is }

-- the steps make this word of the old one, over systems that the names that this mentions mean
pub record IsMadeOfOld (admitted : StepLog) (custom : Custom) (old : OldWord) (does : WordValue → StepLog → Result WordValue StepFault → StepLog → Type 0) (word : WordValue) (lines : List StepLine) : Type 0 where
  pub made : AreOldWordSteps admitted custom old.mentioned.tables.items old.name does (Ok word) lines
  pub has : HasSystems (systems_of_old old) made.before.systems
