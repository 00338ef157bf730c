-- The word that is read of a table has the letters of the table's file.
use Rattle.std.proofs.Common.{◌≡◌, ◌↔◌, ℕ, ◌<◌, ℤ, List, length, Ok, sym, subst, arith}
use Rattle.digit_tuple.specs.Steps.{StepLog}
use Rattle.dfa_reading.specs.Headers.{Header}
use Rattle.dfa_reading.specs.WordFiles.{word_of, IsWordListed}
use Rattle.dfa_loading.specs.declared.loaded.Loaded.{Loaded}
use Rattle.num_system.specs.Sealed.{SystemValue}
use Rattle.num_system.specs.Tracks.{ShareDirection, direction_of}
use Rattle.word_output.specs.WordReadings.{DoesWordSteps}
use Rattle.word_output.specs.Words.{WordValue, IsWordValue, HasLetter}
use Rattle.word_output.proofs.WordSteps.{steps_made, word_is}
use Rattle.plan_relations.specs.Libraries.{NamedWord}
use Rattle.named_systems.specs.NamedSystems.{NamedSystem, AreSealed}
use Rattle.definitions.specs.WordFiles.{FileLetter}
use Rattle.definitions.specs.WordLaws.{NamesMean, WordsHaveFileLetters}
use Rattle.system_files.specs.SystemFiles.{Custom}
use Rattle.command_parts.specs.FormulaSteps.{AreMeant}
use Rattle.command_parts.specs.TableReads.{AreSystemsUnder, IsWordRead}
use Rattle.command_parts.specs.TableReading.{IsReadable}
use Rattle.command_parts.proofs.TableRelations.{AreUnder, as_many_under, below_sealed, read_shared_direction, with_names, names_with, systems_with, named_with}

module _ (systems : List NamedSystem) (sealed : AreSealed systems) (old new : StepLog) (table : Loaded) (w : NamedWord) (readable : IsReadable systems table) (read : IsWordRead systems old table w new) where
  listed : IsWordListed table.listed
  listed = readable.is_word w.name read.file_is

  under : AreUnder systems listed.names read.tracks
  under = subst (λ (h : Header). AreSystemsUnder systems h read.tracks) listed.header read.over

  one : ShareDirection read.tracks
  one = read_shared_direction systems table read.tracks readable read.over

  some : 0 < length read.tracks
  some = omega (arith, listed.some, as_many_under systems listed.names read.tracks under)

  -- it is a word over the systems of its header
  pub word_of_table : IsWordValue w.word
  word_of_table =
      let own : WordValue = record { systems = read.tracks; function = w.word.function } in
      let made = steps_made read.tracks table.listed old new w.word.function read.done.0 in
      let is : IsWordValue own = word_is read.tracks table.listed w.word.function made (below_sealed systems table.listed.header read.tracks sealed read.over) one some in
      let same : own ≡ w.word = λ i. record { systems = sym read.done.1 i; function = w.word.function } in
      subst IsWordValue same is

  module _ (custom : Custom) (are : AreMeant custom systems) where
    mean : NamesMean custom listed.names read.tracks
    mean = record {
      named = with_names listed.names read.tracks;
      names_are = names_with custom systems are listed.names read.tracks under;
      are = named_with custom systems are (direction_of read.tracks) listed.names read.tracks one under;
      systems_are = systems_with custom systems are listed.names read.tracks under;
    }

    -- at each place it has the letter of the text that lists the table
    pub word_letters : WordsHaveFileLetters → (text : List ℕ) → word_of text ≡ Ok table.listed → (ns : List ℕ) (letter : ℤ) → HasLetter w.word ns letter ↔ FileLetter custom text ns letter
    word_letters have text lists ns letter =
        let over = sym read.done.1 in
        have custom text table.listed listed.names old new w.word lists listed.header
        (subst (NamesMean custom listed.names) over mean) word_of_table
        (subst (λ (ss : List SystemValue). DoesWordSteps ss table.listed old (Ok w.word.function) new) over read.done.0) ns letter
