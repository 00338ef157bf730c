-- A word that is read of a file has the letters of the file.
use Rattle.std.proofs.Common.{◌≡◌, ◌↔◌, ℕ, ◌<◌, ℤ, List, length, Ok, sym, ap, ◌∙◌, subst, arith}
use Rattle.std.proofs.lemmas.List.{length-map}
use Rattle.digit_tuple.specs.declared.direction.Direction.{Direction}
use Rattle.dfa_reading.specs.Headers.{Header, has_states}
use Rattle.dfa_reading.specs.Listed.{Listed}
use Rattle.dfa_reading.specs.WordFiles.{word_of, IsWordListed}
use Rattle.dfa_reading.proofs.ReadWords.{word_files_list_words}
use Rattle.numeration.specs.Systems.{System}
use Rattle.num_system.specs.Sealed.{SystemValue, system_of}
use Rattle.num_system.specs.Tracks as tracks
use Rattle.num_system.specs.Tracks.{direction_of}
use Rattle.word_output.specs.Laws.{WordsHaveListedLetters}
use Rattle.word_output.specs.WordReadings.{HasListedLetterAt}
use Rattle.word_output.specs.Words.{HasLetter}
use Rattle.system_files.specs.SystemFiles.{Custom}
use Rattle.definitions.specs.Tracks.{NamedSystem, systems_of}
use Rattle.definitions.specs.WordFiles.{HasLetterUnder, HasLetterBelow, ListedLetter, FileLetter}
use Rattle.definitions.specs.WordLaws.{FilesAreWords, NamesMean, WordsHaveFileLetters}
use Rattle.definitions.proofs.FileTables.{word_has_states}
use Rattle.definitions.proofs.NameLemmas.{same_list, same_direction}

-- what a word's file lists is a word with a state
pub file_is_word : FilesAreWords
file_is_word text listed reads =
    let word : IsWordListed listed = word_files_list_words text listed reads in
    record { states = word_has_states text listed reads (ap has_states word.header); word = word }

-- a text that lists something has the letters of this
pub file_letter : (custom : Custom) (text : List ℕ) (listed : Listed) (ns : List ℕ) (letter : ℤ) → word_of text ≡ Ok listed → FileLetter custom text ns letter → ListedLetter custom listed ns letter
file_letter custom text listed ns letter reads (other, also, has) =
    let same : other ≡ listed = let e : Ok other ≡ Ok listed = sym also ∙ reads in cc in
    subst (λ (l : Listed). ListedLetter custom l ns letter) same has

module _ (custom : Custom) (names : List (List ℕ)) (systems : List SystemValue) (mean : NamesMean custom names systems) (listed : Listed) (ns : List ℕ) (letter : ℤ) where
  -- over the systems that names mean a letter is listed under the names
  under_names : HasListedLetterAt (direction_of systems) (tracks.systems_of systems) listed ns letter → HasLetterUnder custom names listed ns letter
  under_names at = record {
    direction = direction_of systems;
    named = mean.named;
    names_are = mean.names_are;
    are = mean.are;
    letter_is = subst (λ (ss : List System). HasListedLetterAt (direction_of systems) ss listed ns letter) (sym mean.systems_are) at;
  }

  some_named : 0 < length systems → 0 < length mean.named
  some_named some =
      omega (arith, some, sym (length-map mean.named (λ (s : NamedSystem). s.system)) ∙ ap (λ (ss : List System). length ss) mean.systems_are ∙ length-map systems system_of)

  -- and the other way round
  over_systems : 0 < length systems → HasLetterUnder custom names listed ns letter → HasListedLetterAt (direction_of systems) (tracks.systems_of systems) listed ns letter
  over_systems some under =
      let together = sym mean.names_are ∙ under.names_are in
      let same : mean.named ≡ under.named = same_list custom (direction_of systems) under.direction mean.named under.named mean.are under.are together in
      let directions : direction_of systems ≡ under.direction = same_direction custom (direction_of systems) under.direction mean.named under.named (some_named some) mean.are under.are together in
      let systems_are : systems_of under.named ≡ tracks.systems_of systems = ap systems_of (sym same) ∙ mean.systems_are in
      subst (λ (direction : Direction). HasListedLetterAt direction (tracks.systems_of systems) listed ns letter) (sym directions)
      (subst (λ (ss : List System). HasListedLetterAt under.direction ss listed ns letter) systems_are under.letter_is)

-- so a word that is read has the letters of the file
pub file_letters : WordsHaveListedLetters → WordsHaveFileLetters
file_letters have custom text listed names old new v reads header mean is steps ns letter = (there, back)
  where
    both : HasLetter v ns letter ↔ HasListedLetterAt (direction_of v.systems) (tracks.systems_of v.systems) listed ns letter
    both = have old new listed v (word_files_list_words text listed reads) is steps ns letter

    there : HasLetter v ns letter → FileLetter custom text ns letter
    there h = (listed, reads, subst (λ (below : Header). HasLetterBelow custom below listed ns letter) (sym header) (under_names custom names v.systems mean listed ns letter (both.0 h)))

    back : FileLetter custom text ns letter → HasLetter v ns letter
    back h =
        let under : HasLetterUnder custom names listed ns letter = subst (λ (below : Header). HasLetterBelow custom below listed ns letter) header (file_letter custom text listed ns letter reads h) in
        both.1 (over_systems custom names v.systems mean listed ns letter is.some under)
