-- What `test` and `inf` print.
use Rattle.std.specs.Prelude.{◌≡◌, ◌↔◌, ℕ, Bool, false, List, [], ◌++◌, Option, Some, Ok, IsTrue, codes}
use Rattle.std.specs.List.{AllByRecursion, flat_map}
use Rattle.wal_outside.specs.Files.{Files}
use Rattle.wal_outside.specs.Views.{StoreView}
use Rattle.wal_outside.specs.declared.folder.Folder.TheVariants.{Automata}
use Rattle.command_head.specs.Grammar.{DerivesName, DerivesTest}
use Rattle.command_head.specs.Heads.{TestHead}
use Rattle.command_head.specs.Parts.{first_word_of, parts_of, texts_of}
use Rattle.dfa_loading.specs.declared.loaded.Loaded.{Loaded}
use Rattle.word_walk.specs.Following.{AreNext}
use Rattle.listings.specs.WordLines.{word_lines}
use Rattle.table_listings.specs.ListedLines.{IsPlaceWord}
use Rattle.definitions.specs.Listings.{ListsInfinitely}
use Rattle.definitions.specs.Tracks.{Tracks, letter_sets}
use Rattle.definitions.specs.Trees.{Entry, Ledger, custom_of, tree_of}
use Rattle.session_cli.specs.Commands.{Commands}
use Rattle.command_parts.specs.FileChecks.{FilesAnswers}
use Rattle.listing_commands.specs.ListingOutcomes.{AreTableTracks, DecidesListed, listing_files}
use Rattle.headlines.specs.Sentences.{HasNo, truth_line}
use Rattle.headlines.specs.RunVerdicts.{step_text}

-- the lines of the command's steps, if they are shown, and after them this text
pub record IsPrinted (shown : Bool) (printed text : List ℕ) : Type 0 where
  pub steps : List (List ℕ)
  pub single : AllByRecursion (HasNo 10) steps
  pub hidden : shown ≡ false → steps ≡ []
  pub printed_is : printed ≡ flat_map step_text steps ++ text

-- the definition that the name of an automaton means, and the tracks of its file's header
pub record IsAutomatonOf (ledger : Ledger) (name : List ℕ) (entry : Entry) (tracks : Tracks) : Type 0 where
  pub there : ledger Automata name ≡ Some entry
  pub tables : List Loaded
  pub loaded : FilesAnswers ledger (listing_files name) (Ok tables)
  pub over : AreTableTracks (custom_of ledger) tables tracks

-- Of a `test` the lines of the first words in shortlex order, so many as it asks for, of those that the definition lists after the place, or of all
-- where there are fewer.
pub record IsTested (ledger : Ledger) (command : List ℕ) (shown : Bool) (printed : List ℕ) : Type 0 where
  pub head : TestHead
  pub derived : DerivesTest (texts_of (parts_of command)) head
  pub entry : Entry
  pub tracks : Tracks
  pub automaton : IsAutomatonOf ledger head.name entry tracks
  pub lists : List ℕ → Bool
  pub decides_words : DecidesListed (custom_of ledger) tracks (tree_of entry) lists
  pub place : Option (List ℕ)
  pub place_is : IsPlaceWord (letter_sets tracks) head.place place
  pub words : List (List ℕ)
  pub first : AreNext lists place head.count words
  pub lines : IsPrinted shown printed (word_lines (letter_sets tracks) words)

-- of an `inf` TRUE if and only if the definition lists infinitely many words, and else FALSE
pub record IsCounted (ledger : Ledger) (command : List ℕ) (shown : Bool) (printed : List ℕ) : Type 0 where
  pub name : List ℕ
  pub derived : DerivesName (codes "inf") (texts_of (parts_of command)) name
  pub entry : Entry
  pub tracks : Tracks
  pub automaton : IsAutomatonOf ledger name entry tracks
  pub infinite : Bool
  pub line : IsPrinted shown printed (truth_line infinite)
  pub says : IsTrue infinite ↔ ListsInfinitely (custom_of ledger) tracks (tree_of entry)

-- a command of this word that is accepted prints such a text, and changes no file
abbrev pub Printed : List ℕ → (Ledger → List ℕ → Bool → List ℕ → Type 0) → Type 0
Printed word Says = (limit : ℕ) (ledger : Ledger) (files : Files) (old new : StoreView) (command : List ℕ) (shown : Bool) (printed : List ℕ)
    → first_word_of command ≡ word → old.files ≡ Some files → Commands limit ledger old command shown (Ok printed) new → Says ledger command shown printed × (new.files ≡ Some files)

abbrev pub Tests : Type 0
Tests = Printed (codes "test") IsTested

abbrev pub Infinities : Type 0
Infinities = Printed (codes "inf") IsCounted
