-- What the file of a word says that a command makes.
use Rattle.std.specs.Prelude.{◌≡◌, ◌↔◌, ℕ, ℤ, Bool, List, [], ◌∷◌, length, Some, Ok, codes}
use Rattle.wal_outside.specs.Files.{Files, put}
use Rattle.wal_outside.specs.Views.{StoreView}
use Rattle.wal_outside.specs.declared.folder.Folder.TheVariants.{Words}
use Rattle.command_head.specs.Grammar.{DerivesPromote, DerivesImage, DerivesCombine, DerivesConvert}
use Rattle.command_head.specs.Heads.{PromoteHead, ImageHead, CombineHead, ConvertHead}
use Rattle.command_head.specs.Parts.{first_word_of, parts_of, texts_of}
use Rattle.dfa_loading.specs.Headers.{headers_of}
use Rattle.dfa_loading.specs.declared.loaded.Loaded.{Loaded}
use Rattle.dfa_reading.specs.Headers.{Systems}
use Rattle.dfa_reading.specs.Listed.{Listed}
use Rattle.dfa_reading.specs.WordFiles.{word_of}
use Rattle.morph_words.specs.FixedPoint.{IsLetterAt}
use Rattle.morph_words.specs.ImageLetters.{IsImageLetter}
use Rattle.morph_words.specs.Rules.{Rules}
use Rattle.morphism_loading.specs.MorphismFiles.{IsMorphismIn}
use Rattle.transducer_loading.specs.TransducerFiles.{IsTransducerIn}
use Rattle.transducer_reading.specs.LetterRuns.{Makes}
use Rattle.transducer_reading.specs.Transducers.{Transducer}
use Rattle.definitions.specs.Texts.{Stores}
use Rattle.definitions.specs.TreeMeanings.{AtNumber, tree_letter, first_letter}
use Rattle.definitions.specs.Trees.{Entry, Ledger, custom_of, tree_of}
use Rattle.definitions.specs.WordFiles.{FileLetter}
use Rattle.system_files.specs.SystemFiles.{Custom}
use Rattle.word_commands.specs.CombineOutcomes.{WordTracks, AreTracksOfFirst, listed_files, listed_names, parts_from}
use Rattle.session_cli.specs.Commands.{Commands}
use Rattle.command_parts.specs.FileChecks.{FilesAnswers}

-- A file was stored among words under the name, and no other file changed. As a word's file it has these letters at positions, and no others.
pub record IsStoredWord (custom : Custom) (files : Files) (name : List ℕ) (HasLetter : List ℕ → ℤ → Type 0) (new : StoreView) : Type 0 where
  pub bytes : List ℕ
  pub stored : new.files ≡ Some (put files Words name bytes)
  pub letters : (place : List ℕ) (letter : ℤ) → FileLetter custom bytes place letter ↔ HasLetter place letter

-- the morphism that is under the name
pub record IsMorphismOf (ledger : Ledger) (name : List ℕ) (rules : Rules) : Type 0 where
  pub files : Files
  pub stored : Stores ledger files
  pub read : IsMorphismIn files name rules

-- of a `promote` the letters of the fixed point of the morphism
pub record IsPromoted (ledger : Ledger) (files : Files) (command : List ℕ) (new : StoreView) : Type 0 where
  pub head : PromoteHead
  pub derived : DerivesPromote (texts_of (parts_of command)) head
  pub rules : Rules
  pub morphism : IsMorphismOf ledger head.morphism rules
  pub word : IsStoredWord (custom_of ledger) files head.word (λ place letter. AtNumber (λ n. IsLetterAt rules n letter) place) new

-- of an `image` the letters of the images, by the morphism, of the letters of the old word, one after another
pub record IsImaged (ledger : Ledger) (files : Files) (command : List ℕ) (new : StoreView) : Type 0 where
  pub head : ImageHead
  pub derived : DerivesImage (codes "image") (texts_of (parts_of command)) head
  pub rules : Rules
  pub morphism : IsMorphismOf ledger head.mapping rules
  pub old : Entry
  pub there : ledger Words head.old ≡ Some old
  pub word : IsStoredWord (custom_of ledger) files head.word (λ place letter. AtNumber (λ n. IsImageLetter rules (λ m of_word. tree_letter (custom_of ledger) (tree_of old) (m ∷ []) of_word) n letter) place) new

-- the transducer that is under the name
pub record IsTransducerOf (ledger : Ledger) (name : List ℕ) (t : Transducer) : Type 0 where
  pub files : Files
  pub stored : Stores ledger files
  pub read : IsTransducerIn files name t

-- of a `transduce` the outputs of the transducer, as it runs over the letters of the old word
pub record IsTransduced (ledger : Ledger) (files : Files) (command : List ℕ) (new : StoreView) : Type 0 where
  pub head : ImageHead
  pub derived : DerivesImage (codes "transduce") (texts_of (parts_of command)) head
  pub transducer : Transducer
  pub is_transducer : IsTransducerOf ledger head.mapping transducer
  pub old : Entry
  pub there : ledger Words head.old ≡ Some old
  pub word : IsStoredWord (custom_of ledger) files head.word (λ place letter. AtNumber (λ n. Makes transducer (λ m of_word. tree_letter (custom_of ledger) (tree_of old) (m ∷ []) of_word) n letter) place) new

-- Of a `convert` the letters of the old word, each at its position. The file is over the system that the command names.
pub record IsConverted (ledger : Ledger) (files : Files) (command : List ℕ) (new : StoreView) : Type 0 where
  pub head : ConvertHead
  pub derived : DerivesConvert (texts_of (parts_of command)) head
  pub old : Entry
  pub there : ledger Words head.old ≡ Some old
  pub word : IsStoredWord (custom_of ledger) files head.word (λ place letter. AtNumber (λ n. tree_letter (custom_of ledger) (tree_of old) (n ∷ []) letter) place) new
  pub listed : Listed
  pub read : word_of word.bytes ≡ Ok listed
  pub over : listed.header ≡ Systems (head.system ∷ [])

-- Of a `combine` the letter of the first listed automaton that holds of the position, and 0 where none does. A position is a number for each system of
-- the automata.
pub record IsCombined (ledger : Ledger) (files : Files) (command : List ℕ) (new : StoreView) : Type 0 where
  pub head : CombineHead
  pub derived : DerivesCombine (texts_of (parts_of command)) head
  pub tables : List Loaded
  pub loaded : FilesAnswers ledger (listed_files head.automata) (Ok tables)
  pub tracks : WordTracks
  pub systems : AreTracksOfFirst (custom_of ledger) (headers_of tables) (listed_names head.automata) tracks
  pub word : IsStoredWord (custom_of ledger) files head.word (λ place letter. (length place ≡ length tracks.named) × first_letter (custom_of ledger) (parts_from ledger 0 head.automata) place letter) new

-- a command of this word that is accepted stores such a file
abbrev pub Stored : List ℕ → (Ledger → Files → List ℕ → StoreView → Type 0) → Type 0
Stored word Made = (limit : ℕ) (ledger : Ledger) (files : Files) (old new : StoreView) (command : List ℕ) (shown : Bool) (printed : List ℕ)
    → first_word_of command ≡ word → old.files ≡ Some files → Commands limit ledger old command shown (Ok printed) new → Made ledger files command new

abbrev pub Promotions : Type 0
Promotions = Stored (codes "promote") IsPromoted

abbrev pub Images : Type 0
Images = Stored (codes "image") IsImaged

abbrev pub Combinations : Type 0
Combinations = Stored (codes "combine") IsCombined

abbrev pub Transductions : Type 0
Transductions = Stored (codes "transduce") IsTransduced

abbrev pub Conversions : Type 0
Conversions = Stored (codes "convert") IsConverted
