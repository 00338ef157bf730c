-- A file that a formula names, read at its place.
use Rattle.std.specs.Prelude.{◌≡◌, ℕ, ◌<◌, ◌≤◌, List, length, None, Some, IfSome, Result, Ok, Err, MatchResult, ⊤}
use Rattle.std.specs.Option.{option_map}
use Rattle.wal_outside.specs.Causes.{Rose}
use Rattle.wal_outside.specs.Files.{Files}
use Rattle.wal_outside.specs.Places.{Place}
use Rattle.wal_outside.specs.Views.{StoreView}
use Rattle.wal_outside.specs.declared.folder.Folder.{Folder}
use Rattle.wal_outside.specs.declared.folder.Folder.TheVariants.{Automata, Words}
use Rattle.wal_outside.specs.declared.store.TheConstants.{TEXT_LIMIT}
use Rattle.dfa_reading.specs.Listed.{Listed}
use Rattle.dfa_reading.specs.Reading.{relation_of}
use Rattle.dfa_reading.specs.WordFiles.{word_of}
use Rattle.formula_resolve.specs.declared.file.File.{File}
use Rattle.formula_resolve.specs.declared.file.File.TheVariants.{Automaton, Word}
use Rattle.dfa_loading.specs.declared.fault.FileFlaw.{FileFlaw}
use Rattle.dfa_loading.specs.declared.fault.FileFlaw.TheVariants.{Line, TooLong}
use Rattle.dfa_loading.specs.declared.fault.LoadFault.{LoadFault}
use Rattle.dfa_loading.specs.declared.fault.LoadFault.TheVariants as faults
use Rattle.dfa_loading.specs.declared.loaded.Loaded.{Loaded}

-- where a file is: an automaton's among automata, a word's among words
abbrev pub place_of : File → Place
place_of (Automaton name) = (Automata, name)
place_of (Word name) = (Words, name)

-- what a text lists as a file of this kind, or the line of its first fault
abbrev pub lists_of : File → List ℕ → Result Listed ℕ
lists_of (Automaton name) text = relation_of text
lists_of (Word name) text = word_of text

-- the text, as that of the file, lists this, and is beside it
pub record ListsAs (file : File) (text : List ℕ) (loaded : Loaded) : Type 0 where
  pub file_is : loaded.file ≡ file
  pub text_is : loaded.text ≡ text
  pub lists : lists_of file text ≡ Ok loaded.listed

-- the text, as that of the file, has this flaw: it is too long to be read, or breaks the format first at this line
abbrev pub HasFlaw : File → List ℕ → FileFlaw → Type 0
HasFlaw file text (Line at) = (length text ≤ TEXT_LIMIT) × (lists_of file text ≡ Err at)
HasFlaw file text TooLong = TEXT_LIMIT < length text

-- the file is read under this name in this folder
abbrev pub IsReadAt : File → Folder → List ℕ → Type 0
IsReadAt file folder name = (folder ≡ (place_of file).0) × (name ≡ (place_of file).1)

-- the text of the file was read and breaks its format, or memory ran out
abbrev pub IsNotListed : File → List ℕ → LoadFault → Type 0
IsNotListed file text (faults.File folder name flaw) = IsReadAt file folder name × HasFlaw file text flaw
IsNotListed file text faults.Memory = ⊤
IsNotListed file text (faults.Unknown folder name) = ⊥
IsNotListed file text (faults.Store folder name) = ⊥

-- the text of the file is short enough, and lists this
pub record IsListedBy (files : Files) (file : File) (loaded : Loaded) : Type 0 where
  pub text : List ℕ
  pub there : files (place_of file).0 (place_of file).1 ≡ Some text
  pub short : length text ≤ TEXT_LIMIT
  pub lists : ListsAs file text loaded

-- nothing is at the file's place, or a text with a flaw
abbrev pub Refuses : Files → File → LoadFault → Type 0
Refuses files file (faults.Unknown folder name) = IsReadAt file folder name × (files (place_of file).0 (place_of file).1 ≡ None)
Refuses files file (faults.File folder name flaw) = IsReadAt file folder name × ((text : List ℕ) × (files (place_of file).0 (place_of file).1 ≡ Some text) × HasFlaw file text flaw)
Refuses files file (faults.Store folder name) = ⊥
Refuses files file faults.Memory = ⊥

-- why the file is not loaded: by what is there, or because the store failed, or because memory ran out
abbrev pub Fails : Files → File → LoadFault → Type 0
Fails files file (faults.Unknown folder name) = Refuses files file (faults.Unknown folder name)
Fails files file (faults.File folder name flaw) = Refuses files file (faults.File folder name flaw)
Fails files file (faults.Store folder name) = IsReadAt file folder name
Fails files file faults.Memory = ⊤

-- the count of faults rose, and the last call that failed is the one at this place; or no call failed
abbrev pub IsCausedBy : LoadFault → StoreView → StoreView → Type 0
IsCausedBy (faults.Store folder name) old new = Rose old.faults new.faults × (new.failed ≡ option_map (λ _. Some (folder, name)) old.failed)
IsCausedBy (faults.Unknown folder name) old new = new.failed ≡ old.failed
IsCausedBy (faults.File folder name flaw) old new = new.failed ≡ old.failed
IsCausedBy faults.Memory old new = new.failed ≡ old.failed

-- reading changes no text, and where it fails a call did
pub record HasRead {X : Type 0} (old : StoreView) (result : Result X LoadFault) (new : StoreView) : Type 0 where
  pub files : new.files ≡ old.files
  pub later : old.faults ≤ new.faults
  pub cause : MatchResult result (λ _. new.failed ≡ old.failed) (λ fault. IsCausedBy fault old new)

-- files that are the store's, where these are reported
abbrev pub AreReported : StoreView → Files → Type 0
AreReported store found = IfSome store.files (λ files. found ≡ files)

-- the file was loaded, or not, by some files, which are the store's where it reports them
pub record IsLoadedFile (file : File) (old : StoreView) (result : Result Loaded LoadFault) (new : StoreView) : Type 0 where
  pub found : Files
  pub reported : AreReported old found
  pub gives : MatchResult result (IsListedBy found file) (Fails found file)
  pub has_read : HasRead old result new
