-- The texts of users' systems are those of files, and change where something is entered among them alone.
use Rattle.std.proofs.Common.{◌≡◌, ◌≢◌, ℕ, false, List, Option, None, Some, if◌then◌else◌, option_and_then, option_map, refl, sym, ap}
use Rattle.wal_outside.specs.declared.folder.Folder.{Folder}
use Rattle.wal_outside.specs.declared.folder.Folder.TheVariants.{Bases, Words}
use Rattle.wal_outside.specs.Files.{Files, same_file}
use Rattle.system_files.specs.SystemFiles.{Custom}
use Rattle.definitions.specs.Trees.{Tree, File, Regex, Formula, Language, Entry, Bytes, Defined, Ledger, ledger_of, entered, bytes_of, tree_of, custom_of}
use Rattle.definitions.specs.Texts.{HasTextIn, HasTextAt, Stores}
use Rattle.definitions.specs.Laws.{CustomTextsAreFiles}

-- what is as a text of a user's system is a file, of these bytes: the other definitions are of words, which are elsewhere
tree_bytes : (custom : Custom) (tree : Tree) (text : List ℕ) → HasTextIn custom Bases (Defined tree) text → bytes_of tree ≡ Some text
tree_bytes custom (File bytes) text has = ap Some (sym has.1)
tree_bytes custom (Regex tracks e) text has = absurd (has.0.1 refl)
tree_bytes custom (Formula variables formula bindings) text has = absurd (has.0.1 refl)
tree_bytes custom (Language sets op trees) text has = absurd (has.0.1 refl)
tree_bytes custom _ text has = absurd (let no : Bases ≡ Words = has.0 in cc)

entry_text : (custom : Custom) (entry : Entry) (text : List ℕ) → HasTextIn custom Bases entry text → bytes_of (tree_of entry) ≡ Some text
entry_text custom (Bytes bytes) text has = ap Some (sym has.1)
entry_text custom (Defined tree) text has = tree_bytes custom tree text has

entry_there : (custom : Custom) (entry : Option Entry) (text : Option (List ℕ)) → HasTextAt custom Bases entry text → option_and_then (λ e. bytes_of (tree_of e)) entry ≡ text
entry_there custom None None has = refl
entry_there custom None (Some text) has = absurd has
entry_there custom (Some entry) None has = absurd has
entry_there custom (Some entry) (Some text) has = entry_text custom entry text has

pub stored_custom : (ledger : Ledger) (files : Files) → Stores ledger files → custom_of ledger ≡ files Bases
stored_custom ledger files stores = λ i name. entry_there (custom_of ledger) (ledger Bases name) (files Bases name) (stores Bases name) i

found_there : (text : Option (List ℕ)) → option_and_then (λ e. bytes_of (tree_of e)) (option_map (λ bytes. Bytes bytes) text) ≡ text
found_there None = refl
found_there (Some text) = refl

pub found_custom : (files : Files) → custom_of (ledger_of files) ≡ files Bases
found_custom files = λ i name. found_there (files Bases name) i

other_folder : (folder : Folder) (name under : List ℕ) → folder ≢ Bases → same_file folder name Bases under ≡ false
other_folder Bases name under other = absurd (other refl)
other_folder _ name under other = refl

pub entered_custom : (ledger : Ledger) (folder : Folder) (name : List ℕ) (entry : Entry) → folder ≢ Bases → custom_of (entered ledger folder name entry) ≡ custom_of ledger
entered_custom ledger folder name entry other =
    λ i under. option_and_then (λ e. bytes_of (tree_of e)) (if other_folder folder name under other i then Some entry else ledger Bases under)

pub custom_texts : CustomTextsAreFiles
custom_texts = record { stored = stored_custom; found = found_custom; elsewhere = entered_custom }
