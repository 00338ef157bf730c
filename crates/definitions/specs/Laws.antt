-- What holds of all definitions.
use Rattle.std.specs.Prelude.{◌≡◌, ◌≢◌, ◌↔◌, ℕ, ℤ, List}
use Rattle.wal_outside.specs.declared.folder.Folder.{Folder}
use Rattle.wal_outside.specs.declared.folder.Folder.TheVariants.{Automata, Bases, Words}
use Rattle.wal_outside.specs.Files.{Files}
use Rattle.formula_parse.specs.Trees as trees
use Rattle.formula_resolve.specs.declared.file.File as formula_file
use Rattle.definitions.specs.Trees.{Variable, Tree, Formula, Bindings, MayBeIn, Entry, Ledger, ledger_of, entered, custom_of, bindings_of}
use Rattle.system_files.specs.SystemFiles.{Custom}
use Rattle.dfa_text.specs.Meaning.{FileAccepts}
use Rattle.definitions.specs.Files.{FileHolds}
use Rattle.definitions.specs.WordFiles.{FileLetter}
use Rattle.definitions.specs.TreeMeanings.{tree_holds, bound_holds, tree_letter, bound_letter, tree_words}
use Rattle.definitions.specs.Texts.{HasTreeText, HasText, Stores}

-- an entry has at most one text
abbrev pub OneText : Type 0
OneText = (custom : Custom) (entry : Entry) (text other : List ℕ) → HasText custom entry text → HasText custom entry other → text ≡ other

-- the text of a definition that may be among automata, read as a file, holds of the numbers of which the definition holds
abbrev pub TextsMeanTheirTrees : Type 0
TextsMeanTheirTrees = (custom : Custom) (tree : Tree) (text : List ℕ) → MayBeIn Automata tree → HasTreeText custom tree text → (ns : List ℕ) → FileHolds custom text ns ↔ tree_holds custom tree ns

-- the text of a definition that may be among words, read as a word's file, has the letters of the definition
abbrev pub WordTextsMeanTheirTrees : Type 0
WordTextsMeanTheirTrees = (custom : Custom) (tree : Tree) (text : List ℕ) → MayBeIn Words tree → HasTreeText custom tree text → (ns : List ℕ) (letter : ℤ) → FileLetter custom text ns letter ↔ tree_letter custom tree ns letter

-- the text of a definition that may be among automata, read as a file over sets, accepts the words of the definition
abbrev pub LanguageTextsMeanTheirTrees : Type 0
LanguageTextsMeanTheirTrees = (custom : Custom) (tree : Tree) (text : List ℕ) → MayBeIn Automata tree → HasTreeText custom tree text → (word : List (List ℤ)) → FileAccepts text word ↔ tree_words custom tree word

-- names of automata are bound to what holds of the same numbers, and names of words to what has the same letters
pub record BindTheSame (custom : Custom) (bindings others : Bindings) : Type 0 where
  pub holds : (name ns : List ℕ) → bound_holds custom bindings Automata name ns ↔ bound_holds custom others Automata name ns
  pub letters : (name ns : List ℕ) (letter : ℤ) → bound_letter custom bindings Words name ns letter ↔ bound_letter custom others Words name ns letter

-- a formula holds of the same numbers where its names are bound to the same
abbrev pub BindingsMatterByMeaning : Type 0
BindingsMatterByMeaning = (custom : Custom) (variables : List Variable) (formula : trees.Formula) (bindings others : Bindings) → BindTheSame custom bindings others
    → (ns : List ℕ) → tree_holds custom (Formula variables formula bindings) ns ↔ tree_holds custom (Formula variables formula others) ns

-- names mean the same in the ledger and in the files that are its texts
abbrev pub FilesBindAsTheirLedger : Type 0
FilesBindAsTheirLedger = (ledger : Ledger) (files : Files) → Stores ledger files → (named : List formula_file.File)
    → BindTheSame (custom_of ledger) (bindings_of ledger named) (bindings_of (ledger_of files) named)

-- The texts of users' systems are those of the files that are the texts of the ledger; and what is entered elsewhere leaves them as they are.
pub record CustomTextsAreFiles : Type 0 where
  pub stored : (ledger : Ledger) (files : Files) → Stores ledger files → custom_of ledger ≡ files Bases
  pub found : (files : Files) → custom_of (ledger_of files) ≡ files Bases
  pub elsewhere : (ledger : Ledger) (folder : Folder) (name : List ℕ) (entry : Entry) → folder ≢ Bases → custom_of (entered ledger folder name entry) ≡ custom_of ledger
