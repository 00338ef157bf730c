-- Definitions that commands make, and the ledger of what is under each name.
use Rattle.std.specs.Prelude.{◌≡◌, ◌≢◌, ℕ, ℤ, List, [], ◌∷◌, Option, None, Some, option_and_then, ⊤, if◌then◌else◌}
use Rattle.std.specs.List.{fold}
use Rattle.std.specs.Option.{option_map}
use Rattle.wal_outside.specs.declared.folder.Folder.{Folder}
use Rattle.wal_outside.specs.declared.folder.Folder.TheVariants.{Automata, Words, Bases}
use Rattle.wal_outside.specs.Files.{Files, same_file}
use Rattle.digit_tuple.specs.declared.direction.Direction.{Direction}
use Rattle.digit_tuple.specs.declared.direction.Direction.TheVariants.{Msd}
use Rattle.formula_parse.specs.Trees as trees
use Rattle.formula_resolve.specs.declared.file.File as formula_file
use Rattle.formula_resolve.specs.declared.file.File.TheVariants.{Automaton, Word}
use Rattle.morph_words.specs.Rules.{Rules}
use Rattle.regex_build.specs.Expression.{Expression}
use Rattle.transducer_reading.specs.Transducers.{Transducer}
use Rattle.system_files.specs.SystemFiles.{Custom}
use Rattle.definitions.specs.Tracks.{NamedSystem, Tracks}

-- a free variable of a formula, and the system of its numbers, read in a direction
pub record Variable : Type 0 where
  pub name : List ℕ
  pub direction : Direction
  pub system : NamedSystem

-- an operation on languages; a star and a reversal are of one language
pub data LanguageOp : Type 0 where
  Union : LanguageOp
  Intersection : LanguageOp
  Concatenation : LanguageOp
  Star : LanguageOp
  Reversal : LanguageOp

mutual
  -- A definition: the bytes of a file; an expression over tracks; a formula, with its free variables in byte order and the definitions that
  -- its names mean; the fixed point of a morphism; the image of a word, over the word's system; the word that definitions in a list
  -- make together, over systems that are read in one direction; the language that an operation makes of those of definitions, over sets;
  -- the word of the outputs of a transducer that runs over a word, over the word's system with the most significant digit first; or a word
  -- over another system.
  pub data Tree : Type 0 where
    File : List ℕ → Tree
    Regex : Tracks → Expression (List ℤ) → Tree
    Formula : List Variable → trees.Formula → Bindings → Tree
    Fixed : Rules → Tree
    Image : Direction → NamedSystem → Rules → Tree → Tree
    Combine : Direction → List NamedSystem → Parts → Tree
    Language : List (List ℤ) → LanguageOp → Trees → Tree
    Transduced : NamedSystem → Transducer → Tree → Tree
    Converted : Direction → NamedSystem → Tree → Tree

  -- definitions in a list, each with a letter
  pub data Parts : Type 0 where
    no_parts : Parts
    part : Tree → ℤ → Parts → Parts

  -- definitions in a list
  pub data Trees : Type 0 where
    no_trees : Trees
    tree_then : Tree → Trees → Trees

  -- what names in folders mean; the last one of a name counts
  pub data Bindings : Type 0 where
    unbound : Bindings
    bound : Bindings → Folder → List ℕ → Tree → Bindings

-- A definition may be in the folder. An expression, a formula and a language are neither words nor files of a user's system, and are
-- elsewhere; and a definition of a word is among words.
abbrev pub MayBeIn : Folder → Tree → Type 0
MayBeIn folder (File bytes) = ⊤
MayBeIn folder (Regex tracks expression) = (folder ≢ Words) × (folder ≢ Bases)
MayBeIn folder (Formula variables formula bindings) = (folder ≢ Words) × (folder ≢ Bases)
MayBeIn folder (Fixed rules) = folder ≡ Words
MayBeIn folder (Image direction system rules tree) = folder ≡ Words
MayBeIn folder (Combine direction named parts) = folder ≡ Words
MayBeIn folder (Language sets op trees) = (folder ≢ Words) × (folder ≢ Bases)
MayBeIn folder (Transduced system transducer tree) = folder ≡ Words
MayBeIn folder (Converted direction system tree) = folder ≡ Words

-- Over which systems a definition of a word is, and in which direction they are read. The rules of a fixed point decide its system.
abbrev pub word_systems : Tree → List NamedSystem
word_systems (Image direction system rules tree) = system ∷ []
word_systems (Combine direction named parts) = named
word_systems (Transduced system transducer tree) = system ∷ []
word_systems (Converted direction system tree) = system ∷ []
word_systems _ = []

abbrev pub word_direction : Tree → Direction
word_direction (Image direction system rules tree) = direction
word_direction (Combine direction named parts) = direction
word_direction (Converted direction system tree) = direction
word_direction _ = Msd

-- what is under a name: bytes, or a definition
pub data Entry : Type 0 where
  Bytes : List ℕ → Entry
  Defined : Tree → Entry

-- the entry under each name in each folder, where there is one
abbrev pub Ledger : Type 0
Ledger = Folder → List ℕ → Option Entry

-- files as they were found: all entries are bytes
abbrev pub ledger_of : Files → Ledger
ledger_of files = λ folder name. option_map (λ bytes. Bytes bytes) (files folder name)

-- the ledger with this entry at one name, and else as it was
abbrev pub entered : Ledger → Folder → List ℕ → Entry → Ledger
entered ledger folder name entry = λ f n. if same_file folder name f n then Some entry else ledger f n

-- the bytes of a file
abbrev pub bytes_of : Tree → Option (List ℕ)
bytes_of (File bytes) = Some bytes
bytes_of (Regex tracks expression) = None
bytes_of (Formula variables formula bindings) = None
bytes_of (Fixed rules) = None
bytes_of (Image direction system rules tree) = None
bytes_of (Combine direction named parts) = None
bytes_of (Language sets op trees) = None
bytes_of (Transduced system transducer tree) = None
bytes_of (Converted direction system tree) = None

-- the definition of an entry
abbrev pub tree_of : Entry → Tree
tree_of (Bytes bytes) = File bytes
tree_of (Defined tree) = tree

-- the texts of users' systems
abbrev pub custom_of : Ledger → Custom
custom_of ledger = λ name. option_and_then (λ entry. bytes_of (tree_of entry)) (ledger Bases name)

-- a name bound to the definition of its entry, where there is one
abbrev pub with_entry : Bindings → Folder → List ℕ → Option Entry → Bindings
with_entry bindings folder name None = bindings
with_entry bindings folder name (Some entry) = bound bindings folder name (tree_of entry)

-- a file that a formula names, bound to what is there
abbrev pub with_file : Ledger → Bindings → formula_file.File → Bindings
with_file ledger bindings (Automaton name) = with_entry bindings Automata name (ledger Automata name)
with_file ledger bindings (Word name) = with_entry bindings Words name (ledger Words name)

-- the definitions for which the files of a formula are now
abbrev pub bindings_of : Ledger → List formula_file.File → Bindings
bindings_of ledger files = fold (with_file ledger) unbound files

-- the definitions of automata in a list, with these letters; a name under which nothing is adds none
abbrev pub with_part : Option Entry → ℤ → Parts → Parts
with_part None letter parts = parts
with_part (Some entry) letter parts = part (tree_of entry) letter parts

-- the definition of an automaton before others in a list; where there is no entry, none
abbrev pub with_tree : Option Entry → Trees → Trees
with_tree None trees = trees
with_tree (Some entry) trees = tree_then (tree_of entry) trees

-- the definitions of automata that are now under these names, in their order
abbrev pub trees_of : Ledger → List (List ℕ) → Trees
trees_of ledger [] = no_trees
trees_of ledger (name ∷ names) = with_tree (ledger Automata name) (trees_of ledger names)
