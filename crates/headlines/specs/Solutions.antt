-- What the file of a `def` says.
use Rattle.std.specs.Prelude.{◌≡◌, ◌≢◌, ◌↔◌, ◌⊎◌, ℕ, Bool, List, [], Some, Ok, codes}
use Rattle.std.specs.List.{AllByRecursion, AllZip}
use Rattle.wal_outside.specs.Files.{Files, put}
use Rattle.wal_outside.specs.Views.{StoreView}
use Rattle.wal_outside.specs.declared.folder.Folder.TheVariants.{Automata}
use Rattle.command_head.specs.Grammar.{DerivesNamed}
use Rattle.command_head.specs.Heads.{NamedHead}
use Rattle.command_head.specs.Parts.{first_word_of, parts_of, texts_of}
use Rattle.digit_tuple.specs.Paddings.{in_order}
use Rattle.digit_tuple.specs.declared.direction.Direction.{Direction}
use Rattle.dfa_loading.specs.Headers.{headers_of}
use Rattle.dfa_loading.specs.declared.loaded.Loaded.{Loaded}
use Rattle.dfa_reading.specs.Branching.{IsLetterOfDigits}
use Rattle.dfa_reading.specs.Listed.{Listed, ListedAccepts}
use Rattle.dfa_reading.specs.Reading.{relation_of}
use Rattle.numeration.specs.Representation.{Represents, sizes_of}
use Rattle.numeration.specs.Systems.{System}
use Rattle.formula_parse.specs.Trees.{Formula}
use Rattle.formula_truth.specs.Truth.{Holds}
use Rattle.formula_resolve.specs.FirstMentions.{first_files}
use Rattle.formula_resolve.specs.FreeVariables.{free_variables}
use Rattle.formula_resolve.specs.Mentions.{mentions}
use Rattle.formula_resolve.specs.Occurrences.{all_occurrences}
use Rattle.definitions.specs.FormulaTexts.{named_systems, truth_text}
use Rattle.definitions.specs.Texts.{Stores}
use Rattle.definitions.specs.Tracks.{systems_of}
use Rattle.definitions.specs.TreeMeanings.{assigned}
use Rattle.definitions.specs.Trees.{Ledger, Variable, custom_of}
use Rattle.session_cli.specs.Commands.{Commands}
use Rattle.command_parts.specs.FileChecks.{FilesAnswers}
use Rattle.formula_commands.specs.FormulaOutcomes.{IsVariable}
use Rattle.headlines.specs.Verdicts.{IsOfFormula, meanings_now, SaysTruth}

-- The bytes are a file. Of the words over the digits of the systems it accepts exactly those that represent, padded with zeros or not, numbers of
-- which this holds.
pub record AcceptsExactly (direction : Direction) (systems : List System) (Has : List ℕ → Type 0) (bytes : List ℕ) : Type 0 where
  pub listed : Listed
  pub lists : relation_of bytes ≡ Ok listed
  pub accepts : (tuples : List (List ℕ)) (word : List ℕ) → AllZip (IsLetterOfDigits (sizes_of systems)) tuples word
      → ListedAccepts (sizes_of systems) listed tuples ↔ ((ns : List ℕ) × Represents systems (in_order direction word) ns × Has ns)

-- The free variables of the formula in byte order, where its names have these tables, each over the system that the name of its system means.
pub record AreVariablesOf (ledger : Ledger) (formula : Formula) (variables : List Variable) : Type 0 where
  pub tables : List Loaded
  pub loaded : FilesAnswers ledger (first_files (mentions formula)) (Ok tables)
  pub are : AllZip (IsVariable (custom_of ledger)) (free_variables (all_occurrences (headers_of tables) formula)) variables

-- The command is a `def` of a formula with free variables, and the bytes accept exactly the representations of the numbers for which it is true, one
-- for each variable. Names mean what the ledger has of them.
pub record IsSolutionFile (ledger : Ledger) (command bytes : List ℕ) : Type 0 where
  pub files : Files
  pub stored : Stores ledger files
  pub formula : Formula
  pub is_of : IsOfFormula files command formula
  pub variables : List Variable
  pub some : variables ≢ []
  pub are_free : AreVariablesOf ledger formula variables
  pub direction : Direction
  pub read : AllByRecursion (λ (v : Variable). v.direction ≡ direction) variables
  pub accepts : AcceptsExactly direction (systems_of (named_systems variables)) (λ ns. Holds (meanings_now ledger formula) formula (assigned variables ns)) bytes

-- the bytes are the truth of the command's sentence
pub record IsTruthFile (ledger : Ledger) (command bytes : List ℕ) : Type 0 where
  pub truth : Bool
  pub bytes_are : bytes ≡ truth_text truth
  pub says : SaysTruth ledger command truth

-- a file was stored among automata under the name of the command, and no other file changed
pub record IsDefined (ledger : Ledger) (files : Files) (command : List ℕ) (new : StoreView) : Type 0 where
  pub head : NamedHead
  pub derived : DerivesNamed (codes "def") (texts_of (parts_of command)) head
  pub bytes : List ℕ
  pub stored : new.files ≡ Some (put files Automata head.name bytes)
  pub means : IsSolutionFile ledger command bytes ⊎ IsTruthFile ledger command bytes

-- A `def` that is accepted stores such a file.
abbrev pub Solutions : Type 0
Solutions = (limit : ℕ) (ledger : Ledger) (files : Files) (old new : StoreView) (command : List ℕ) (shown : Bool) (printed : List ℕ)
    → first_word_of command ≡ codes "def" → old.files ≡ Some files → Commands limit ledger old command shown (Ok printed) new → IsDefined ledger files command new
