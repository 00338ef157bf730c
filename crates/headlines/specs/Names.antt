-- What a name means in a formula: the definition that is under it.
use Rattle.std.specs.Prelude.{◌≡◌, ◌↔◌, ℕ, ℤ, List, Contains, Some}
use Rattle.wal_outside.specs.declared.folder.Folder.TheVariants.{Automata, Words}
use Rattle.formula_parse.specs.Trees.{Formula}
use Rattle.formula_resolve.specs.FirstMentions.{first_files}
use Rattle.formula_resolve.specs.Mentions.{mentions}
use Rattle.formula_resolve.specs.declared.file.File.TheVariants.{Automaton, Word}
use Rattle.definitions.specs.TreeMeanings.{tree_holds, tree_letter}
use Rattle.definitions.specs.Trees.{Entry, Ledger, custom_of, tree_of}
use Rattle.headlines.specs.Verdicts.{meanings_now}

-- An automaton that the formula calls holds of the numbers of which the definition under its name holds, and a word that it indexes has the letters
-- of the definition under its name. A definition is the bytes of a file, or what a command made, with what its own names meant then.
pub record MeanDefinitions (ledger : Ledger) (formula : Formula) : Type 0 where
  pub automata : (name : List ℕ) (entry : Entry) → Contains (first_files (mentions formula)) (Automaton name) → ledger Automata name ≡ Some entry
      → (ns : List ℕ) → (meanings_now ledger formula).holds_of name ns ↔ tree_holds (custom_of ledger) (tree_of entry) ns
  pub words : (name : List ℕ) (entry : Entry) → Contains (first_files (mentions formula)) (Word name) → ledger Words name ≡ Some entry
      → (ns : List ℕ) (letter : ℤ) → (meanings_now ledger formula).has_letter name ns letter ↔ tree_letter (custom_of ledger) (tree_of entry) ns letter

-- the names of each formula do
abbrev pub Names : Type 0
Names = (ledger : Ledger) (formula : Formula) → MeanDefinitions ledger formula
