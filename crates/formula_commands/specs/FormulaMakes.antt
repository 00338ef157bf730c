-- What is made of a formula whose files were loaded, in each ledger by which they list its tables.
use Rattle.std.specs.Prelude.{◌≡◌, ℕ, Bool, List, Result}
use Rattle.dfa_loading.specs.Loading.{AreListedBy}
use Rattle.digit_tuple.specs.Steps.{StepLog}
use Rattle.formula_build.specs.declared.names.Names.{Names}
use Rattle.formula_parse.specs.Grammar.{Reads}
use Rattle.text_grammar.specs.Spots.{tokens}
use Rattle.formula_parse.specs.Spots.{spots}
use Rattle.formula_parse.specs.Trees as trees
use Rattle.formula_parse.specs.Views.{formula_view}
use Rattle.formula_resolve.specs.FirstMentions.{first_files}
use Rattle.formula_resolve.specs.Mentions.{mentions}
use Rattle.system_files.specs.SystemFiles.{Custom}
use Rattle.wal_outside.specs.Files.{Files}
use Rattle.wal_outside.specs.Places.{Place}
use Rattle.definitions.specs.Texts.{Stores}
use Rattle.definitions.specs.Trees.{Ledger, custom_of}
use Rattle.command_parts.specs.declared.fault.Fault.{Fault}
use Rattle.formula_commands.specs.declared.formula.ReadFormula.{ReadFormula}
use Rattle.command_parts.specs.declared.file_change.Made.{Made}
use Rattle.command_parts.specs.declared.step_options.StepOptions.{StepOptions}
use Rattle.formula_commands.specs.FormulaOutcomes.{after_systems, after_tables}
use Rattle.command_parts.specs.FileChanges.{Makes}
use Rattle.command_parts.specs.MentionedTables.{AreLoaded, AreNames}

-- the formula
abbrev pub tree_of : ReadFormula → trees.Formula
tree_of read = formula_view read.formula

-- the files list the tables
abbrev pub AreTablesOf : ReadFormula → Files → Type 0
AreTablesOf read files = AreListedBy files (first_files (mentions (tree_of read))) read.mentioned.tables.items

-- the formula is that of some text, and what it mentions is loaded
pub record IsReadFormula (read : ReadFormula) : Type 0 where
  pub text : List ℕ
  pub reads : Reads (tokens (spots text)) (tree_of read)
  pub loaded : AreLoaded (mentions (tree_of read)) read.mentioned

-- its names mean these systems
abbrev pub AreFormulaNames : ReadFormula → Custom → Names → Type 0
AreFormulaNames read custom names = AreNames (mentions (tree_of read)) read.mentioned.tables.items custom names

-- by these texts of users' systems this is what the checks after the tables make
abbrev pub MakesAfterTables : StepOptions → ReadFormula → Custom → Result Made Fault → Type 0
MakesAfterTables options read custom result = (ledger : Ledger) (files : Files) (place : Place) → Stores ledger files → custom_of ledger ≡ custom → AreTablesOf read files
    → Makes (custom_of ledger) (after_tables options.limit ledger place (tree_of read) read.mentioned.tables.items) options.shown result

-- and those after the systems
abbrev pub MakesAfterSystems : StepLog → Bool → ReadFormula → Custom → Result Made Fault → Type 0
MakesAfterSystems admitted shown read custom result = (ledger : Ledger) (files : Files) (place : Place) → Stores ledger files → custom_of ledger ≡ custom → AreTablesOf read files
    → Makes (custom_of ledger) (after_systems ledger place read.mentioned.tables.items (tree_of read) admitted) shown result
