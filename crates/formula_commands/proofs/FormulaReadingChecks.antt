-- The checks of a formula after its systems read no file.
use Rattle.std.proofs.Common.{List, inl, inr}
use Rattle.wal_outside.specs.Places.{Place}
use Rattle.digit_tuple.specs.Steps.{StepLog}
use Rattle.dfa_loading.specs.declared.loaded.Loaded.{Loaded}
use Rattle.formula_parse.specs.Trees as trees
use Rattle.definitions.specs.Trees.{Ledger}
use Rattle.formula_commands.specs.FormulaOutcomes.{after_systems}

pub no_file_read : (admitted : StepLog) (ledger : Ledger) (at : Place) (formula : trees.Formula) (tables : List Loaded) (place : Place) → (after_systems ledger at tables formula admitted).reads place → ⊥
no_file_read admitted ledger at formula tables place (inl read) = read
no_file_read admitted ledger at formula tables place (inr (done, resolves, inl read)) = read
no_file_read admitted ledger at formula tables place (inr (done, resolves, inr (lines, builds, inl read))) = read
no_file_read admitted ledger at formula tables place (inr (done, resolves, inr (lines, builds, inr (variables, are, inl read)))) = read
no_file_read admitted ledger at formula tables place (inr (done, resolves, inr (lines, builds, inr (variables, are, inr (verdict, says, read))))) = read
