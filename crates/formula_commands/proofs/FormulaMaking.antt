-- What is made of a formula after its systems comes from no file.
use Rattle.std.proofs.Common.{Bool, [], Result}
use Rattle.digit_tuple.specs.Steps.{StepLog}
use Rattle.formula_resolve.specs.FirstMentions.{first_files}
use Rattle.formula_resolve.specs.Mentions.{mentions}
use Rattle.wal_outside.specs.Files.{Files}
use Rattle.wal_outside.specs.Places.{Place}
use Rattle.wal_outside.specs.declared.folder.Folder.TheVariants.{Results}
use Rattle.system_files.specs.SystemFiles.{Custom}
use Rattle.definitions.proofs.CustomTexts.{found_custom}
use Rattle.definitions.specs.Trees.{Ledger, ledger_of, custom_of}
use Rattle.command_parts.specs.declared.fault.Fault.{Fault}
use Rattle.formula_commands.specs.declared.formula.ReadFormula.{ReadFormula}
use Rattle.command_parts.specs.declared.file_change.Made.{Made}
use Rattle.formula_commands.specs.FormulaMakes.{tree_of, IsReadFormula, MakesAfterSystems}
use Rattle.formula_commands.specs.FormulaOutcomes.{after_systems}
use Rattle.command_parts.proofs.StoredLedgers.{files_store}
use Rattle.command_parts.proofs.FilesElsewhere.{listed_elsewhere}
use Rattle.formula_commands.proofs.FormulaReadingChecks.{no_file_read}
use Rattle.command_parts.proofs.StoreReads.{IsOwn, own_made}
use Rattle.command_parts.proofs.TextReads.{with_bases}

nowhere : Place
nowhere = (Results, [])

-- so it is refused by no fault of the store
pub made_own : (admitted : StepLog) (shown : Bool) (read : ReadFormula) (custom : Custom) (r : Result Made Fault) → IsReadFormula read → MakesAfterSystems admitted shown read custom r → IsOwn r
made_own admitted shown read custom r is makes =
    let files : Files = with_bases is.loaded.0 custom in
    let ledger : Ledger = ledger_of files in
    let tables = read.mentioned.tables.items in
    own_made (custom_of ledger) (after_systems ledger nowhere tables (tree_of read) admitted) (no_file_read admitted ledger nowhere (tree_of read) tables) shown r
    (makes ledger files nowhere (files_store files) (found_custom files) (listed_elsewhere is.loaded.0 custom (first_files (mentions (tree_of read))) tables is.loaded.1.listed))
