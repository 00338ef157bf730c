use Rattle.definitions.proofs.FileTables.{file_is_table}
use Rattle.definitions.proofs.table.files_are_tables.Goals as goal

pub returns : goal.returns
returns c = file_is_table
