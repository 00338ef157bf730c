use Rattle.definitions.proofs.OneTable.{one_table}
use Rattle.definitions.proofs.table.tables_have_one_answer.Goals as goal

pub returns : goal.returns
returns c = one_table
