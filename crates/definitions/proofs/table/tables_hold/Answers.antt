use Rattle.definitions.proofs.TableRelations.{table_holds}
use Rattle.definitions.proofs.table.tables_hold.Goals as goal

pub returns : goal.returns
returns c = table_holds
