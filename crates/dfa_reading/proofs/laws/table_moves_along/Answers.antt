use Rattle.dfa_reading.proofs.TableRows.{moves_along}
use Rattle.dfa_reading.proofs.laws.table_moves_along.Goals as goal

pub returns : goal.returns
returns c = moves_along
