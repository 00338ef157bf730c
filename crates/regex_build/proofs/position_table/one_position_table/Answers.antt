-- An expression has one table of its letters.
use Rattle.regex_build.proofs.SameTable.{one_table}
use Rattle.regex_build.proofs.position_table.one_position_table.Goals as goal

pub returns : goal.returns
returns c = one_table
