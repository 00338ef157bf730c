use Rattle.std.proofs.Common.{◌≡◌, ◌<◌, drop}
use Rattle.digit_tuple.specs.Tables.{run_accepts}
use Rattle.digit_tuple.proofs.table.accepts_by.Given as goal

abbrev pub invariant-loop-letter : goal.invariant-loop-letter
invariant-loop-letter g l = record {
  in_range : l.state < g.T.Table.state_count l.table;
  rest : run_accepts (g.T.Table.target l.table) (g.T.Table.accepts l.table) l.state (drop l.letter-index l.word) ≡ run_accepts (g.T.Table.target l.table) (g.T.Table.accepts l.table) 0 l.word;
}
