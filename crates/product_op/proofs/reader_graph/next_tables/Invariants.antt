use Rattle.std.proofs.Common.{◌≡◌, take}
use Rattle.product_op.specs.Readings.{automata_in, readings_in}
use Rattle.product_op.proofs.reader_graph.next_tables.Given as goal

abbrev pub invariant-loop-reader : goal.invariant-loop-reader
invariant-loop-reader l = l.tables.items ≡ automata_in (readings_in (take l.reader-index l.readers))
