use Rattle.std.proofs.Common.{[], refl}
use Rattle.command_parts.proofs.TableReads.{read_on, reading_stops}
use Rattle.command_parts.proofs.table_reading.read_tables.Goals as goal

pub loop-table-init : goal.loop-table-init
loop-table-init c = ([], refl, c.new-library.ensures)

pub returns-in_err-add_table : goal.returns-in_err-add_table
returns-in_err-add_table c =
    reading_stops c.args.systems.now c.args.steps.now c.loop-table.steps c.add_table.new.steps c.args.tables.now c.loop-table.table-index c.table-item.result c.loop-table.library c.in_err-add_table.field-0.0 c.from_residual.result
    c.loop-table-test.true c.table-item.is c.loop-table.invariant c.in_err-add_table.ensures c.from_residual.ensures.1

pub loop-table-preserved : goal.loop-table-preserved
loop-table-preserved c =
    read_on c.args.systems.now c.args.steps.now c.loop-table.steps c.add_table.new.steps c.args.tables.now c.loop-table.table-index c.table-item.result c.loop-table.library c.add_table.new.library
    c.loop-table-test.true c.table-item.is c.loop-table.invariant c.in_ok-add_table.ensures
