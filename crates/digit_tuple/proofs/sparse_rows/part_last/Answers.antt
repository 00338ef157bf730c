use Rattle.std.proofs.Common.{◌-◌}
use Rattle.digit_tuple.proofs.RowBlockLemmas.{AreRowBlocks-set, rows-set}
use Rattle.digit_tuple.proofs.sparse_rows.part_last.Goals as goal

pub returns-in_ok-last-clause-blocks : goal.returns-in_ok-last-clause-blocks
returns-in_ok-last-clause-blocks c =
    let blocks = c.args.blocks.now in
    AreRowBlocks-set c.args.tracks.now blocks.items (blocks.len - 1) c.in-Some.last.now c.in_ok-last.field-0 c.requires c.in-Some.ensures.value c.in_ok-last.ensures.over c.in_ok-last.ensures.rows

pub returns-in_ok-last-clause-rows : goal.returns-in_ok-last-clause-rows
returns-in_ok-last-clause-rows c =
    let blocks = c.args.blocks.now in
    rows-set blocks.items (blocks.len - 1) c.in-Some.last.now c.in_ok-last.field-0 c.in-Some.ensures.value c.in_ok-last.ensures.rows
