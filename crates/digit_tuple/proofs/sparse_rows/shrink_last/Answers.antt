use Rattle.std.proofs.Common.{◌-◌}
use Rattle.digit_tuple.proofs.RowBlockLemmas.{HaveSameRows-set}
use Rattle.digit_tuple.proofs.sparse_rows.shrink_last.Goals as goal

pub returns-in-Some : goal.returns-in-Some
returns-in-Some c =
    let blocks = c.args.blocks.now in
    let last = c.shrink_to_fit.new.self in
    HaveSameRows-set blocks.items (blocks.len - 1) c.in-Some.last.now last c.requires c.in-Some.ensures.value c.shrink_to_fit.ensures.sound c.shrink_to_fit.ensures.sizes c.shrink_to_fit.ensures.rows
