use Rattle.std.proofs.Common.{◌-◌, ◌<◌, length, take, subst, sym, arith}
use Rattle.std.specs.List.{AllByRecursion}
use Rattle.std.proofs.lemmas.Bool.Decides.{Decides-ltb}
use Rattle.digit_tuple.specs.SparseRows.{IsFullOver}
use Rattle.digit_tuple.proofs.BlockLemmas.{last-element}
use Rattle.digit_tuple.proofs.DecisionLemmas.{all_push}
use Rattle.digit_tuple.proofs.RowBlockLemmas.{AreFullBefore-split}
use Rattle.digit_tuple.proofs.sparse_rows.has_room.Goals as goal

pub returns-in-Some-clause-opened : goal.returns-in-Some-clause-opened
returns-in-Some-clause-opened c less sizes blocks_are =
    let blocks = c.args.blocks.now in
    let before = take (length blocks - 1) blocks in
    let last = c.in-Some.last.now in
    let split = last-element blocks last c.in-Some.ensures.value in
    let are = AreFullBefore-split sizes blocks before last blocks_are split in
    record { before = before; last = last; are = split; full = are.full; over = are.over; room = omega (arith, (Decides-ltb c.len.result 1024).0 less, c.len.ensures) }

pub returns-in-Some-clause-full : goal.returns-in-Some-clause-full
returns-in-Some-clause-full c more sizes blocks_are =
    let blocks = c.args.blocks.now in
    let before = take (length blocks - 1) blocks in
    let last = c.in-Some.last.now in
    let split = last-element blocks last c.in-Some.ensures.value in
    let are = AreFullBefore-split sizes blocks before last blocks_are split in
    let long : ¬ (c.len.result < 1024) = λ less. more ((Decides-ltb c.len.result 1024).1 less) in
    let full : IsFullOver sizes last = record { over = are.over; rows = omega (arith, long, c.len.ensures, are.rows) } in
    subst (AllByRecursion (IsFullOver sizes)) (sym split) (all_push (IsFullOver sizes) before last are.full full)
