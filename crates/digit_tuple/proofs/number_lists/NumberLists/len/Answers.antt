use Rattle.std.proofs.Common.{length, ap, arith}
use Rattle.digit_tuple.proofs.NumberListLemmas.{length-lists_of}
use Rattle.digit_tuple.proofs.number_lists.NumberLists.len.Goals as goal

pub overflow_add-result : goal.overflow_add-result
overflow_add-result c =
    let l = c.self.inside in
    omega (arith, c.len.ensures, length-lists_of l.same l.width l.starts l.numbers.items, c.self.invariant.few)

pub returns : goal.returns
returns c =
    let l = c.self.inside in
    omega (arith, c.len.ensures, length-lists_of l.same l.width l.starts l.numbers.items, ap length c.self.view_is)
