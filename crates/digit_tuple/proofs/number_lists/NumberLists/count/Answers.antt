use Rattle.std.proofs.Common.{length, List, ℕ, sum_by, ap, arith}
use Rattle.digit_tuple.proofs.NumberListLemmas.{lists_of-total}
use Rattle.digit_tuple.proofs.number_lists.NumberLists.count.Goals as goal

pub overflow_add-result : goal.overflow_add-result
overflow_add-result c =
    let l = c.self.inside in
    let total = lists_of-total l.same l.width l.starts l.numbers.items c.self.invariant.within c.self.invariant.places in
    omega (arith, total, c.len.ensures, c.self.invariant.small)

pub returns : goal.returns
returns c =
    let l = c.self.inside in
    let total = lists_of-total l.same l.width l.starts l.numbers.items c.self.invariant.within c.self.invariant.places in
    let view = ap (λ (ls : List (List ℕ)). sum_by length ls) c.self.view_is in
    omega (arith, total, view, c.len.ensures)
