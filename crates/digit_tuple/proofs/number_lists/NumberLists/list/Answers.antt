use Rattle.std.proofs.Common.{◌≡◌, ◌-◌, [], length, get_or, take, drop, List, ℕ, subst, ap, ◌∙◌, sym, arith}
use Rattle.std.proofs.lemmas.List.{take_rest}
use Rattle.digit_tuple.specs.NumberLists.{AreStarts, lists_at}
use Rattle.digit_tuple.proofs.NumberListLemmas.{length-lists_of, lists_of-read_same, lists_of-read}
use Rattle.digit_tuple.proofs.number_lists.NumberLists.list.Goals as goal

-- the numbers after the width
after_digit : (numbers items : List ℕ) (width : ℕ) → numbers ≡ items → take (length numbers - width) (drop width numbers) ≡ drop width items
after_digit numbers items width is = take_rest numbers width ∙ ap (drop width) is

pub list_at-requires-clause-starts : goal.list_at-requires-clause-starts
list_at-requires-clause-starts c =
    let l = c.self.inside in
    subst (λ (ns : List ℕ). AreStarts l.starts (length ns)) (sym (after_digit c.deref-else-place-self.result.now l.numbers.items l.width c.deref-else-place-self.ensures.value)) c.self.invariant.places

pub list_at-requires-clause-place : goal.list_at-requires-clause-place
list_at-requires-clause-place c =
    let l = c.self.inside in
    omega (arith, c.requires, c.if-place-self.false, ap length c.self.view_is, length-lists_of l.same l.width l.starts l.numbers.items)

pub returns-then-place-self : goal.returns-then-place-self
returns-then-place-self c =
    let l = c.self.inside in
    ap (take l.width) c.deref.ensures.value
    ∙ sym (lists_of-read_same l.same l.width l.starts l.numbers.items c.args.place c.if-place-self.true)
    ∙ ap (λ (ls : List (List ℕ)). get_or ls c.args.place []) c.self.view_is

pub returns-else-place-self : goal.returns-else-place-self
returns-else-place-self c =
    let l = c.self.inside in
    c.list_at.ensures
    ∙ ap (λ (ns : List ℕ). get_or (lists_at l.starts ns) (c.args.place - l.same) []) (after_digit c.deref-else-place-self.result.now l.numbers.items l.width c.deref-else-place-self.ensures.value)
    ∙ sym (lists_of-read l.same l.width l.starts l.numbers.items c.args.place c.if-place-self.false)
    ∙ ap (λ (ls : List (List ℕ)). get_or ls c.args.place []) c.self.view_is
