use Rattle.std.proofs.Common.{◌≡◌, ◌+◌, ◌-◌, ◌*◌, ◌<◌, ◌≤◌, take, length, get_or, [], List, ℕ, sum_by, sym, ap, ◌∙◌, arith}
use Rattle.digit_tuple.proofs.NumberListLemmas.{length-lists_of, lists_of-start_same, lists_of-start}
use Rattle.digit_tuple.proofs.JoinedReads.{places_within}
use Rattle.digit_tuple.specs.NumberLists.{lists_of}
use Rattle.digit_tuple.proofs.number_lists.NumberLists.start.Goals as goal

-- a list ends within the numbers of all
ends_within : (lists view : List (List ℕ)) (place start : ℕ) → lists ≡ view → place < length view → start ≡ sum_by length (take place view) → sum_by length lists < 18446744073709551616 → start + length (get_or view place []) < 18446744073709551616
ends_within lists view place start is within starts small = omega (arith, places_within view place within, ap (sum_by length) is, starts, small)

pub get-requires : goal.get-requires
get-requires c =
    let l = c.self.inside in
    omega (arith, c.requires, c.if-place-self.false, ap length c.self.view_is, length-lists_of l.same l.width l.starts l.numbers.items)

-- what the call gives where the list is another
start-of : (c : goal.After-get) → c.self.inside.same * c.self.inside.width + c.get.result ≡ sum_by length (take c.args.place c.args.self.now)
start-of c =
    let l = c.self.inside in
    let numbers = l.numbers.items in
    let inside : c.args.place - l.same < length l.starts = omega (arith, c.requires, c.if-place-self.false, ap length c.self.view_is, length-lists_of l.same l.width l.starts numbers) in
    let there = lists_of-start l.same l.width l.starts numbers (c.args.place - l.same) c.self.invariant.within c.self.invariant.places inside in
    let whole : l.same + (c.args.place - l.same) ≡ c.args.place = omega (arith, c.if-place-self.false) in
    let place = ap (λ n. sum_by length (take n (lists_of l.same l.width l.starts numbers))) whole in
    let view = ap (λ (ls : List (List ℕ)). sum_by length (take c.args.place ls)) c.self.view_is in
    omega (arith, there, place, view, c.get.ensures)

pub overflow_add-result : goal.overflow_add-result
overflow_add-result c =
    let l = c.self.inside in
    let fits = ends_within (lists_of l.same l.width l.starts l.numbers.items) c.args.self.now c.args.place (l.same * l.width + c.get.result) c.self.view_is c.requires (start-of c) c.self.invariant.small in
    omega (arith, fits)

pub returns-then-place-self-clause-value : goal.returns-then-place-self-clause-value
returns-then-place-self-clause-value c =
    let l = c.self.inside in
    let before : c.args.place ≤ l.same = omega (arith, c.if-place-self.true) in
    sym (lists_of-start_same l.same l.width l.starts l.numbers.items c.args.place c.self.invariant.within before) ∙ ap (λ (ls : List (List ℕ)). sum_by length (take c.args.place ls)) c.self.view_is

pub returns-then-place-self-clause-fits : goal.returns-then-place-self-clause-fits
returns-then-place-self-clause-fits c =
    let l = c.self.inside in
    ends_within (lists_of l.same l.width l.starts l.numbers.items) c.args.self.now c.args.place (c.args.place * l.width) c.self.view_is c.requires (returns-then-place-self-clause-value c) c.self.invariant.small

pub returns-else-place-self-clause-value : goal.returns-else-place-self-clause-value
returns-else-place-self-clause-value c = start-of c

pub returns-else-place-self-clause-fits : goal.returns-else-place-self-clause-fits
returns-else-place-self-clause-fits c =
    let l = c.self.inside in
    ends_within (lists_of l.same l.width l.starts l.numbers.items) c.args.self.now c.args.place (l.same * l.width + c.get.result) c.self.view_is c.requires (start-of c) c.self.invariant.small
