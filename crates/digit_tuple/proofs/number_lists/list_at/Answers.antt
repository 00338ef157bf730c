use Rattle.std.proofs.Common.{◌≡◌, ◌+◌, suc, ℕ, List, drop, length, get_or, ap, ◌∙◌, sym, arith, add-one}
use Rattle.std.specs.List.{slice_range}
use Rattle.digit_tuple.specs.NumberLists.{first_place}
use Rattle.digit_tuple.proofs.NumberListLemmas.{lists_at-read, AreAscendingPlaces-end, AreAscendingPlaces-next}
use Rattle.digit_tuple.proofs.number_lists.list_at.Goals as goal

-- where the list ends
next-place : (starts : List ℕ) (place length end : ℕ) → end ≡ first_place (drop (place + 1) starts) length → end ≡ first_place (drop (suc place) starts) length
next-place starts place length end is = is ∙ ap (λ n. first_place (drop n starts) length) (add-one place)

pub part-requires-clause-order : goal.part-requires-clause-order
part-requires-clause-order c =
    let starts = c.args.starts.now in
    let end = next-place starts c.args.place (length c.args.numbers.now) c.end_of-end.result c.end_of-end.ensures in
    omega (arith, end, c.get-start.ensures, AreAscendingPlaces-next starts (length c.args.numbers.now) c.args.place 0 c.requires.starts.ascending c.requires.place)

pub part-requires-clause-within : goal.part-requires-clause-within
part-requires-clause-within c =
    let starts = c.args.starts.now in
    let end = next-place starts c.args.place (length c.args.numbers.now) c.end_of-end.result c.end_of-end.ensures in
    omega (arith, end, AreAscendingPlaces-end starts (length c.args.numbers.now) (suc c.args.place) c.requires.starts.ascending)

pub returns : goal.returns
returns c =
    let starts = c.args.starts.now in
    let numbers = c.args.numbers.now in
    c.part.ensures
    ∙ ap (λ n. slice_range numbers n c.end_of-end.result) c.get-start.ensures
    ∙ ap (slice_range numbers (get_or starts c.args.place 0)) (next-place starts c.args.place (length numbers) c.end_of-end.result c.end_of-end.ensures)
    ∙ sym (lists_at-read starts numbers c.args.place 0 c.requires.place)
