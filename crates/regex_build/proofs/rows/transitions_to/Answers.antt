-- The transitions of one place more, and at the end in order.
use Rattle.std.proofs.Common.{◌<◌, ◌≤◌, ◌-◌, ℕ, length, get_or, sym, subst, arith}
use Rattle.std.specs.Prelude.{AllPairs}
use Rattle.std.proofs.lemmas.List.{get_or_default}
use Rattle.std.proofs.lemmas.List.Filters.{dedup_is}
use Rattle.std.proofs.lemmas.List.Elements.{Contains-get_or}
use Rattle.digit_tuple.specs.Automaton.{IsBefore}
use Rattle.digit_tuple.proofs.TransitionLemmas.{AllPairs-dedup, transitions_decide}
use Rattle.regex_build.specs.declared.codes.LetterRange.{LetterRange}
use Rattle.regex_build.proofs.RowSteps.{same, transition_to_none, transition_to_more, transition_to_all}
use Rattle.regex_build.proofs.rows.transitions_to.Goals as goal

pub overflow_sub-place : goal.overflow_sub-place
overflow_sub-place c =
    let place : ℕ = get_or c.args.next.now c.loop-place.place-index 0 in
    let within = c.requires place (Contains-get_or c.args.next.now c.loop-place.place-index 0 c.loop-place-test.true) in
    let low : 0 < place = within.0 in
    omega arith

pub bounds-ranges-place : goal.bounds-ranges-place
bounds-ranges-place c =
    let place : ℕ = get_or c.args.next.now c.loop-place.place-index 0 in
    let within = c.requires place (Contains-get_or c.args.next.now c.loop-place.place-index 0 c.loop-place-test.true) in
    let low : 0 < place = within.0 in
    let high : place ≤ length c.args.ranges.now = within.1 in
    omega arith

pub loop-place-init : goal.loop-place-init
loop-place-init c = transition_to_none c.args.ranges.now c.new-transitions.result.items c.new-transitions.ensures.items

pub loop-place-preserved : goal.loop-place-preserved
loop-place-preserved c =
    let place : ℕ = get_or c.args.next.now c.loop-place.place-index 0 in
    let within = c.requires place (Contains-get_or c.args.next.now c.loop-place.place-index 0 c.loop-place-test.true) in
    let low : 0 < place = within.0 in
    let high : place ≤ length c.args.ranges.now = within.1 in
    let none : LetterRange = record { first = 0; end = 0 } in
    let range : LetterRange = get_or c.args.ranges.now (place - 1) none in
    transition_to_more c.args.ranges.now c.args.next.now c.loop-place.place-index place range c.loop-place.transitions.items c.push_transitions.new.transitions.items
    c.loop-place-test.true (get_or_default c.args.next.now c.loop-place.place-index 0 place c.loop-place-test.true) low high (get_or_default c.args.ranges.now (place - 1) none range (omega arith)) c.loop-place.invariant c.in_ok-push_transitions.ensures

pub returns-clause-ascending : goal.returns-clause-ascending
returns-clause-ascending c =
    subst (AllPairs IsBefore) (sym (dedup_is same c.sort.new.self.items c.dedup.new.self.items c.dedup.ensures.filtered))
    (AllPairs-dedup same transitions_decide c.sort.new.self.items c.in_ok-sort.ensures.sorted)

pub returns-clause-transitions : goal.returns-clause-transitions
returns-clause-transitions c =
    transition_to_all c.args.ranges.now c.args.next.now c.loop-place.place-index c.loop-place.transitions.items c.sort.new.self.items c.dedup.new.self.items c.loop-place-test.false c.in_ok-sort.ensures.permutation
    (dedup_is same c.sort.new.self.items c.dedup.new.self.items c.dedup.ensures.filtered) c.loop-place.invariant
