use Rattle.std.proofs.Common.{pos, ℤ, ◌<ℤ◌, ◌-◌, get_or, subst, arith, refl}
use Rattle.std.proofs.lemmas.Int.{ints}
use Rattle.std.proofs.lemmas.List.{get_or_default}
use Rattle.std.proofs.lemmas.List.Sorted.{all_adjacent_more}
use Rattle.std.proofs.lemmas.Bool.{false≢true}
use Rattle.digit_tuple.proofs.SetLemmas.{IsAscending-from_adjacent}
use Rattle.digit_tuple.proofs.letter_set.is_letter_set.Goals as goal

pub returns-then-numbers-place : goal.returns-then-numbers-place
returns-then-numbers-place c = (
  λ h. absurd (false≢true h),
  λ set.
      let up = set.ascending (c.loop-place.place - 1) c.loop-place.place (pos 0) (omega arith) (omega arith) in
      absurd (omega (arith, ints, up, c.if-numbers-place.true)),
)

pub returns : goal.returns
returns c =
    (λ h. record { ascending = IsAscending-from_adjacent c.args.numbers.now (λ k d below. c.loop-place.invariant k d (omega arith)); small = omega arith }, λ h. refl)

pub loop-place-preserved : goal.loop-place-preserved
loop-place-preserved c =
    let numbers = c.args.numbers.now in
    let place = c.loop-place.place in
    let less : get_or numbers (place - 1) (pos 0) <ℤ get_or numbers place (pos 0) = omega (arith, ints, c.if-numbers-place.false) in
    all_adjacent_more numbers (λ x y. x <ℤ y) place (omega (arith, c.loop-place.auto.place)) c.loop-place.invariant
    (λ d. subst (λ (y : ℤ). get_or numbers (place - 1) d <ℤ y) (get_or_default numbers place (pos 0) d (omega (arith, c.loop-place-test.true)))
    (subst (λ (x : ℤ). x <ℤ get_or numbers place (pos 0)) (get_or_default numbers (place - 1) (pos 0) d (omega (arith, c.loop-place-test.true))) less))
