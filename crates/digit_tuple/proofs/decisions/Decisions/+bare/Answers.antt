use Rattle.std.proofs.Common.{◌≡◌, ◌-◌, ℕ, List, [], drop, length, length-drop, subst, sym, ap, ◌∙◌, arith}
use Rattle.std.proofs.lemmas.List.{take_all}
use Rattle.std.specs.List.{sum_by, AllByRecursion}
use Rattle.digit_tuple.specs.Letters.{product}
use Rattle.digit_tuple.specs.Decisions.{rows_in, sizes_in, AreDigitsBelow, HasTransition, IsSound}
use Rattle.digit_tuple.specs.declared.decisions.Decisions.{Decisions}
use Rattle.digit_tuple.proofs.SparseRowLemmas.{first_weight}
use Rattle.digit_tuple.proofs.decisions.Decisions.+bare.Goals as goal

pub returns-in_ok-new-in-Some-clause-sound : goal.returns-in_ok-new-in-Some-clause-sound
returns-in_ok-new-in-Some-clause-sound t c =
    let below : Decisions = c.in_ok-new-in-Some.field-0.value in
    let boxed : below ≡ c.in_ok-below-in-Some.below = c.in_ok-new-in-Some.ensures.ok in
    let none : rows_in below ≡ [] = ap rows_in boxed ∙ c.in_ok-below-in-Some.ensures.rows in
    let weight = first_weight c.args.sizes.now c.in-Some.size.now c.args.letters c.in-Some.ensures.value c.requires.letters c.requires.some in
    let sizes : sizes_in below ≡ drop 1 c.args.sizes.now = ap sizes_in boxed ∙ c.in_ok-below-in-Some.ensures.sizes ∙ take_all (length c.args.sizes.now - 1) (drop 1 c.args.sizes.now) (omega (arith, length-drop 1 c.args.sizes.now)) in
    let digits : c.in_ok-with_capacity-in-Some.field-0 ≡ [] = c.in_ok-with_capacity-in-Some.ensures in (
      record {
        weight = weight ∙ ap product (sym sizes);
        count = ap (λ (xs : List (List ℕ)). sum_by length xs) digits ∙ sym (ap length none);
        digits = subst (AllByRecursion (AreDigitsBelow c.in-Some.size.now)) (sym digits) tt;
        filled = subst (AllByRecursion HasTransition) (sym none) tt;
      },
      subst IsSound (sym boxed) c.in_ok-below-in-Some.ensures.sound,
    )
