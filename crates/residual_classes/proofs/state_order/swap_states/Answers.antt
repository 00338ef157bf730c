use Rattle.std.proofs.Common.{◌≡◌, ℕ, ◌<◌, ◌⊎◌, inl, inr, List, length, get_or, sym, ap, ◌∙◌, arith}
use Rattle.std.specs.List.{swap}
use Rattle.std.proofs.lemmas.Bool.{cases_eq}
use Rattle.std.proofs.lemmas.List.{get_or_default}
use Rattle.std.proofs.lemmas.List.Edits.{Swapped, swapped_from_swap, length-swap}
use Rattle.residual_classes.specs.StateOrder.{AreInverse}
use Rattle.residual_classes.proofs.state_order.swap_states.Goals as goal

module _ (states places new at : List ℕ) (i j : ℕ) (order : AreInverse states places) (low : i < length states) (high : j < length states)
    (new_is : new ≡ swap states i j) (at_is : at ≡ swap places (get_or states i 0) (get_or states j 0)) where
  abbrev a : ℕ
  a = get_or states i 0

  abbrev b : ℕ
  b = get_or states j 0

  order_changed : Swapped (λ k. get_or states k 0) (λ k. get_or new k 0) i j
  order_changed = swapped_from_swap states new i j 0 low high new_is

  places_changed : Swapped (λ k. get_or places k 0) (λ k. get_or at k 0) a b
  places_changed = swapped_from_swap places at a b 0 (omega (arith, order.width, order.states_within i low)) (omega (arith, order.width, order.states_within j high)) at_is

  wide : length new ≡ length states
  wide = ap length new_is ∙ length-swap states i j

  -- two states change their places, and their places are written
  AreInverse-swap : AreInverse new at
  AreInverse-swap = record {
    width = ap length at_is ∙ length-swap places a b ∙ order.width ∙ sym wide;
    states_within = λ k less. omega (arith, wide, state k (omega (arith, less, wide)) (cases_eq k i) (cases_eq k j));
    places_within = λ q less. omega (arith, wide, place q (omega (arith, less, wide)) (cases_eq q a) (cases_eq q b));
    placed = λ k less. placed k (omega (arith, less, wide)) (cases_eq k i) (cases_eq k j);
    state_back = λ q less. back q (omega (arith, less, wide)) (cases_eq q a) (cases_eq q b);
  }
    where
      state : (k : ℕ) → k < length states → (k ≡ i) ⊎ (k ≡ i → ⊥) → (k ≡ j) ⊎ (k ≡ j → ⊥) → get_or new k 0 < length states
      state k less (inl is) _ = omega (arith, ap (λ n. get_or new n 0) is, order_changed.0, order.states_within j high)
      state k less (inr one) (inl is) = omega (arith, ap (λ n. get_or new n 0) is, order_changed.1, order.states_within i low)
      state k less (inr one) (inr other) = omega (arith, order_changed.2 k one other, order.states_within k less)

      place : (q : ℕ) → q < length states → (q ≡ a) ⊎ (q ≡ a → ⊥) → (q ≡ b) ⊎ (q ≡ b → ⊥) → get_or at q 0 < length states
      place q less (inl is) _ = omega (arith, ap (λ n. get_or at n 0) is, places_changed.0, order.placed j high, high)
      place q less (inr one) (inl is) = omega (arith, ap (λ n. get_or at n 0) is, places_changed.1, order.placed i low, low)
      place q less (inr one) (inr other) = omega (arith, places_changed.2 q one other, order.places_within q less)

      placed : (k : ℕ) → k < length states → (k ≡ i) ⊎ (k ≡ i → ⊥) → (k ≡ j) ⊎ (k ≡ j → ⊥) → get_or at (get_or new k 0) 0 ≡ k
      placed k less (inl is) _ = ap (λ n. get_or at (get_or new n 0) 0) is ∙ ap (λ n. get_or at n 0) order_changed.0 ∙ places_changed.1 ∙ order.placed i low ∙ sym is
      placed k less (inr one) (inl is) = ap (λ n. get_or at (get_or new n 0) 0) is ∙ ap (λ n. get_or at n 0) order_changed.1 ∙ places_changed.0 ∙ order.placed j high ∙ sym is
      placed k less (inr one) (inr other) =
          ap (λ n. get_or at n 0) (order_changed.2 k one other)
          ∙ places_changed.2 (get_or states k 0) (λ is. one (sym (order.placed k less) ∙ ap (λ n. get_or places n 0) is ∙ order.placed i low))
          (λ is. other (sym (order.placed k less) ∙ ap (λ n. get_or places n 0) is ∙ order.placed j high))
          ∙ order.placed k less

      back : (q : ℕ) → q < length states → (q ≡ a) ⊎ (q ≡ a → ⊥) → (q ≡ b) ⊎ (q ≡ b → ⊥) → get_or new (get_or at q 0) 0 ≡ q
      back q less (inl is) _ = ap (λ n. get_or new (get_or at n 0) 0) is ∙ ap (λ n. get_or new n 0) (places_changed.0 ∙ order.placed j high) ∙ order_changed.1 ∙ sym is
      back q less (inr one) (inl is) = ap (λ n. get_or new (get_or at n 0) 0) is ∙ ap (λ n. get_or new n 0) (places_changed.1 ∙ order.placed i low) ∙ order_changed.0 ∙ sym is
      back q less (inr one) (inr other) =
          ap (λ n. get_or new n 0) (places_changed.2 q one other)
          ∙ order_changed.2 (get_or places q 0) (λ is. one (sym (order.state_back q less) ∙ ap (λ n. get_or states n 0) is))
          (λ is. other (sym (order.state_back q less) ∙ ap (λ n. get_or states n 0) is))
          ∙ order.state_back q less

pub swap-requires-clause-i_in_bounds : goal.swap-requires-clause-i_in_bounds
swap-requires-clause-i_in_bounds c =
    omega (arith, c.index.ensures ∙ get_or_default c.args.states.now.items c.args.first c.index.result.now 0 c.requires.first, c.requires.order.states_within c.args.first c.requires.first, c.requires.order.width)

pub swap-requires-clause-j_in_bounds : goal.swap-requires-clause-j_in_bounds
swap-requires-clause-j_in_bounds c =
    omega (arith, c.index-2.ensures ∙ get_or_default c.args.states.now.items c.args.second c.index-2.result.now 0 c.requires.second, c.requires.order.states_within c.args.second c.requires.second, c.requires.order.width)

pub returns-clause-order : goal.returns-clause-order
returns-clause-order c =
    let states = c.args.states.now.items in
    let places = c.args.places.now.items in
    let first = c.args.first in
    let second = c.args.second in
    let one = c.index.ensures ∙ get_or_default states first c.index.result.now 0 c.requires.first in
    let other = c.index-2.ensures ∙ get_or_default states second c.index-2.result.now 0 c.requires.second in
    AreInverse-swap states places c.swap-2.new.self.items c.swap.new.self.items first second c.requires.order c.requires.first c.requires.second c.swap-2.ensures.items
    (c.swap.ensures.items ∙ ap (λ (n : ℕ). swap places n c.index-2.result.now) one ∙ ap (λ (n : ℕ). swap places (get_or states first 0) n) other)
