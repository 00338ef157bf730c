-- Looks at transitions, and what they have been paid with, where a class is cut.
use Rattle.std.proofs.Common.{◌≡◌, ◌==◌, ℕ, ◌+◌, ◌*◌, ◌^◌, ◌<◌, ◌≤◌, ◌⊎◌, inl, inr, Bool, true, false, if◌then◌else◌, List, [], ◌∷◌, ◌++◌, refl, sym, ap, ◌∙◌, subst, eq-eqb, arith}
use Rattle.std.specs.List.{Contains}
use Rattle.std.proofs.lemmas.Bool.{cases_eq, eqb-true, ne_eqb}
use Rattle.std.proofs.lemmas.List.Elements.{Contains-push_cases}
use Rattle.std.proofs.lemmas.Nat.{mul-le}
use native.Mathlib.Nat.{pow-zero}
use Rattle.residual_classes.specs.Classes.{class_of}
use Rattle.residual_classes.specs.Paid.{IsPaid}
use Rattle.residual_classes.specs.Weights.{class_size, class_sum, product_below}
use Rattle.residual_classes.proofs.ClassSumLemmas.{class_sum-has, class_sum-others, class_sum-parts}
use Rattle.residual_classes.proofs.PaidLemmas.{base_le}
use Rattle.residual_classes.proofs.WeightLemmas.{cut_costs, product_below-le, product_below-traded}

-- which part of a class is pending after a cut
pub data Choice (pending : List ℕ) (count class next size largest leaving staying : ℕ) : Type 0 where
  off_sink : class ≡ 0 → next ≡ count → size ≤ largest → Choice pending count class next size largest leaving staying
  both_wait : 0 < class → Contains pending class → next ≡ count → Choice pending count class next size largest leaving staying
  new_smaller : 0 < class → (Contains pending class → ⊥) → next ≡ count → leaving ≤ staying → Choice pending count class next size largest leaving staying
  old_smaller : 0 < class → (Contains pending class → ⊥) → next ≡ class → staying ≤ leaving → Choice pending count class next size largest leaving staying

-- what is traded at one state
traded : (a b k w lead : ℕ) (x y : Bool) → (x ≡ true → k ≤ w) → (y ≡ true → k ≤ w) → (x ≡ true → y ≡ true → ⊥)
    → (if x then a else (if y then b else w)) ^ lead * k ^ ((if x then lead else 0) + (if y then lead else 0)) ≤ w ^ lead * (a ^ (if x then lead else 0) * b ^ (if y then lead else 0))
traded a b k w lead true true here there apart = absurd (apart refl refl)
traded a b k w lead true false here there apart =
    let same : lead + 0 ≡ lead = omega arith in
    omega (arith, ap (λ (n : ℕ). a ^ lead * k ^ n) same, ap (λ (n : ℕ). w ^ lead * (a ^ lead * n)) (pow-zero b), mul-le (a ^ lead) (k ^ lead) (a ^ lead) (w ^ lead) (omega arith) (base_le k w lead (here refl)), commuted (a ^ lead) (w ^ lead))
  where
    commuted : (m n : ℕ) → m * n ≡ n * (m * 1)
    commuted m n = omega arith
traded a b k w lead false true here there apart =
    let same : 0 + lead ≡ lead = omega arith in
    omega (arith, ap (λ (n : ℕ). b ^ lead * k ^ n) same, ap (λ (n : ℕ). w ^ lead * (n * b ^ lead)) (pow-zero a), mul-le (b ^ lead) (k ^ lead) (b ^ lead) (w ^ lead) (omega arith) (base_le k w lead (there refl)), commuted (b ^ lead) (w ^ lead))
  where
    commuted : (m n : ℕ) → m * n ≡ n * (1 * m)
    commuted m n = omega arith
traded a b k w lead false false here there apart = omega (arith, ap (λ (n : ℕ). w ^ lead * n) (pow-zero k), ap (λ (n : ℕ). w ^ lead * (n * b ^ 0)) (pow-zero a), ap (λ (n : ℕ). w ^ lead * (1 * n)) (pow-zero b))

module _ (states : ℕ) (leading : ℕ → ℕ) (transitions largest : ℕ) (new old pending waiting : List ℕ) (class count next looks : ℕ) (made : class < count)
    (fresh : (q : ℕ) → q < states → class_of old q < count) (given : (q : ℕ) → q < states → ((class_of new q ≡ count) × (class_of old q ≡ class)) ⊎ (class_of new q ≡ class_of old q))
    (none : Contains pending count → ⊥) (pushed : waiting ≡ pending ++ next ∷ []) (one_of : (next ≡ count) ⊎ (next ≡ class)) (before : IsPaid states leading transitions largest old pending looks) where
  abbrev worth_cut : ℕ → ℕ → ℕ → ℕ
  worth_cut a b q = if class_of new q == count then a else (if class_of new q == class then b else before.worth q)

  on_new : (a b q : ℕ) → class_of new q ≡ count → worth_cut a b q ≡ a
  on_new a b q is = ap (λ (x : Bool). if x then a else (if class_of new q == class then b else before.worth q)) (eq-eqb (class_of new q) count is)

  on_old : (a b q : ℕ) → class_of new q ≡ class → worth_cut a b q ≡ b
  on_old a b q is = ap (λ (x : Bool). if x then a else (if class_of new q == class then b else before.worth q)) (ne_eqb (class_of new q) count (λ at. omega (arith, at, is, made)))
      ∙ ap (λ (x : Bool). if x then b else before.worth q) (eq-eqb (class_of new q) class is)

  on_others : (a b q : ℕ) → (class_of new q ≡ count → ⊥) → (class_of new q ≡ class → ⊥) → worth_cut a b q ≡ before.worth q
  on_others a b q off other = ap (λ (x : Bool). if x then a else (if class_of new q == class then b else before.worth q)) (ne_eqb (class_of new q) count off)
      ∙ ap (λ (x : Bool). if x then b else before.worth q) (ne_eqb (class_of new q) class other)

  -- where a state has come from
  came : (q : ℕ) → q < states → class_of new q ≡ count → class_of old q ≡ class
  came q small is = by (given q small)
    where
      by : ((class_of new q ≡ count) × (class_of old q ≡ class)) ⊎ (class_of new q ≡ class_of old q) → class_of old q ≡ class
      by (inl gone) = gone.1
      by (inr stays) = absurd (omega (arith, fresh q small, stays, is))

  stayed : (q : ℕ) → q < states → (class_of new q ≡ count → ⊥) → class_of new q ≡ class_of old q
  stayed q small off = by (given q small)
    where
      by : ((class_of new q ≡ count) × (class_of old q ≡ class)) ⊎ (class_of new q ≡ class_of old q) → class_of new q ≡ class_of old q
      by (inl gone) = absurd (off gone.0)
      by (inr stays) = stays

  waits : (k : ℕ) → Contains waiting k → Contains pending k ⊎ (next ≡ k)
  waits k there = Contains-push_cases pending next k (subst (λ (xs : List ℕ). Contains xs k) pushed there)

  waits_other : (k : ℕ) → (k ≡ count → ⊥) → (k ≡ class → ⊥) → Contains waiting k → Contains pending k
  waits_other k off other there = by (waits k there) one_of
    where
      by : Contains pending k ⊎ (next ≡ k) → (next ≡ count) ⊎ (next ≡ class) → Contains pending k
      by (inl was) which = was
      by (inr is) (inl at) = absurd (off (sym is ∙ at))
      by (inr is) (inr at) = absurd (other (sym is ∙ at))

  waits_new : Contains waiting count → next ≡ count
  waits_new there = by (waits count there)
    where
      by : Contains pending count ⊎ (next ≡ count) → next ≡ count
      by (inl was) = absurd (none was)
      by (inr is) = is

  size-others : (q : ℕ) → q < states → (class_of new q ≡ count → ⊥) → (class_of new q ≡ class → ⊥) → class_size states new (class_of new q) ≡ class_size states old (class_of old q)
  size-others q small off other = class_sum-others states (λ p. 1) new old class count made fresh given (class_of new q) other off ∙ ap (class_size states old) (stayed q small off)

  -- worths that are enough
  module _ (a b : ℕ) (sink : class ≡ 0 → 4 * largest ≤ b) (new_live : class_size states new count ≤ a) (new_waits : next ≡ count → 4 * class_size states new count ≤ a)
      (old_live : 0 < class → class_size states new class ≤ b) (old_waits : 0 < class → Contains pending class ⊎ (next ≡ class) → 4 * class_size states new class ≤ b)
      (fair : product_below states (λ q. worth_cut a b q ^ leading q) ≤ product_below states (λ q. before.worth q ^ leading q)) where
    off : (q : ℕ) → q < states → class_of new q ≡ 0 → (class_of new q ≡ class) ⊎ (class_of new q ≡ class → ⊥) → 4 * largest ≤ worth_cut a b q
    off q small is (inl at) = omega (arith, sink (sym at ∙ is), on_old a b q at)
    off q small is (inr other) =
        let older : class_of new q ≡ count → ⊥ = λ at. omega (arith, at, is, made) in
        omega (arith, before.off q small (sym (stayed q small older) ∙ is), on_others a b q older other)

    live : (q : ℕ) → q < states → 0 < class_of new q → (class_of new q ≡ count) ⊎ (class_of new q ≡ count → ⊥) → (class_of new q ≡ class) ⊎ (class_of new q ≡ class → ⊥) → class_size states new (class_of new q) ≤ worth_cut a b q
    live q small above (inl is) cases = omega (arith, on_new a b q is, ap (class_size states new) is, new_live)
    live q small above (inr older) (inl is) = omega (arith, on_old a b q is, ap (class_size states new) is, old_live (omega (arith, above, is)))
    live q small above (inr older) (inr other) = omega (arith, on_others a b q older other, size-others q small older other, before.live q small (omega (arith, above, stayed q small older)))

    waiting_worth : (q : ℕ) → q < states → 0 < class_of new q → Contains waiting (class_of new q) → (class_of new q ≡ count) ⊎ (class_of new q ≡ count → ⊥) → (class_of new q ≡ class) ⊎ (class_of new q ≡ class → ⊥) → 4 * class_size states new (class_of new q) ≤ worth_cut a b q
    waiting_worth q small above there (inl is) cases = omega (arith, on_new a b q is, ap (class_size states new) is, new_waits (waits_new (subst (Contains waiting) is there)))
    waiting_worth q small above there (inr older) (inl is) = omega (arith, on_old a b q is, ap (class_size states new) is, old_waits (omega (arith, above, is)) (waits class (subst (Contains waiting) is there)))
    waiting_worth q small above there (inr older) (inr other) = omega (
      arith,
      on_others a b q older other,
      size-others q small older other,
      before.waiting q small (omega (arith, above, stayed q small older)) (subst (Contains pending) (stayed q small older) (waits_other (class_of new q) older other there)),
    )

    IsPaid-worth : IsPaid states leading transitions largest new waiting looks
    IsPaid-worth = record {
      worth = worth_cut a b;
      off = λ q small is. off q small is (cases_eq (class_of new q) class);
      live = λ q small above. live q small above (cases_eq (class_of new q) count) (cases_eq (class_of new q) class);
      waiting = λ q small above there. waiting_worth q small above there (cases_eq (class_of new q) count) (cases_eq (class_of new q) class);
      paid = omega (arith, before.paid, mul-le (4 ^ looks) (product_below states (λ q. worth_cut a b q ^ leading q)) (4 ^ looks) (product_below states (λ q. before.worth q ^ leading q)) (omega arith) fair);
    }

  sizes : class_size states new class + class_size states new count ≡ class_size states old class
  sizes = class_sum-parts states (λ p. 1) new old class count made fresh given

  -- where no state is worth more
  no_more : (a b : ℕ) → ((q : ℕ) → q < states → class_of old q ≡ class → (a ≤ before.worth q) × (b ≤ before.worth q)) → product_below states (λ q. worth_cut a b q ^ leading q) ≤ product_below states (λ q. before.worth q ^ leading q)
  no_more a b low = product_below-le (λ q. worth_cut a b q ^ leading q) (λ q. before.worth q ^ leading q) states (λ q small. base_le (worth_cut a b q) (before.worth q) (leading q) (by q small (cases_eq (class_of new q) count) (cases_eq (class_of new q) class)))
    where
      by : (q : ℕ) → q < states → (class_of new q ≡ count) ⊎ (class_of new q ≡ count → ⊥) → (class_of new q ≡ class) ⊎ (class_of new q ≡ class → ⊥) → worth_cut a b q ≤ before.worth q
      by q small (inl is) cases = omega (arith, on_new a b q is, (low q small (came q small is)).0)
      by q small (inr older) (inl is) = omega (arith, on_old a b q is, (low q small (sym (stayed q small older) ∙ is)).1)
      by q small (inr older) (inr other) = omega (arith, on_others a b q older other)

  -- where worths are traded
  fair_trade : (a b : ℕ) → 0 < class → 0 < class_size states old class → a ^ class_sum states leading new count * b ^ class_sum states leading new class ≤ class_size states old class ^ (class_sum states leading new count + class_sum states leading new class)
      → product_below states (λ q. worth_cut a b q ^ leading q) ≤ product_below states (λ q. before.worth q ^ leading q)
  fair_trade a b above some fair = product_below-traded (λ q. before.worth q ^ leading q) (λ q. worth_cut a b q ^ leading q) (λ q. if class_of new q == count then leading q else 0) (λ q. if class_of new q == class then leading q else 0) a b (class_size states old class) states some
      (λ q small. traded a b (class_size states old class) (before.worth q) (leading q) (class_of new q == count) (class_of new q == class)
      (λ is. held q small (came q small (eqb-true (class_of new q) count is)))
      (λ is. held q small (sym (stayed q small (λ at. omega (arith, at, eqb-true (class_of new q) class is, made))) ∙ eqb-true (class_of new q) class is))
      (λ is also. omega (arith, eqb-true (class_of new q) count is, eqb-true (class_of new q) class also, made))) fair
    where
      held : (q : ℕ) → q < states → class_of old q ≡ class → class_size states old class ≤ before.worth q
      held q small is = omega (arith, before.live q small (omega (arith, is, above)), ap (class_size states old) is)

  pub IsPaid-cut : (0 < class → (q : ℕ) × (q < states) × (class_of old q ≡ class)) → Choice pending count class next (class_size states new count) largest (class_sum states leading new count) (class_sum states leading new class) → IsPaid states leading transitions largest new waiting looks
  IsPaid-cut has (off_sink sink is fits) = IsPaid-worth (4 * class_size states new count) (4 * largest) (λ at. omega arith) (omega arith) (λ at. omega arith) (λ above. absurd (omega (arith, above, sink))) (λ above. absurd (omega (arith, above, sink)))
      (no_more (4 * class_size states new count) (4 * largest) (λ q small at. (omega (arith, before.off q small (at ∙ sink), fits), before.off q small (at ∙ sink))))
  IsPaid-cut has (both_wait above there is) = IsPaid-worth (4 * class_size states new count) (4 * class_size states new class) (λ at. absurd (omega (arith, at, above))) (omega arith) (λ at. omega arith) (λ at. omega arith) (λ at cases. omega arith)
      (no_more (4 * class_size states new count) (4 * class_size states new class) (λ q small at.
      let worth = before.waiting q small (omega (arith, at, above)) (subst (Contains pending) (sym at) there) in
      (omega (arith, worth, sizes, ap (class_size states old) at), omega (arith, worth, sizes, ap (class_size states old) at))))
  IsPaid-cut has (new_smaller above not_there is le) = IsPaid-worth (4 * class_size states new count) (class_size states new class) (λ at. absurd (omega (arith, at, above))) (omega arith) (λ at. omega arith) (λ at. omega arith) (λ at cases. absurd (neither cases))
      (fair_trade (4 * class_size states new count) (class_size states new class) above (some (has above))
      (omega (arith, cut_costs (class_size states new count) (class_size states new class) (class_sum states leading new count) (class_sum states leading new class) le, ap (λ (k : ℕ). k ^ (class_sum states leading new count + class_sum states leading new class)) turned)))
    where
      turned : class_size states new count + class_size states new class ≡ class_size states old class
      turned = omega (arith, sizes)

      neither : Contains pending class ⊎ (next ≡ class) → ⊥
      neither (inl there) = not_there there
      neither (inr at) = omega (arith, at, is, made)

      some : (q : ℕ) × (q < states) × (class_of old q ≡ class) → 0 < class_size states old class
      some found = omega (arith, class_sum-has states (λ p. 1) old found.0 found.1, ap (class_size states old) found.2)
  IsPaid-cut has (old_smaller above not_there is le) = IsPaid-worth (class_size states new count) (4 * class_size states new class) (λ at. absurd (omega (arith, at, above))) (omega arith) (λ at. absurd (omega (arith, at, is, made))) (λ at. omega arith) (λ at cases. omega arith)
      (fair_trade (class_size states new count) (4 * class_size states new class) above (some (has above))
      (omega (
        arith,
        cut_costs (class_size states new class) (class_size states new count) (class_sum states leading new class) (class_sum states leading new count) le,
        ap (λ (k : ℕ). k ^ (class_sum states leading new class + class_sum states leading new count)) sizes,
        ap (λ (k : ℕ). class_size states old class ^ k) (commuted (class_sum states leading new class) (class_sum states leading new count)),
        swapped ((4 * class_size states new class) ^ class_sum states leading new class) (class_size states new count ^ class_sum states leading new count),
      )))
    where
      commuted : (m n : ℕ) → m + n ≡ n + m
      commuted m n = omega arith

      swapped : (m n : ℕ) → m * n ≡ n * m
      swapped m n = omega arith

      some : (q : ℕ) × (q < states) × (class_of old q ≡ class) → 0 < class_size states old class
      some found = omega (arith, class_sum-has states (λ p. 1) old found.0 found.1, ap (class_size states old) found.2)
