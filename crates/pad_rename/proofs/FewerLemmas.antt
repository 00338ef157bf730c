-- Lists without repetition whose elements all are in another list: they are no longer, and their product is no larger.
use Rattle.std.proofs.Common.{◌≡◌, ◌≢◌, ℕ, zero, suc, ◌+◌, ◌*◌, ◌<◌, ◌≤◌, ◌⊎◌, inl, inr, List, [], ◌∷◌, length, map, get_or, sym, ap, ◌∙◌, subst, arith}
use Rattle.std.specs.List.{All, AllPairs, Contains}
use Rattle.std.proofs.lemmas.Bool.{cases_lt}
use Rattle.std.proofs.lemmas.Nat.{mul-le}
use Rattle.std.proofs.lemmas.List.Elements.{All-contains, All-head, All-tail, Contains-get_or}
use Rattle.digit_tuple.proofs.MemberLemmas.{Contains-head, Contains-tail, Contains-cases, Contains-map, Contains-from_map, AllPairs-head, AllPairs-tail}
use Rattle.digit_tuple.specs.Letters.{product}
use Rattle.digit_tuple.proofs.LetterLemmas.{positive_right}

-- a product with a factor 0
pub product-zero : (ns : List ℕ) → Contains ns 0 → product ns ≡ 0
product-zero [] found = absurd (omega (arith, found.1))
product-zero (n ∷ ns) found = by (Contains-cases n ns 0 found) (λ there. product-zero ns there)
  where
    by : (n ≡ 0) ⊎ Contains ns 0 → (Contains ns 0 → product ns ≡ 0) → n * product ns ≡ 0
    by (inl is) rest = ap (λ k. k * product ns) is ∙ omega arith
    by (inr there) rest = ap (λ k. n * k) (rest there) ∙ omega arith

-- a product that is 0 has a factor 0
pub zero_factor : (ns : List ℕ) → product ns ≡ 0 → Contains ns 0
zero_factor [] none = absurd (omega (arith, none))
zero_factor (zero ∷ ns) none = Contains-head 0 ns
zero_factor (suc n ∷ ns) none = Contains-tail (suc n) ns 0 (zero_factor ns (omega (arith, none)))

module _ {X : Type 0} (f : X → ℕ) where
  -- the list has an element less, and all others
  record IsWithout (xs : List X) (x : X) (ys : List X) : Type 0 where
    count : length ys + 1 ≡ length xs
    weight : product (map f xs) ≡ f x * product (map f ys)
    others : (y : X) → Contains xs y → y ≢ x → Contains ys y

  take_out : (xs : List X) (x : X) → Contains xs x → (ys : List X) × IsWithout xs x ys
  take_out [] x found = absurd (omega (arith, found.1))
  take_out (z ∷ xs) x found = by (Contains-cases z xs x found) (λ there. take_out xs x there)
    where
      here : z ≡ x → IsWithout (z ∷ xs) x xs
      here is = record {
        count = omega arith;
        weight = ap (λ y. f y * product (map f xs)) is;
        others = λ y there other. elim (Contains-cases z xs y there) [
          | inl same ↦ absurd (other (sym same ∙ is))
          | inr rest ↦ rest
        ];
      }

      further : (ys : List X) → IsWithout xs x ys → IsWithout (z ∷ xs) x (z ∷ ys)
      further ys rest = record {
        count = omega (arith, rest.count);
        weight = omega (arith, ap (λ n. f z * n) rest.weight);
        others = λ y there other. elim (Contains-cases z xs y there) [
          | inl same ↦ subst (λ v. Contains (z ∷ ys) v) same (Contains-head z ys)
          | inr inside ↦ Contains-tail z ys y (rest.others y inside other)
        ];
      }

      by : (z ≡ x) ⊎ Contains xs x → (Contains xs x → (ys : List X) × IsWithout xs x ys) → (ys : List X) × IsWithout (z ∷ xs) x ys
      by (inl is) rest = (xs, here is)
      by (inr there) rest = let r = rest there in (z ∷ r.0, further r.0 r.1)

  -- what is said of some of a list's elements, each once
  pub record IsFewer (some all : List X) : Type 0 where
    pub count : length some ≤ length all
    pub weight : 0 < product (map f all) → product (map f some) ≤ product (map f all)

  pub fewer : (some all : List X) → AllPairs (λ x y. x ≢ y) some → All (Contains all) some → IsFewer some all
  fewer [] all apart within = record { count = omega arith; weight = λ positive. positive }
  fewer (x ∷ some) all apart within =
      let out = take_out all x (All-head (Contains all) x some within) in
      let rest = fewer some out.0 (AllPairs-tail (λ x y. x ≢ y) x some apart)
      (λ i d inside. out.1.others (get_or some i d) (All-tail (Contains all) x some within i d inside) (λ same. AllPairs-head (λ x y. x ≢ y) x some (get_or some i d) apart (Contains-get_or some i d inside) (sym same))) in
      record {
        count = omega (arith, rest.count, out.1.count);
        weight = λ positive.
            let left = positive_right (f x) (product (map f out.0)) (subst (λ n. 0 < n) out.1.weight positive) in
            let less = mul-le (f x) (product (map f some)) (f x) (product (map f out.0)) (omega arith) (rest.weight left) in
            omega (arith, less, out.1.weight);
      }

  -- where each element of the list is one of these, their product is no larger at all
  pub product-fewer : (some all : List X) → AllPairs (λ x y. x ≢ y) some → All (Contains all) some → All (Contains some) all → product (map f some) ≤ product (map f all)
  product-fewer some all apart within covered = by (cases_lt 0 (product (map f all)))
    where
      by : (0 < product (map f all)) ⊎ (product (map f all) ≤ 0) → product (map f some) ≤ product (map f all)
      by (inl positive) = (fewer some all apart within).weight positive
      by (inr none) =
          let factor = Contains-from_map f all 0 (zero_factor (map f all) (omega (arith, none))) in
          let there : Contains some factor.0 = All-contains (Contains some) all factor.0 covered factor.1 in
          let zeroed : product (map f some) ≡ 0 = product-zero (map f some) (subst (λ n. Contains (map f some) n) factor.2 (Contains-map f some factor.0 there)) in
          omega (arith, zeroed)
