-- Sets of numbers in ascending order.
use Rattle.std.proofs.Common.{◌≡◌, ℕ, ℤ, pos, ◌+◌, ◌<◌, ◌<ℤ◌, List, length, get_or, false, arith, refl, sym, inl, inr}
use Rattle.std.specs.List.{AllAdjacentBelow, Contains}
use Rattle.std.specs.List.Sorted.{IsSortedBy, IsPartitionPoint, IsNonDecreasingBy}
use Rattle.std.specs.Ordering.{int_cmp, is_lt, MatchOrdering, ordering_index}
use Rattle.std.specs.declared.cmp.Ordering.{Ordering}
use Rattle.std.specs.declared.cmp.Ordering.TheVariants.{Less, Equal, Greater}
use Rattle.std.specs.Cmp.{int_cmp_total}
use Rattle.std.proofs.lemmas.Int.{ints}
use Rattle.std.proofs.lemmas.Cmp.{int_ranked}
use Rattle.std.proofs.lemmas.Bool.{cases_order, cases_lt}
use Rattle.std.proofs.lemmas.List.Sorted.{searchable_from_sorted}
use Rattle.digit_tuple.specs.Sets.{IsAscending}
use Rattle.digit_tuple.proofs.OrderLemmas.{AllPairs-from_adjacent}

-- a member has one place
pub one_place : (xs : List ℤ) (i j : ℕ) → IsAscending xs → i < length xs → j < length xs → get_or xs i (pos 0) ≡ get_or xs j (pos 0) → i ≡ j
one_place xs i j up ih jh e =
    elim (cases_order i j) [
      | inl same ↦ same
      | inr apart ↦ elim apart [
        | inl below ↦ (let h : get_or xs i (pos 0) <ℤ get_or xs j (pos 0) = up i j (pos 0) below jh in absurd (omega (arith, ints, h, e)))
        | inr above ↦ (let h : get_or xs j (pos 0) <ℤ get_or xs i (pos 0) = up j i (pos 0) above ih in absurd (omega (arith, ints, h, e)))
      ]
    ]

-- numbers of which each is below the next ascend
pub IsAscending-from_adjacent : (xs : List ℤ) → AllAdjacentBelow (λ x y. x <ℤ y) xs (length xs) → IsAscending xs
IsAscending-from_adjacent xs adjacent = AllPairs-from_adjacent (λ x y. x <ℤ y) (λ x y z p q. omega (arith, ints, p, q)) xs adjacent

above : (a b : ℤ) (r : Ordering) → MatchOrdering r (b <ℤ a) (b ≡ a) (a <ℤ b) → a <ℤ b → is_lt r ≡ false
above a b Less m h = absurd (omega (arith, ints, m, h))
above a b Equal m h = refl
above a b Greater m h = refl

-- ascending numbers may be searched by halving
pub searchable : (xs : List ℤ) (x : ℤ) → IsAscending xs → IsNonDecreasingBy (λ y. ordering_index (int_cmp y x)) xs
searchable xs x up =
    let sorted : IsSortedBy (λ a b. is_lt (int_cmp a b)) xs = (λ k d low high.
    let a : ℤ = get_or xs k d in let b : ℤ = get_or xs (k + 1) d in
    above a b (int_cmp b a) (int_ranked b a (int_cmp b a) refl) (up k (k + 1) d (omega arith) high)) in
    searchable_from_sorted int_cmp_total (λ y. y) xs x sorted

-- what is parted by a number has it nowhere
pub none_between : (xs : List ℤ) (x : ℤ) (at : ℕ) → IsPartitionPoint (λ y. int_cmp y x ≡ Less) (λ y. int_cmp y x ≡ Greater) xs at → Contains xs x → ⊥
none_between xs x at parts found =
    elim (cases_lt found.0 at) [
      | inl below ↦ (let h : get_or xs found.0 x <ℤ x = int_ranked (get_or xs found.0 x) x Less (sym (parts.0 found.0 x (omega arith) below)) in
          let e : get_or xs found.0 x ≡ x = found.2 in omega (arith, ints, h, e))
      | inr past ↦ (let h : x <ℤ get_or xs found.0 x = int_ranked (get_or xs found.0 x) x Greater (sym (parts.1 found.0 x past found.1)) in
          let e : get_or xs found.0 x ≡ x = found.2 in omega (arith, ints, h, e))
    ]
