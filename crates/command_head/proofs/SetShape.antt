-- Sets in order, and how many members they have.
use Rattle.std.proofs.Common.{◌≡◌, ◌+◌, ◌<◌, ◌≤◌, List, [], ◌∷◌, ℤ, ◌<ℤ◌, length, sym, arith}
use Rattle.std.specs.declared.cmp.Ordering.TheVariants.{Less, Equal, Greater}
use Rattle.std.specs.Ordering.{int_cmp, match_ordering}
use Rattle.std.specs.List.Sorted.{IsStrictlySortedBy}
use Rattle.std.proofs.lemmas.Map.Keys.{Less-from_sorted}
use Rattle.std.proofs.lemmas.Cmp.{int_ranked}
use Rattle.digit_tuple.specs.Sets.{IsAscending}
use Rattle.command_head.specs.Members.{put}

-- numbers in order ascend
pub IsAscending-from_sorted : (members : List ℤ) → IsStrictlySortedBy int_cmp members → IsAscending members
IsAscending-from_sorted members sorted i j d below inside = less_is _ _ (Less-from_sorted int_cmp members i j d sorted below inside)
  where
    less_is : (x y : ℤ) → int_cmp x y ≡ Less → x <ℤ y
    less_is x y h = int_ranked x y Less (sym h)

-- a number more makes a set longer by one at most
pub put-length : (members : List ℤ) (n : ℤ) → length (put members n) ≤ length members + 1
put-length [] n = omega arith
put-length (m ∷ ms) n = let more = put-length ms n in
    elim (int_cmp n m) as (λ o. length (match_ordering o (n ∷ m ∷ ms) (m ∷ ms) (m ∷ put ms n)) ≤ length (m ∷ ms) + 1) [ Less ↦ omega arith | Equal ↦ omega arith | Greater ↦ omega arith ]

-- and leaves none empty
pub put-some : (members : List ℤ) (n : ℤ) → 0 < length (put members n)
put-some [] n = omega arith
put-some (m ∷ ms) n =
    elim (int_cmp n m) as (λ o. 0 < length (match_ordering o (n ∷ m ∷ ms) (m ∷ ms) (m ∷ put ms n))) [ Less ↦ omega arith | Equal ↦ omega arith | Greater ↦ omega arith ]
