-- Ascending numbers, and one more at its place.
use Rattle.std.proofs.Common.{◌≡◌, ◌+◌, Bool, true, false, ◌||◌, List, [], ◌∷◌, ℤ, pos, ◌<ℤ◌, refl, sym, ◌∙◌, ap, subst, arith, Decides}
use Rattle.std.specs.declared.cmp.Ordering.{Ordering}
use Rattle.std.specs.declared.cmp.Ordering.TheVariants.{Less, Equal, Greater}
use Rattle.std.specs.Cmp.{int_cmp_is}
use Rattle.std.specs.Ordering.{int_cmp, is_eq, match_ordering, ordering_reverse}
use Rattle.std.specs.List.{AllByRecursion}
use Rattle.std.specs.List.Sorted.{IsStrictlySortedBy}
use Rattle.std.proofs.lemmas.Bool.{false≢true, or_left, or_from}
use Rattle.std.proofs.lemmas.Cmp.{int_ranked, int_cmp_total}
use Rattle.std.proofs.lemmas.Map.Keys.{sorted_from_all_adjacent}
use Rattle.digit_tuple.specs.Sets.{IsAscending}
use Rattle.command_head.specs.Members.{has, put}

-- numbers that compare alike are one
pub same_number : (x y : ℤ) → is_eq (int_cmp x y) ≡ true → x ≡ y
same_number x y h = by_order (int_cmp x y) refl h
  where
    by_order : (o : Ordering) → o ≡ int_cmp x y → is_eq o ≡ true → x ≡ y
    by_order Less e h = cc
    by_order Equal e h = int_ranked x y Equal e
    by_order Greater e h = cc

cmp_self : (x : ℤ) → int_cmp x x ≡ Equal
cmp_self x = sym (int_cmp_is x x Equal refl)

pub number_is_one : (x y : ℤ) → Decides (is_eq (int_cmp x y)) (x ≡ y)
number_is_one x y = (same_number x y, λ e. subst (λ (z : ℤ). is_eq (int_cmp x z) ≡ true) e (ap is_eq (cmp_self x)))

pub Less-below : (x y : ℤ) → x <ℤ y → int_cmp x y ≡ Less
Less-below x y h = sym (int_cmp_is x y Less h)

-- ascending numbers are in order
pub sorted_from_ascending : (set : List ℤ) → IsAscending set → IsStrictlySortedBy int_cmp set
sorted_from_ascending set up = sorted_from_all_adjacent int_cmp_total set (pos 0) (λ k inside. Less-below _ _ (up k (k + 1) (pos 0) (omega arith) inside))

-- one number more is among them, and else the same are
pub has-put : (members : List ℤ) (n k : ℤ) → has (put members n) k ≡ (is_eq (int_cmp k n) || has members k)
has-put [] n k = refl
has-put (m ∷ ms) n k = by_order (has-put ms n k) (int_cmp n m) refl
  where
    swapped : (a b c : Bool) → (a || (b || c)) ≡ (b || (a || c))
    swapped true true c = refl
    swapped true false c = refl
    swapped false true c = refl
    swapped false false c = refl

    twice : (a b : Bool) → (a || b) ≡ (a || (a || b))
    twice true b = refl
    twice false b = refl

    by_order : has (put ms n) k ≡ (is_eq (int_cmp k n) || has ms k) → (o : Ordering) → int_cmp n m ≡ o → has (match_ordering o (n ∷ m ∷ ms) (m ∷ ms) (m ∷ put ms n)) k ≡ (is_eq (int_cmp k n) || has (m ∷ ms) k)
    by_order more Less e = refl
    by_order more Equal e = let same : m ≡ n = sym (same_number n m (ap is_eq e)) in
        twice (is_eq (int_cmp k m)) (has ms k) ∙ ap (λ (z : ℤ). is_eq (int_cmp k z) || (is_eq (int_cmp k m) || has ms k)) same
    by_order more Greater e = ap (λ (t : Bool). is_eq (int_cmp k m) || t) more ∙ swapped (is_eq (int_cmp k m)) (is_eq (int_cmp k n)) (has ms k)

pub all_put : (P : ℤ → Type 0) (members : List ℤ) (n : ℤ) → P n → AllByRecursion P members → AllByRecursion P (put members n)
all_put P [] n here all = (here, tt)
all_put P (m ∷ ms) n here all = elim (int_cmp n m) as (λ o. AllByRecursion P (match_ordering o (n ∷ m ∷ ms) (m ∷ ms) (m ∷ put ms n)))
    [ Less ↦ (here, all) | Equal ↦ all | Greater ↦ (all.0, all_put P ms n here all.1) ]

pub all_above : (n m : ℤ) (ms : List ℤ) → int_cmp n m ≡ Less → AllByRecursion (λ y. int_cmp m y ≡ Less) ms → AllByRecursion (λ y. int_cmp n y ≡ Less) ms
all_above n m [] low all = tt
all_above n m (k ∷ ms) low all = (int_cmp_total.trans n m k low all.0, all_above n m ms low all.1)

-- a number at its place keeps the order
pub sorted-put : (members : List ℤ) (n : ℤ) → IsStrictlySortedBy int_cmp members → IsStrictlySortedBy int_cmp (put members n)
unfolding IsStrictlySortedBy
sorted-put [] n sorted = (tt, tt)
sorted-put (m ∷ ms) n sorted = by_order (sorted-put ms n sorted.1) (int_cmp n m) refl
  where
    by_order : IsStrictlySortedBy int_cmp (put ms n) → (o : Ordering) → int_cmp n m ≡ o → IsStrictlySortedBy int_cmp (match_ordering o (n ∷ m ∷ ms) (m ∷ ms) (m ∷ put ms n))
    by_order more Less e = ((e, all_above n m ms e sorted.0), sorted)
    by_order more Equal e = sorted
    by_order more Greater e = (all_put (λ y. int_cmp m y ≡ Less) ms n (int_cmp_total.antisymm m n ∙ ap ordering_reverse e) sorted.0, more)

-- a number below all is none of them
pub below_all : (k : ℤ) (members : List ℤ) → AllByRecursion (λ y. int_cmp k y ≡ Less) members → has members k ≡ false
below_all k [] all = refl
below_all k (m ∷ ms) all = or_from (is_eq (int_cmp k m)) (has ms k) (ap is_eq all.0) (below_all k ms all.1)

pub is_itself : (x : ℤ) → is_eq (int_cmp x x) ≡ true
is_itself x = ap is_eq (cmp_self x)

-- ascending lists of the same numbers with the same first have the same others
same_others : (x y : ℤ) (xs ys : List ℤ) → x ≡ y → AllByRecursion (λ z. int_cmp x z ≡ Less) xs → AllByRecursion (λ z. int_cmp y z ≡ Less) ys → ((k : ℤ) → has (x ∷ xs) k ≡ has (y ∷ ys) k) →
    (k : ℤ) (t : Bool) → is_eq (int_cmp k x) ≡ t → has xs k ≡ has ys k
same_others x y xs ys one above_x above_y same k true h =
    let k_is = same_number k x h in
    ap (has xs) k_is ∙ below_all x xs above_x ∙ sym (below_all y ys above_y) ∙ sym (ap (has ys) (k_is ∙ one))
same_others x y xs ys one above_x above_y same k false h =
    let h' : is_eq (int_cmp k y) ≡ false = subst (λ (z : ℤ). is_eq (int_cmp k z) ≡ false) one h in
    sym (ap (λ (t : Bool). t || has xs k) h) ∙ same k ∙ ap (λ (t : Bool). t || has ys k) h'

-- ascending lists of the same numbers are equal
pub same_set : (xs ys : List ℤ) → IsStrictlySortedBy int_cmp xs → IsStrictlySortedBy int_cmp ys → ((k : ℤ) → has xs k ≡ has ys k) → xs ≡ ys
unfolding IsStrictlySortedBy
same_set [] [] sx sy same = refl
same_set [] (y ∷ ys) sx sy same = absurd (false≢true (same y ∙ or_left _ (has ys y) (is_itself y)))
same_set (x ∷ xs) [] sx sy same = absurd (false≢true (sym (same x) ∙ or_left _ (has xs x) (is_itself x)))
same_set (x ∷ xs) (y ∷ ys) sx sy same = by_order (λ others. same_set xs ys sx.1 sy.1 others) (int_cmp x y) refl
  where
    by_order : (((k : ℤ) → has xs k ≡ has ys k) → xs ≡ ys) → (o : Ordering) → int_cmp x y ≡ o → x ∷ xs ≡ y ∷ ys
    by_order others Less e = absurd (false≢true (sym (below_all x (y ∷ ys) (e, all_above x y ys e sy.0)) ∙ sym (same x) ∙ or_left _ (has xs x) (is_itself x)))
    by_order others Greater e = let flipped = int_cmp_total.antisymm y x ∙ ap ordering_reverse e in
        absurd (false≢true (sym (below_all y (x ∷ xs) (flipped, all_above y x xs flipped sx.0)) ∙ same y ∙ or_left _ (has ys y) (is_itself y)))
    by_order others Equal e =
        let one = same_number x y (ap is_eq e) in
        ap (λ (z : ℤ). z ∷ xs) one ∙ ap (λ (l : List ℤ). y ∷ l) (others (λ k. same_others x y xs ys one sx.0 sy.0 same k (is_eq (int_cmp k x)) refl))
