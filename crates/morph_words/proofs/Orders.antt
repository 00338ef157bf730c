-- Rules by ascending letter, and one more at its place.
use Rattle.std.proofs.Common.{◌≡◌, ℕ, suc, ◌+◌, ◌<◌, ◌≤◌, Bool, true, false, ◌||◌, List, [], ◌∷◌, length, ℤ, pos, negsuc, Some, refl, sym, ◌∙◌, ap, arith}
use Rattle.std.specs.Prelude.{is_some, if◌then◌else◌}
use Rattle.std.specs.declared.cmp.Ordering.{Ordering}
use Rattle.std.specs.declared.cmp.Ordering.TheVariants.{Less, Equal, Greater}
use Rattle.std.specs.Ordering.{int_cmp, is_eq, match_ordering, ordering_reverse}
use Rattle.std.specs.List.{AllByRecursion}
use Rattle.std.specs.List.Sorted.{IsStrictlySortedBy}
use Rattle.std.specs.Map.{keys_of}
use Rattle.std.proofs.lemmas.Bool.{or_from}
use Rattle.std.proofs.lemmas.Cmp.{int_ranked, int_cmp_total}
use Rattle.morph_words.specs.Rules.{Rules, image_of, has, put, IsRule, IsMorphism}

-- a letter that is another compares unlike
pub apart : (x y : ℤ) → (x ≡ y → ⊥) → is_eq (int_cmp x y) ≡ false
apart x y h = by_order (int_cmp x y) refl
  where
    by_order : (o : Ordering) → o ≡ int_cmp x y → is_eq o ≡ false
    by_order Less e = refl
    by_order Equal e = absurd (h (int_ranked x y Equal e))
    by_order Greater e = refl

pub has-cons : (rule : ℤ × List ℤ) (rules : Rules) (letter : ℤ) → has (rule ∷ rules) letter ≡ (is_eq (int_cmp letter rule.0) || has rules letter)
has-cons rule rules letter = elim (is_eq (int_cmp letter rule.0)) as (λ b. is_some (if b then Some rule.1 else image_of rules letter) ≡ (b || has rules letter)) [ true ↦ refl | false ↦ refl ]

both_false : (a b : Bool) → (a || b) ≡ false → (a ≡ false) × (b ≡ false)
both_false true b h = absurd cc
both_false false b h = (refl, h)

-- a letter that has no rule is not the first rule's, and has none among the others
pub absent : (rule : ℤ × List ℤ) (rules : Rules) (letter : ℤ) → has (rule ∷ rules) letter ≡ false → (is_eq (int_cmp letter rule.0) ≡ false) × (has rules letter ≡ false)
absent rule rules letter h = both_false (is_eq (int_cmp letter rule.0)) (has rules letter) (sym (has-cons rule rules letter) ∙ h)

-- from some number on no letter has a rule
abbrev least_above : ℤ → ℕ
least_above (pos n) = suc n
least_above (negsuc n) = 0

above_is_other : (z : ℤ) (k : ℕ) → least_above z ≤ k → pos k ≡ z → ⊥
above_is_other (pos n) k h e = let same : k ≡ n = cc in omega arith
above_is_other (negsuc n) k h e = cc

free_above : (rules : Rules) → (n : ℕ) × ((k : ℕ) → n ≤ k → has rules (pos k) ≡ false)
free_above [] = (0, λ k h. refl)
free_above (rule ∷ rules) =
    let others = free_above rules in
    (least_above rule.0 + others.0, λ k h. has-cons rule rules (pos k) ∙ or_from (is_eq (int_cmp (pos k) rule.0)) (has rules (pos k)) (apart (pos k) rule.0 (above_is_other rule.0 k (omega arith))) (others.1 k (omega arith)))

-- some letter has no rule
pub free_letter : (rules : Rules) → (letter : ℤ) × (has rules letter ≡ false)
free_letter rules = let above = free_above rules in (pos above.0, above.1 above.0 (omega arith))

-- what holds of rules and of one for a further letter holds with it at its place
pub all_put : (P : ℤ × List ℤ → Type 0) (rules : Rules) (letter : ℤ) (image : List ℤ) → has rules letter ≡ false → P (letter, image) → AllByRecursion P rules → AllByRecursion P (put rules letter image)
all_put P [] letter image free here all = (here, tt)
all_put P (rule ∷ rules) letter image free here all = by_order (all_put P rules letter image (absent rule rules letter free).1 here all.1) (int_cmp letter rule.0) refl
  where
    by_order : AllByRecursion P (put rules letter image) → (o : Ordering) → int_cmp letter rule.0 ≡ o → AllByRecursion P (match_ordering o ((letter, image) ∷ rule ∷ rules) ((rule.0, image) ∷ rules) (rule ∷ put rules letter image))
    by_order more Less e = (here, all)
    by_order more Equal e = let same : true ≡ false = sym (ap is_eq e) ∙ (absent rule rules letter free).0 in absurd cc
    by_order more Greater e = (all.0, more)

all_keys_put : (P : ℤ → Type 0) (rules : Rules) (letter : ℤ) (image : List ℤ) → P letter → AllByRecursion P (keys_of rules) → AllByRecursion P (keys_of (put rules letter image))
all_keys_put P [] letter image here all = (here, tt)
all_keys_put P (rule ∷ rules) letter image here all = elim (int_cmp letter rule.0) as (λ o. AllByRecursion P (keys_of (match_ordering o ((letter, image) ∷ rule ∷ rules) ((rule.0, image) ∷ rules) (rule ∷ put rules letter image))))
    [ Less ↦ (here, all) | Equal ↦ all | Greater ↦ (all.0, all_keys_put P rules letter image here all.1) ]

all_above : (n m : ℤ) (ms : List ℤ) → int_cmp n m ≡ Less → AllByRecursion (λ y. int_cmp m y ≡ Less) ms → AllByRecursion (λ y. int_cmp n y ≡ Less) ms
all_above n m [] low all = tt
all_above n m (k ∷ ms) low all = (int_cmp_total.trans n m k low all.0, all_above n m ms low all.1)

-- a rule at its place keeps the order
pub sorted-put : (rules : Rules) (letter : ℤ) (image : List ℤ) → IsStrictlySortedBy int_cmp (keys_of rules) → IsStrictlySortedBy int_cmp (keys_of (put rules letter image))
unfolding IsStrictlySortedBy
sorted-put [] letter image sorted = (tt, tt)
sorted-put (rule ∷ rules) letter image sorted = by_order (sorted-put rules letter image sorted.1) (int_cmp letter rule.0) refl
  where
    by_order : IsStrictlySortedBy int_cmp (keys_of (put rules letter image)) → (o : Ordering) → int_cmp letter rule.0 ≡ o → IsStrictlySortedBy int_cmp (keys_of (match_ordering o ((letter, image) ∷ rule ∷ rules) ((rule.0, image) ∷ rules) (rule ∷ put rules letter image)))
    by_order more Less e = ((e, all_above letter rule.0 (keys_of rules) e sorted.0), sorted)
    by_order more Equal e = sorted
    by_order more Greater e = (all_keys_put (λ y. int_cmp rule.0 y ≡ Less) rules letter image (int_cmp_total.antisymm rule.0 letter ∙ ap ordering_reverse e) sorted.0, more)

some_put : (rules : Rules) (letter : ℤ) (image : List ℤ) → 0 < length (put rules letter image)
some_put [] letter image = omega arith
some_put (rule ∷ rules) letter image = elim (int_cmp letter rule.0) as (λ o. 0 < length (match_ordering o ((letter, image) ∷ rule ∷ rules) ((rule.0, image) ∷ rules) (rule ∷ put rules letter image)))
    [ Less ↦ omega arith | Equal ↦ omega arith | Greater ↦ omega arith ]

-- the rules of a morphism and one for a further letter
pub morphism_put : (rules : Rules) (letter : ℤ) (image : List ℤ) → IsStrictlySortedBy int_cmp (keys_of rules) → AllByRecursion IsRule rules → has rules letter ≡ false → IsRule (letter, image) → IsMorphism (put rules letter image)
morphism_put rules letter image sorted each free rule = record {
  some = some_put rules letter image;
  ascending = sorted-put rules letter image sorted;
  each = all_put IsRule rules letter image free rule each;
}
