-- The letters that have rules, in ascending order.
use Rattle.std.proofs.Common.{◌≡◌, ℕ, zero, suc, ◌<◌, ◌≤◌, Bool, true, false, ◌||◌, List, [], ◌∷◌, length, get_or, ℤ, pos, negsuc, ◌≤ℤ◌, ◌<ℤ◌, ◌⊎◌, inl, inr, refl, sym, ap, ◌∙◌, subst, arith}
use Rattle.std.specs.declared.cmp.Ordering.{Ordering}
use Rattle.std.specs.declared.cmp.Ordering.TheVariants.{Less, Equal, Greater}
use Rattle.std.specs.Ordering.{int_cmp, is_eq}
use Rattle.std.specs.List.{AllByRecursion}
use Rattle.std.specs.List.Sorted.{IsStrictlySortedBy}
use Rattle.std.specs.Map.{keys_of}
use Rattle.std.proofs.lemmas.Bool.{ltb-true}
use Rattle.std.proofs.lemmas.Cmp.{int_ranked}
use Rattle.std.proofs.lemmas.Int.{ints, to_z-of_z}
use Rattle.std.specs.Int.{cast_signed, cast_unsigned, w32}
use mir.Val.{SFits}
use Rattle.morph_words.specs.Rules.{IsMorphism, IsRule, Rules, has}
use Rattle.morph_words.proofs.Orders.{has-cons}
use Rattle.morph_words.specs.Uniform.{HasRule, IsLeast}

-- a letter compares equal to itself alone
pub same_from : (x y : ℤ) → is_eq (int_cmp x y) ≡ true → x ≡ y
same_from x y h = by (int_cmp x y) refl h
  where
    by : (o : Ordering) → o ≡ int_cmp x y → is_eq o ≡ true → x ≡ y
    by Less e h = absurd cc
    by Equal e h = int_ranked x y Equal e
    by Greater e h = absurd cc

pub same_to : (x : ℤ) → is_eq (int_cmp x x) ≡ true
same_to x = by (int_cmp x x) refl
  where
    by : (o : Ordering) → o ≡ int_cmp x x → is_eq o ≡ true
    by Less e = absurd (omega (arith, ints, int_ranked x x Less e))
    by Equal e = refl
    by Greater e = absurd (omega (arith, ints, int_ranked x x Greater e))

either : (a b : Bool) → (a || b) ≡ true → (a ≡ true) ⊎ (b ≡ true)
either true b h = inl refl
either false b h = inr h

-- a letter with a rule has a place among the letters
pub place_of_ruled : (rules : Rules) (letter : ℤ) → HasRule rules letter → (i : ℕ) × (i < length (keys_of rules)) × (get_or (keys_of rules) i (pos 0) ≡ letter)
place_of_ruled [] letter ruled = absurd cc
place_of_ruled (rule ∷ rules) letter ruled =
    by (λ h. place_of_ruled rules letter h) (either (is_eq (int_cmp letter rule.0)) (has rules letter) (sym (has-cons rule rules letter) ∙ ruled))
  where
    by : (HasRule rules letter → (i : ℕ) × (i < length (keys_of rules)) × (get_or (keys_of rules) i (pos 0) ≡ letter)) → (is_eq (int_cmp letter rule.0) ≡ true) ⊎ (has rules letter ≡ true)
        → (i : ℕ) × (i < length (keys_of (rule ∷ rules))) × (get_or (keys_of (rule ∷ rules)) i (pos 0) ≡ letter)
    by rest (inl first) = (0, omega arith, sym (same_from letter rule.0 first))
    by rest (inr later) = let found = rest later in (suc found.0, omega (arith, found.1), found.2)

-- and each of the letters has a rule
pub ruled_at : (rules : Rules) (i : ℕ) → i < length (keys_of rules) → HasRule rules (get_or (keys_of rules) i (pos 0))
ruled_at [] i within = absurd (omega (arith, within))
ruled_at (rule ∷ rules) zero within = has-cons rule rules rule.0 ∙ ap (λ b. b || has rules rule.0) (same_to rule.0)
ruled_at (rule ∷ rules) (suc i) within =
    let letter : ℤ = get_or (keys_of rules) i (pos 0) in
    has-cons rule rules letter ∙ either_true (is_eq (int_cmp letter rule.0)) (has rules letter) (ruled_at rules i (omega (arith, within)))
  where
    either_true : (a b : Bool) → b ≡ true → (a || b) ≡ true
    either_true true b h = refl
    either_true false b h = h

-- the letters ascend
pub all_below : (x : ℤ) (xs : List ℤ) (j : ℕ) → AllByRecursion (λ y. int_cmp x y ≡ Less) xs → j < length xs → x <ℤ get_or xs j (pos 0)
all_below x [] j below within = absurd (omega (arith, within))
all_below x (y ∷ xs) zero below within = int_ranked x y Less (sym below.0)
all_below x (y ∷ xs) (suc j) below within = all_below x xs j below.1 (omega (arith, within))

pub in_order : (xs : List ℤ) (i j : ℕ) → IsStrictlySortedBy int_cmp xs → i ≤ j → j < length xs → get_or xs i (pos 0) ≤ℤ get_or xs j (pos 0)
unfolding IsStrictlySortedBy
in_order [] i j sorted before within = absurd (omega (arith, within))
in_order (x ∷ xs) zero zero sorted before within = omega (arith, ints)
in_order (x ∷ xs) zero (suc j) sorted before within = omega (arith, ints, all_below x xs j sorted.0 (omega (arith, within)))
in_order (x ∷ xs) (suc i) zero sorted before within = absurd (omega (arith, before))
in_order (x ∷ xs) (suc i) (suc j) sorted before within = in_order xs i j sorted.1 (omega (arith, before)) (omega (arith, within))

-- the first letter is the least
pub first_least : (rules : Rules) → IsMorphism rules → IsLeast (HasRule rules) (get_or (keys_of rules) 0 (pos 0))
first_least rules is = record {
  holds = ruled_at rules 0 (by rules is.some);
  least = λ other ruled. let place = place_of_ruled rules other ruled in
      subst (λ b. get_or (keys_of rules) 0 (pos 0) ≤ℤ b) place.2 (in_order (keys_of rules) 0 place.0 is.ascending (omega arith) place.1);
}
  where
    by : (rs : Rules) → 0 < length rs → 0 < length (keys_of rs)
    by [] some = absurd (omega (arith, some))
    by (rule ∷ rs) some = omega arith

-- least letters are one
pub one_least : (Holds : ℤ → Type 0) (letter other : ℤ) → IsLeast Holds letter → IsLeast Holds other → letter ≡ other
one_least Holds letter other one two = omega (arith, ints, one.least other two.holds, two.least letter one.holds)

-- letters with rules have 32 bits
fits_from_rule : (letter : ℤ) (image : List ℤ) → IsRule (letter, image) → SFits w32 letter
fits_from_rule (pos n) image rule = record { sfits = ltb-true n 2147483648 rule.letter }
fits_from_rule (negsuc n) image rule = record { sfits = ltb-true n 2147483648 rule.letter }

fits_from : (rules : Rules) (letter : ℤ) → AllByRecursion IsRule rules → HasRule rules letter → SFits w32 letter
fits_from [] letter each ruled = absurd cc
fits_from (rule ∷ rules) letter each ruled =
    by (λ h. fits_from rules letter each.1 h) (either (is_eq (int_cmp letter rule.0)) (has rules letter) (sym (has-cons rule rules letter) ∙ ruled))
  where
    by : (HasRule rules letter → SFits w32 letter) → (is_eq (int_cmp letter rule.0) ≡ true) ⊎ (has rules letter ≡ true) → SFits w32 letter
    by rest (inl first) = subst (SFits w32) (sym (same_from letter rule.0 first)) (fits_from_rule rule.0 rule.1 each.0)
    by rest (inr later) = rest later

-- so they are determined by their bits
pub bits_back : (rules : Rules) (letter : ℤ) → IsMorphism rules → HasRule rules letter → cast_signed w32 (cast_unsigned w32 letter) ≡ letter
bits_back rules letter is ruled = to_z-of_z w32 letter (fits_from rules letter is.each ruled)
