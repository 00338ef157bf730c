-- The first rule whose image has another length has the least letter of those.
use Rattle.std.proofs.Common.{◌≡◌, ◌==◌, ℕ, Bool, true, false, ◌||◌, List, [], ◌∷◌, length, get_or, ℤ, pos, ◌≤ℤ◌, ◌<ℤ◌, ◌⊎◌, inl, inr, Option, None, Some, refl, sym, ap, ◌∙◌, subst, arith}
use Rattle.std.specs.Prelude.{if◌then◌else◌, unwrap_or}
use Rattle.std.specs.Int.{cast_signed, cast_unsigned, w32}
use Rattle.std.specs.Ordering.{int_cmp, is_eq}
use Rattle.std.specs.List.Sorted.{IsStrictlySortedBy}
use Rattle.std.specs.Map.{keys_of}
use Rattle.std.proofs.lemmas.Int.{ints}
use Rattle.morph_words.specs.Rules.{IsMorphism, Rules, has, image_of}
use Rattle.morph_words.specs.Images.{image}
use Rattle.morph_words.specs.Uniform.{HasOther, HasRule, IsLeast, IsLeastOf}
use Rattle.morph_words.specs.FirstOther.{first_other}
use Rattle.morph_words.proofs.Orders.{apart, has-cons}
use Rattle.morph_words.proofs.RuleLemmas.{all_below, bits_back, first_least, place_of_ruled, same_from, same_to}

-- the image by the first rule, and by the others
image_first : (rule : ℤ × List ℤ) (rules : Rules) → image (rule ∷ rules) rule.0 ≡ rule.1
image_first rule rules = ap (λ (b : Bool). unwrap_or (if b then Some rule.1 else image_of rules rule.0) []) (same_to rule.0)

image_later : (rule : ℤ × List ℤ) (rules : Rules) (letter : ℤ) → ¬ (letter ≡ rule.0) → image (rule ∷ rules) letter ≡ image rules letter
image_later rule rules letter other = ap (λ (b : Bool). unwrap_or (if b then Some rule.1 else image_of rules letter) []) (apart letter rule.0 other)

-- a letter with a rule is that of the first, or of another
first_or_later : (rule : ℤ × List ℤ) (rules : Rules) (letter : ℤ) → HasRule (rule ∷ rules) letter → (letter ≡ rule.0) ⊎ HasRule rules letter
first_or_later rule rules letter ruled = by (is_eq (int_cmp letter rule.0)) refl (sym (has-cons rule rules letter) ∙ ruled)
  where
    by : (b : Bool) → is_eq (int_cmp letter rule.0) ≡ b → (b || has rules letter) ≡ true → (letter ≡ rule.0) ⊎ HasRule rules letter
    by true is h = inl (same_from letter rule.0 is)
    by false is h = inr h

later_ruled : (rule : ℤ × List ℤ) (rules : Rules) (letter : ℤ) → HasRule rules letter → HasRule (rule ∷ rules) letter
later_ruled rule rules letter ruled = has-cons rule rules letter ∙ by (is_eq (int_cmp letter rule.0))
  where
    by : (b : Bool) → (b || has rules letter) ≡ true
    by true = refl
    by false = ruled

first_ruled : (rule : ℤ × List ℤ) (rules : Rules) → HasRule (rule ∷ rules) rule.0
first_ruled rule rules = has-cons rule rules rule.0 ∙ ap (λ b. b || has rules rule.0) (same_to rule.0)

-- the other letters are greater
later_greater : (rule : ℤ × List ℤ) (rules : Rules) (letter : ℤ) → IsStrictlySortedBy int_cmp (keys_of (rule ∷ rules)) → HasRule rules letter → rule.0 <ℤ letter
unfolding IsStrictlySortedBy
later_greater rule rules letter sorted ruled = let place = place_of_ruled rules letter ruled in subst (λ b. rule.0 <ℤ b) place.2 (all_below rule.0 (keys_of rules) place.0 sorted.0 place.1)

not_first : (rule : ℤ × List ℤ) (rules : Rules) (letter : ℤ) → IsStrictlySortedBy int_cmp (keys_of (rule ∷ rules)) → HasRule rules letter → ¬ (letter ≡ rule.0)
not_first rule rules letter sorted ruled = λ same. omega (arith, ints, later_greater rule rules letter sorted ruled, same)

sorted_later : (rule : ℤ × List ℤ) (rules : Rules) → IsStrictlySortedBy int_cmp (keys_of (rule ∷ rules)) → IsStrictlySortedBy int_cmp (keys_of rules)
unfolding IsStrictlySortedBy
sorted_later rule rules sorted = sorted.1

module _ (k : ℕ) where
  -- a letter of another length among the later rules is one among all
  over : (rule : ℤ × List ℤ) (rules : Rules) (letter : ℤ) → IsStrictlySortedBy int_cmp (keys_of (rule ∷ rules)) → HasOther rules k letter → HasOther (rule ∷ rules) k letter
  over rule rules letter sorted h = record {
    has_rule = later_ruled rule rules letter h.has_rule;
    other = λ same. h.other (sym (ap length (image_later rule rules letter (not_first rule rules letter sorted h.has_rule))) ∙ same);
  }

  -- and back, where the first rule's image has the length
  back : (rule : ℤ × List ℤ) (rules : Rules) (letter : ℤ) → length rule.1 ≡ k → IsStrictlySortedBy int_cmp (keys_of (rule ∷ rules)) → HasOther (rule ∷ rules) k letter → HasOther rules k letter
  back rule rules letter long sorted h = by (first_or_later rule rules letter h.has_rule)
    where
      by : (letter ≡ rule.0) ⊎ HasRule rules letter → HasOther rules k letter
      by (inl same) = absurd (h.other (ap (λ b. length (image (rule ∷ rules) b)) same ∙ ap length (image_first rule rules) ∙ long))
      by (inr later) = record { has_rule = later; other = λ same. h.other (ap length (image_later rule rules letter (not_first rule rules letter sorted later)) ∙ same) }

  -- the first rule of another length is that of the least letter
  pub first_other_least : (rules : Rules) → IsStrictlySortedBy int_cmp (keys_of rules) → IsLeastOf (HasOther rules k) (first_other k rules)
  first_other_least [] sorted = λ letter h. absurd (let ruled = h.has_rule in cc)
  first_other_least (rule ∷ rules) sorted = by (first_other_least rules (sorted_later rule rules sorted)) (length rule.1 == k) refl
    where
      here : ¬ (length rule.1 ≡ k) → IsLeast (HasOther (rule ∷ rules) k) rule.0
      here other = record {
        holds = record { has_rule = first_ruled rule rules; other = λ same. other (sym (ap length (image_first rule rules)) ∙ same) };
        least = λ letter h. at letter (first_or_later rule rules letter h.has_rule);
      }
        where
          at : (letter : ℤ) → (letter ≡ rule.0) ⊎ HasRule rules letter → rule.0 ≤ℤ letter
          at letter (inl same) = omega (arith, ints, same)
          at letter (inr later) = omega (arith, ints, later_greater rule rules letter sorted later)

      later : length rule.1 ≡ k → (o : Option ℤ) → IsLeastOf (HasOther rules k) o → IsLeastOf (HasOther (rule ∷ rules) k) o
      later long None none = λ letter h. none letter (back rule rules letter long sorted h)
      later long (Some a) least = record { holds = over rule rules a sorted least.holds; least = λ letter h. least.least letter (back rule rules letter long sorted h) }

      by : IsLeastOf (HasOther rules k) (first_other k rules) → (b : Bool) → (length rule.1 == k) ≡ b → IsLeastOf (HasOther (rule ∷ rules) k) (if b then first_other k rules else Some rule.0)
      by rest true is = later (grind (arith, is)) (first_other k rules) rest
      by rest false is = here (λ same. grind (arith, is, same))

-- a letter is determined by its bits, where it has a rule
bits : (Holds : ℤ → Type 0) (rules : Rules) (letter : ℤ) → IsMorphism rules → HasRule rules letter → IsLeast Holds letter → IsLeast Holds (cast_signed w32 (cast_unsigned w32 letter))
bits Holds rules letter is ruled least = subst (IsLeast Holds) (sym (bits_back rules letter is ruled)) least

-- the first letter of all is the least
pub first_key_least : (rules : Rules) (letter : ℤ) (rest : List ℤ) → IsMorphism rules → keys_of rules ≡ letter ∷ rest → IsLeast (HasRule rules) (cast_signed w32 (cast_unsigned w32 letter))
first_key_least rules letter rest is are =
    let least = subst (IsLeast (HasRule rules)) (ap (λ (xs : List ℤ). get_or xs 0 (pos 0)) are) (first_least rules is) in
    bits (HasRule rules) rules letter is least.holds least

-- the first that is found among those that are left
pub found_least : (k : ℕ) (rules left rest : Rules) (letter : ℤ) (image : List ℤ) → IsMorphism rules → first_other k left ≡ first_other k rules → left ≡ (letter, image) ∷ rest → ¬ (length image ≡ k) → IsLeast (HasOther rules k) (cast_signed w32 (cast_unsigned w32 letter))
found_least k rules left rest letter image is kept are other = bits (HasOther rules k) rules letter is least.holds.has_rule least
  where
    by : (b : Bool) → (length image == k) ≡ b → (if b then first_other k rest else Some letter) ≡ Some letter
    by true e = absurd (other (grind (arith, e)))
    by false e = refl

    found : first_other k rules ≡ Some letter
    found = sym kept ∙ ap (first_other k) are ∙ by (length image == k) refl

    least : IsLeast (HasOther rules k) letter
    least = subst (IsLeastOf (HasOther rules k)) found (first_other_least k rules is.ascending)

-- one rule more that has the length
pub first_other_more : (k : ℕ) (left rest : Rules) (letter : ℤ) (image : List ℤ) → left ≡ (letter, image) ∷ rest → length image ≡ k → first_other k rest ≡ first_other k left
first_other_more k left rest letter image are long = sym (ap (first_other k) are ∙ by (length image == k) refl)
  where
    by : (b : Bool) → (length image == k) ≡ b → (if b then first_other k rest else Some letter) ≡ first_other k rest
    by true e = refl
    by false e = absurd (grind (arith, e, long))

-- where none is left, there is none
pub none_other : (k : ℕ) (rules left : Rules) → IsMorphism rules → first_other k left ≡ first_other k rules → left ≡ [] → (letter : ℤ) → ¬ HasOther rules k letter
none_other k rules left is kept are = subst (IsLeastOf (HasOther rules k)) (sym kept ∙ ap (first_other k) are) (first_other_least k rules is.ascending)
