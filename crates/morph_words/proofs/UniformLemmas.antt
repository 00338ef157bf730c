-- All images of a morphism have one length that is allowed, or it is refused as one kind.
use Rattle.std.proofs.Common.{◌≡◌, ℕ, ◌<◌, ◌≤◌, length, get_or, ℤ, pos, Option, None, Some, ◌⊎◌, inl, inr, refl, sym, ap, ◌∙◌, subst, arith}
use Rattle.std.specs.Map.{keys_of}
use Rattle.std.proofs.lemmas.Bool.{cases_eq, cases_lt}
use Rattle.morph_words.specs.Rules.{IsMorphism, Rules}
use Rattle.morph_words.specs.Images.{image}
use Rattle.morph_words.specs.Uniform.{AreUniform, HasLength, HasOther, HasOtherLength, HasRule, IsLeast, IsLeastOf, IsLengthRefused, IsNotUniform, IsOdd, IsWithin}
use Rattle.morph_words.specs.FirstOther.{first_other}
use Rattle.morph_words.specs.UniformLaws.{MorphismsHaveLengthsOrNot, MorphismsHaveOneLength}
use Rattle.morph_words.specs.declared.morphism_kind.MorphismKind.{MorphismKind}
use Rattle.morph_words.specs.declared.morphism_kind.MorphismKind.TheVariants.{NotUniform, Length, NotClosed, NotFixed}
use Rattle.morph_words.proofs.FirstOtherLemmas.{first_other_least}
use Rattle.morph_words.proofs.RuleLemmas.{first_least, one_least}

module _ (rules : Rules) where
  pub not_uniform : (letter : ℤ) (k : ℕ) → IsOdd rules letter → AreUniform rules k → ⊥
  not_uniform letter k odd uniform = odd.other (uniform letter odd.has_rule ∙ sym (uniform odd.first odd.first_is.holds))

  pub one_length : (letter : ℤ) (j k : ℕ) → HasRule rules letter → AreUniform rules j → AreUniform rules k → j ≡ k
  one_length letter j k ruled one two = sym (one letter ruled) ∙ two letter ruled

  module _ (IsAllowed : ℕ → Type 0) where
    pub outside_not : (letter : ℤ) (k : ℕ) → HasOtherLength IsAllowed rules letter → AreUniform rules k → IsAllowed k → ⊥
    outside_not letter k h uniform allowed = h.outside (subst IsAllowed (one_length letter k h.k h.first.holds uniform h.uniform) allowed)

    length_apart : (k : ℕ) (kind : MorphismKind) → HasLength IsAllowed rules k → IsLengthRefused IsAllowed rules kind → ⊥
    length_apart k (NotUniform letter) has h = not_uniform letter k h.holds has.uniform
    length_apart k (Length letter) has h = outside_not letter k h has.uniform has.allowed
    length_apart k (NotClosed letter) has h = h
    length_apart k (NotFixed letter) has h = h

    one_refusal : (kind other : MorphismKind) → IsLengthRefused IsAllowed rules kind → IsLengthRefused IsAllowed rules other → kind ≡ other
    one_refusal (NotUniform a) (NotUniform b) h g = ap NotUniform (one_least (IsOdd rules) a b h g)
    one_refusal (NotUniform a) (Length b) h g = absurd (not_uniform a g.k h.holds g.uniform)
    one_refusal (NotUniform a) (NotClosed b) h g = absurd g
    one_refusal (NotUniform a) (NotFixed b) h g = absurd g
    one_refusal (Length a) (NotUniform b) h g = absurd (not_uniform b h.k g.holds h.uniform)
    one_refusal (Length a) (Length b) h g = ap Length (one_least (HasRule rules) a b h.first g.first)
    one_refusal (Length a) (NotClosed b) h g = absurd g
    one_refusal (Length a) (NotFixed b) h g = absurd g
    one_refusal (NotClosed a) other h g = absurd h
    one_refusal (NotFixed a) other h g = absurd h

  module _ (first : ℤ) (first_is : IsLeast (HasRule rules) first) (m : ℕ) (long : length (image rules first) ≡ m) where
    -- the least letter whose image has another length than that of the least letter
    pub odd_least : (letter : ℤ) → IsLeast (HasOther rules m) letter → IsLeast (IsOdd rules) letter
    odd_least letter least = record {
      holds = record { has_rule = least.holds.has_rule; first = first; first_is = first_is; other = λ same. least.holds.other (same ∙ long) };
      least = λ other odd. least.least other (record {
        has_rule = odd.has_rule;
        other = λ same. odd.other (same ∙ sym long ∙ ap (λ b. length (image rules b)) (one_least (HasRule rules) first odd.first first_is odd.first_is));
      });
    }

  -- where no image has another length, all have this one
  pub uniform_all : (m : ℕ) → ((letter : ℤ) → ¬ HasOther rules m letter) → AreUniform rules m
  uniform_all m none letter ruled = by (cases_eq (length (image rules letter)) m)
    where
      by : (length (image rules letter) ≡ m) ⊎ ¬ (length (image rules letter) ≡ m) → length (image rules letter) ≡ m
      by (inl same) = same
      by (inr other) = absurd (none letter (record { has_rule = ruled; other = other }))

pub one_lengths : MorphismsHaveOneLength
one_lengths least greatest rules is = record {
  one_length = λ j k h g. one_length rules (get_or (keys_of rules) 0 (pos 0)) j k (first_least rules is).holds h.uniform g.uniform;
  one_kind = one_refusal rules (IsWithin least greatest);
  apart = length_apart rules (IsWithin least greatest);
}

within_or_not : (least greatest k : ℕ) → IsWithin least greatest k ⊎ ¬ IsWithin least greatest k
within_or_not least greatest k = by (cases_lt k least) (cases_lt greatest k)
  where
    by : (k < least) ⊎ (least ≤ k) → (greatest < k) ⊎ (k ≤ greatest) → IsWithin least greatest k ⊎ ¬ IsWithin least greatest k
    by (inl small) large = inr (λ within. omega (arith, small, within.0))
    by (inr low) (inl large) = inr (λ within. omega (arith, large, within.1))
    by (inr low) (inr high) = inl (low, high)

-- the least letter whose image has another length, or the length of all
pub uniform_or_odd : (rules : Rules) → IsMorphism rules → ((letter : ℤ) × IsNotUniform rules letter) ⊎ AreUniform rules (length (image rules (get_or (keys_of rules) 0 (pos 0))))
uniform_or_odd rules is = by (first_other m rules) (first_other_least m rules is.ascending)
  where
    m : ℕ
    m = length (image rules (get_or (keys_of rules) 0 (pos 0)))

    by : (o : Option ℤ) → IsLeastOf (HasOther rules m) o → ((letter : ℤ) × IsNotUniform rules letter) ⊎ AreUniform rules m
    by None none = inr (uniform_all rules m none)
    by (Some letter) least = inl (letter, odd_least rules (get_or (keys_of rules) 0 (pos 0)) (first_least rules is) m refl letter least)

pub lengths_or_not : MorphismsHaveLengthsOrNot
lengths_or_not least greatest rules is = by (uniform_or_odd rules is)
  where
    m : ℕ
    m = length (image rules (get_or (keys_of rules) 0 (pos 0)))

    at : AreUniform rules m → IsWithin least greatest m ⊎ ¬ IsWithin least greatest m → ((k : ℕ) × HasLength (IsWithin least greatest) rules k) ⊎ ((kind : MorphismKind) × IsLengthRefused (IsWithin least greatest) rules kind)
    at uniform (inl allowed) = inl (m, record { uniform = uniform; allowed = allowed })
    at uniform (inr outside) = inr (Length (get_or (keys_of rules) 0 (pos 0)), record { first = first_least rules is; k = m; uniform = uniform; outside = outside })

    by : ((letter : ℤ) × IsNotUniform rules letter) ⊎ AreUniform rules m → ((k : ℕ) × HasLength (IsWithin least greatest) rules k) ⊎ ((kind : MorphismKind) × IsLengthRefused (IsWithin least greatest) rules kind)
    by (inl odd) = inr (NotUniform odd.0, odd.1)
    by (inr uniform) = at uniform (within_or_not least greatest m)
