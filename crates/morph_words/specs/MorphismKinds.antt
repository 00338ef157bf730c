-- Why a morphism is refused, in the order in which the kinds are looked at.
use Rattle.std.specs.Prelude.{◌≡◌, ℕ, ℤ, pos, List, ◌∷◌, Some}
use Rattle.std.specs.List.{Contains}
use Rattle.morph_words.specs.Rules.{Rules, image_of}
use Rattle.morph_words.specs.Images.{image}
use Rattle.morph_words.specs.Uniform.{AreUniform, HasOtherLength, HasRule, IsLeast, IsNotUniform, IsWithin}
use Rattle.morph_words.specs.declared.morphism_kind.MorphismKind.{MorphismKind}
use Rattle.morph_words.specs.declared.morphism_kind.MorphismKind.TheVariants.{NotUniform, Length, NotClosed, NotFixed}

-- the letter is in an image, and has no rule
pub record IsLacking (rules : Rules) (letter : ℤ) : Type 0 where
  pub from : ℤ
  pub has_rule : HasRule rules from
  pub within : Contains (image rules from) letter
  pub lacks : ¬ HasRule rules letter

-- each letter of an image has a rule
abbrev pub AreClosed : Rules → Type 0
AreClosed rules = (from letter : ℤ) → HasRule rules from → Contains (image rules from) letter → HasRule rules letter

-- the letter 0 has an image, which begins with it
abbrev pub BeginsItself : Rules → Type 0
BeginsItself rules = (rest : List ℤ) × (image_of rules (pos 0) ≡ Some (pos 0 ∷ rest))

-- the lengths that images may have are those that are bases
abbrev pub IsBase : ℕ → Type 0
IsBase k = IsWithin 2 40 k

-- the morphism has a fixed point from the letter 0, in this base
pub record HasFixedPoint (rules : Rules) (k : ℕ) : Type 0 where
  pub base : IsBase k
  pub uniform : AreUniform rules k
  pub closed : AreClosed rules
  pub begins : BeginsItself rules

-- all images have one length, which is a base, and this is the least letter of an image that has no rule
pub record IsNotClosed (rules : Rules) (letter : ℤ) : Type 0 where
  pub k : ℕ
  pub base : IsBase k
  pub uniform : AreUniform rules k
  pub lacking : IsLeast (IsLacking rules) letter

-- all have rules, and the image of 0 does not begin with 0, or 0 has none
pub record IsNotFixed (rules : Rules) (letter : ℤ) : Type 0 where
  pub zero_is : letter ≡ pos 0
  pub k : ℕ
  pub base : IsBase k
  pub uniform : AreUniform rules k
  pub closed : AreClosed rules
  pub begins_not : ¬ BeginsItself rules

-- the first kind of refusal that applies, with its letter
abbrev pub IsRefusedAs : Rules → MorphismKind → Type 0
IsRefusedAs rules (NotUniform letter) = IsNotUniform rules letter
IsRefusedAs rules (Length letter) = HasOtherLength IsBase rules letter
IsRefusedAs rules (NotClosed letter) = IsNotClosed rules letter
IsRefusedAs rules (NotFixed letter) = IsNotFixed rules letter
