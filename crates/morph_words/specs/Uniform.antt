-- Morphisms all of whose images have one length, and why others are refused.
use Rattle.std.specs.Prelude.{◌≡◌, ◌≢◌, ℕ, ◌≤◌, ℤ, ◌≤ℤ◌, length, Option, IsSome}
use Rattle.std.specs.Option.{MatchOption}
use Rattle.morph_words.specs.Rules.{Rules, image_of}
use Rattle.morph_words.specs.Images.{image}
use Rattle.morph_words.specs.declared.morphism_kind.MorphismKind.{MorphismKind}
use Rattle.morph_words.specs.declared.morphism_kind.MorphismKind.TheVariants.{NotUniform, Length, NotClosed, NotFixed}

-- the letter has a rule
abbrev pub HasRule : Rules → ℤ → Type 0
HasRule rules letter = IsSome (image_of rules letter)

-- the least letter of which this holds
pub record IsLeast (Holds : ℤ → Type 0) (letter : ℤ) : Type 0 where
  pub holds : Holds letter
  pub least : (other : ℤ) → Holds other → letter ≤ℤ other

-- the least letter of which this holds; none where it holds of none
abbrev pub IsLeastOf : (ℤ → Type 0) → Option ℤ → Type 0
IsLeastOf Holds found = MatchOption found ((letter : ℤ) → ¬ Holds letter) (IsLeast Holds)

-- all images have this length
abbrev pub AreUniform : Rules → ℕ → Type 0
AreUniform rules k = (letter : ℤ) → HasRule rules letter → length (image rules letter) ≡ k

-- the letter has an image of another length than this
pub record HasOther (rules : Rules) (k : ℕ) (letter : ℤ) : Type 0 where
  pub has_rule : HasRule rules letter
  pub other : length (image rules letter) ≢ k

-- the letter's image has another length than that of the least letter
pub record IsOdd (rules : Rules) (letter : ℤ) : Type 0 where
  pub has_rule : HasRule rules letter
  pub first : ℤ
  pub first_is : IsLeast (HasRule rules) first
  pub other : length (image rules letter) ≢ length (image rules first)

-- not all images have one length, and this is the least letter that decides
abbrev pub IsNotUniform : Rules → ℤ → Type 0
IsNotUniform rules letter = IsLeast (IsOdd rules) letter

-- the length is one of these
abbrev pub IsWithin : ℕ → ℕ → ℕ → Type 0
IsWithin least greatest k = (least ≤ k) × (k ≤ greatest)

-- all have one length, which is not allowed; the least letter is named for all
pub record HasOtherLength (IsAllowed : ℕ → Type 0) (rules : Rules) (letter : ℤ) : Type 0 where
  pub first : IsLeast (HasRule rules) letter
  pub k : ℕ
  pub uniform : AreUniform rules k
  pub outside : ¬ IsAllowed k

-- the images have not one length that is allowed, and this is the first kind that applies, with its letter
abbrev pub IsLengthRefused : (ℕ → Type 0) → Rules → MorphismKind → Type 0
IsLengthRefused IsAllowed rules (NotUniform letter) = IsNotUniform rules letter
IsLengthRefused IsAllowed rules (Length letter) = HasOtherLength IsAllowed rules letter
IsLengthRefused IsAllowed rules (NotClosed letter) = ⊥
IsLengthRefused IsAllowed rules (NotFixed letter) = ⊥

-- all images have this length, which is allowed
pub record HasLength (IsAllowed : ℕ → Type 0) (rules : Rules) (k : ℕ) : Type 0 where
  pub uniform : AreUniform rules k
  pub allowed : IsAllowed k

-- the lengths of the images by which words are mapped
abbrev pub IsImageLength : ℕ → Type 0
IsImageLength k = IsWithin 1 40 k
