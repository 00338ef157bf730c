-- Laws of the lengths of images.
use Rattle.std.specs.Prelude.{◌≡◌, ℕ, ◌⊎◌}
use Rattle.morph_words.specs.Rules.{Rules, IsMorphism}
use Rattle.morph_words.specs.Uniform.{HasLength, IsLengthRefused, IsWithin}
use Rattle.morph_words.specs.declared.morphism_kind.MorphismKind.{MorphismKind}

-- all images have one length that is allowed, or the morphism is refused as one kind, and not both
pub record HasOneLength (IsAllowed : ℕ → Type 0) (rules : Rules) : Type 0 where
  pub one_length : (j k : ℕ) → HasLength IsAllowed rules j → HasLength IsAllowed rules k → j ≡ k
  pub one_kind : (kind other : MorphismKind) → IsLengthRefused IsAllowed rules kind → IsLengthRefused IsAllowed rules other → kind ≡ other
  pub apart : (k : ℕ) (kind : MorphismKind) → HasLength IsAllowed rules k → ¬ IsLengthRefused IsAllowed rules kind

abbrev pub MorphismsHaveOneLength : Type 0
MorphismsHaveOneLength = (least greatest : ℕ) (rules : Rules) → IsMorphism rules → HasOneLength (IsWithin least greatest) rules

-- and it is one or the other
abbrev pub MorphismsHaveLengthsOrNot : Type 0
MorphismsHaveLengthsOrNot =
    (least greatest : ℕ) (rules : Rules) → IsMorphism rules → ((k : ℕ) × HasLength (IsWithin least greatest) rules k) ⊎ ((kind : MorphismKind) × IsLengthRefused (IsWithin least greatest) rules kind)
