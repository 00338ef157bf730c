-- Laws of fixed points.
use Rattle.std.specs.Prelude.{◌≡◌, ◌+◌, ◌*◌, ◌<◌, ◌⊎◌, ℕ, ℤ, Some, slice_get}
use Rattle.digit_tuple.specs.declared.step_fault.StepFault.TheVariants.{Memory}
use Rattle.automaton_steps.specs.OneAnswers.{HasOneAnswer}
use Rattle.morph_words.specs.Rules.{Rules, IsMorphism}
use Rattle.morph_words.specs.FixedPoint.{IsLetterAt}
use Rattle.morph_words.specs.MorphismKinds.{HasFixedPoint, IsRefusedAs}
use Rattle.fixed_points.specs.Promotion.{DoesPromote}
use Rattle.morph_words.specs.declared.morphism_kind.MorphismKind.{MorphismKind}
use Rattle.morph_words.specs.Images.{image}
use Rattle.fixed_points.specs.declared.promote_fault.PromoteFault.TheVariants.{Step}

-- a fixed point has a letter at each position
abbrev pub FixedPointsHaveLetters : Type 0
FixedPointsHaveLetters = (rules : Rules) (k place : ℕ) → HasFixedPoint rules k → (letter : ℤ) × IsLetterAt rules place letter

-- and no other
abbrev pub FixedPointsHaveOneLetter : Type 0
FixedPointsHaveOneLetter = (rules : Rules) (place : ℕ) (letter other : ℤ) → IsLetterAt rules place letter → IsLetterAt rules place other → letter ≡ other

-- and it is its own image: that of the letter at a position is from k times the position on
abbrev pub FixedPointsAreFixed : Type 0
FixedPointsAreFixed = (rules : Rules) (k place digit : ℕ) (letter other : ℤ) → HasFixedPoint rules k → IsLetterAt rules place letter → digit < k → slice_get (image rules letter) digit ≡ Some other → IsLetterAt rules (place * k + digit) other

-- a morphism has a fixed point, or is refused
abbrev pub MorphismsArePromotedOrRefused : Type 0
MorphismsArePromotedOrRefused = (rules : Rules) → IsMorphism rules → ((k : ℕ) × HasFixedPoint rules k) ⊎ ((kind : MorphismKind) × IsRefusedAs rules kind)

-- and not both; and it has one base, or is refused as one kind
pub record HasOneKind (rules : Rules) : Type 0 where
  pub one_base : (j k : ℕ) → HasFixedPoint rules j → HasFixedPoint rules k → j ≡ k
  pub one_kind : (kind other : MorphismKind) → IsRefusedAs rules kind → IsRefusedAs rules other → kind ≡ other
  pub apart : (k : ℕ) (kind : MorphismKind) → HasFixedPoint rules k → ¬ IsRefusedAs rules kind

abbrev pub MorphismsHaveOneKind : Type 0
MorphismsHaveOneKind = (rules : Rules) → HasOneKind rules

-- a morphism has one promotion, or is refused by one fault
abbrev pub PromotionsHaveOneOutcome : Type 0
PromotionsHaveOneOutcome = (rules : Rules) → HasOneAnswer (Step Memory) (DoesPromote rules)
