-- The step that makes the fixed point of a morphism an automatic word.
use Rattle.std.specs.Prelude.{◌≡◌, ◌↔◌, ◌⊎◌, ℕ, ℤ, List, [], ◌∷◌, Result, Ok, Err}
use Rattle.digit_tuple.specs.Steps.{StepLog}
use Rattle.digit_tuple.specs.declared.direction.Direction.TheVariants.{Msd}
use Rattle.digit_tuple.specs.declared.kind.Kind.TheVariants as kinds
use Rattle.digit_tuple.specs.declared.step_fault.StepFault.TheVariants.{Memory}
use Rattle.base_k.specs.Positional.{base, value}
use Rattle.num_system.specs.Tracks.{systems_of, direction_of}
use Rattle.automaton_steps.specs.Makings.{Making, DoesStep}
use Rattle.word_output.specs.Words.{HasLetter, IsWordValue, WordValue}
use Rattle.morph_words.specs.Rules.{Rules}
use Rattle.morph_words.specs.FixedPoint.{IsLetterAt}
use Rattle.morph_words.specs.MorphismKinds.{HasFixedPoint, IsRefusedAs}
use Rattle.fixed_points.specs.declared.promote_fault.PromoteFault.{PromoteFault}
use Rattle.fixed_points.specs.declared.promote_fault.PromoteFault.TheVariants.{Morphism, Step}

-- the word, in base k with the most significant digit first, has the letter of the fixed point at each position
pub record IsFixedWord (rules : Rules) (k : ℕ) (word : WordValue) : Type 0 where
  pub word_is : IsWordValue word
  pub system : systems_of word.systems ≡ base k ∷ []
  pub direction : direction_of word.systems ≡ Msd
  pub letters : (place : ℕ) (letter : ℤ) → HasLetter word (place ∷ []) letter ↔ IsLetterAt rules place letter

-- the fixed point has the same letter at the positions that the words represent in base k: so the width is the number of letters that occur
abbrev pub SamePlaceLetter : Rules → ℕ → List ℕ → List ℕ → Type 0
SamePlaceLetter rules k w v = (letter : ℤ) → IsLetterAt rules (value k w) letter ↔ IsLetterAt rules (value k v) letter

-- the step
abbrev pub promote_step : Rules → ℕ → Making WordValue
promote_step rules k = record {
  step = record { kind = kinds.Promote; sizes = k ∷ []; alike = SamePlaceLetter rules k };
  automaton_of = λ word. word.function.automaton;
  IsMade = IsFixedWord rules k;
}

-- The morphism has a fixed point in a base, and the step is done or refused. Or it has none, or memory runs out before that is known, and no
-- step is made.
abbrev pub DoesPromote : Rules → StepLog → Result WordValue PromoteFault → StepLog → Type 0
DoesPromote rules old (Ok word) new = (k : ℕ) × HasFixedPoint rules k × DoesStep (promote_step rules k) old (Ok word) new
DoesPromote rules old (Err (Step fault)) new = ((fault ≡ Memory) × (new ≡ old)) ⊎ ((k : ℕ) × HasFixedPoint rules k × DoesStep (promote_step rules k) old (Err fault) new)
DoesPromote rules old (Err (Morphism kind)) new = IsRefusedAs rules kind × (new ≡ old)
