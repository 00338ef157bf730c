-- The step `split`: from a base to its root.
use Rattle.std.specs.Prelude.{◌≡◌, ℕ, ◌<◌, ◌^◌, List, [], ◌∷◌, ◌++◌}
use Rattle.digit_tuple.specs.Letters.{IsWord}
use Rattle.digit_tuple.specs.Paddings.{zeros}
use Rattle.digit_tuple.specs.declared.kind.Kind.TheVariants as kinds
use Rattle.automaton_steps.specs.Makings.{Making}
use Rattle.word_output.specs.LetterFunctions.{LetterFunctionValue, IsLetterFunction, letter_after, SameLettersAfter}
use Rattle.base_change.specs.Digits.{expanded, grouped, remaining}

-- A word over base r has the letter of the word over base r ^ b that is, digit by digit expanded, that word and the zeros that its last
-- group of b digits wants. The least significant digit comes first in both.
pub record IsSplit (r b : ℕ) (f g : LetterFunctionValue) : Type 0 where
  pub sizes : g.automaton.sizes ≡ r ∷ []
  pub function : IsLetterFunction g
  pub letters : (w v : List ℕ) (more : ℕ) → IsWord r w → IsWord (r ^ b) v → expanded r b v ≡ w ++ zeros more → more < b → letter_after g w ≡ letter_after f v

-- the same digits are left of both words after their whole groups, and the same letters follow what the groups are
pub record SplitAlike (r b : ℕ) (f : LetterFunctionValue) (w v : List ℕ) : Type 0 where
  pub left : remaining b w ≡ remaining b v
  pub letters : SameLettersAfter f (grouped r b w) (grouped r b v)

-- the step
abbrev pub split_step : ℕ → ℕ → LetterFunctionValue → Making LetterFunctionValue
split_step r b f = record {
  step = record { kind = kinds.Split; sizes = r ∷ []; alike = SplitAlike r b f };
  automaton_of = λ g. g.automaton;
  IsMade = IsSplit r b f;
}
