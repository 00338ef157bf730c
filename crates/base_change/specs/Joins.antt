-- The step `join`: from a base to a power of it.
use Rattle.std.specs.Prelude.{◌≡◌, ℕ, ◌^◌, List, [], ◌∷◌}
use Rattle.digit_tuple.specs.Letters.{IsWord}
use Rattle.digit_tuple.specs.declared.kind.Kind.TheVariants as kinds
use Rattle.automaton_steps.specs.Makings.{Making}
use Rattle.word_output.specs.LetterFunctions.{LetterFunctionValue, IsLetterFunction, letter_after, SameLettersAfter}
use Rattle.base_change.specs.Digits.{expanded}

-- a word over base r ^ a has the letter of the word over base r that it is, digit by digit expanded
pub record IsJoin (r a : ℕ) (f g : LetterFunctionValue) : Type 0 where
  pub sizes : g.automaton.sizes ≡ r ^ a ∷ []
  pub function : IsLetterFunction g
  pub letters : (w : List ℕ) → IsWord (r ^ a) w → letter_after g w ≡ letter_after f (expanded r a w)

-- the same letters follow both words, expanded
abbrev pub JoinAlike : ℕ → ℕ → LetterFunctionValue → List ℕ → List ℕ → Type 0
JoinAlike r a f w v = SameLettersAfter f (expanded r a w) (expanded r a v)

-- the step
abbrev pub join_step : ℕ → ℕ → LetterFunctionValue → Making LetterFunctionValue
join_step r a f = record {
  step = record { kind = kinds.Join; sizes = r ^ a ∷ []; alike = JoinAlike r a f };
  automaton_of = λ g. g.automaton;
  IsMade = IsJoin r a f;
}
