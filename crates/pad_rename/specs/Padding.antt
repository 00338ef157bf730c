-- Closure under zeros at the end of the most significant letters, and the kinds of words that it distinguishes.
use Rattle.std.specs.Prelude.{◌≡◌, ℕ, List, [], ◌++◌, ◌↔◌, IsTrue}
use Rattle.digit_tuple.specs.declared.direction.Direction.{Direction}
use Rattle.digit_tuple.specs.declared.direction.Direction.TheVariants.{Msd, Lsd}
use Rattle.digit_tuple.specs.Deterministic.{Automaton, letters_of, accepts_of}
use Rattle.digit_tuple.specs.Letters.{IsWord}
use Rattle.digit_tuple.specs.Paddings.{zeros, without_zeros, strip}
use Rattle.minimise.specs.Residuals.{IsEmptyAfter, SameAfter}

-- some word is accepted that is the same but for the zeros at the end of the most significant letters
abbrev pub IsPadded : Direction → Automaton → List ℕ → Type 0
IsPadded direction d w = (v : List ℕ) × IsWord (letters_of d) v × (strip direction v ≡ strip direction w) × IsTrue (accepts_of d v)

-- all letters are zero
abbrev pub AreZeros : List ℕ → Type 0
AreZeros w = without_zeros w ≡ []

-- each non-empty residual after zeros and w is one after zeros and v
abbrev pub HasResidualsOf : Automaton → List ℕ → List ℕ → Type 0
HasResidualsOf d w v = (k : ℕ) → ¬ IsEmptyAfter d (zeros k ++ w) → (l : ℕ) × SameAfter d (zeros k ++ w) (zeros l ++ v)

-- both or neither of the words are all zeros, and the same set of non-empty residuals is that after zeros and the
-- one without its leading zeros, and after zeros and the other without its own
pub record MsdPaddedAlike (d : Automaton) (w v : List ℕ) : Type 0 where
  pub zeros : AreZeros w ↔ AreZeros v
  pub to : HasResidualsOf d (without_zeros w) (without_zeros v)
  pub back : HasResidualsOf d (without_zeros v) (without_zeros w)

-- one residual, which may be empty, is that after both words, and one that after both without their trailing zeros
pub record LsdPaddedAlike (d : Automaton) (w v : List ℕ) : Type 0 where
  pub stripped : SameAfter d (strip Lsd w) (strip Lsd v)
  pub whole : SameAfter d w v

-- the words are alike to the closure under padding
abbrev pub PaddedAlike : Direction → Automaton → List ℕ → List ℕ → Type 0
PaddedAlike Msd d w v = MsdPaddedAlike d w v
PaddedAlike Lsd d w v = LsdPaddedAlike d w v
