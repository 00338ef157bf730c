-- Laws of the change of bases.
use Rattle.std.specs.Prelude.{ℕ, ◌≤◌, ◌^◌}
use Rattle.digit_tuple.specs.Width.{IsOneWidth}
use Rattle.digit_tuple.specs.declared.direction.Direction.TheVariants.{Lsd}
use Rattle.automaton_steps.specs.Laws.{HasOneOutcome}
use Rattle.word_output.specs.LetterFunctions.{LetterFunctionValue}
use Rattle.base_change.specs.Joins.{IsJoin, JoinAlike, join_step}
use Rattle.base_change.specs.Places.{HasLettersOfPlaces, KeepsPlaces}
use Rattle.base_change.specs.Splits.{IsSplit, SplitAlike, split_step}

-- the step `split` keeps the letters of positions
abbrev pub SplitsKeepPlaces : Type 0
SplitsKeepPlaces = (r b : ℕ) (f g : LetterFunctionValue) → 2 ≤ r → 1 ≤ b → HasLettersOfPlaces Lsd (r ^ b) f → IsSplit r b f g → KeepsPlaces Lsd (r ^ b) f Lsd r g

-- and so does the step `join`
abbrev pub JoinsKeepPlaces : Type 0
JoinsKeepPlaces = (r a : ℕ) (f g : LetterFunctionValue) → 2 ≤ r → 1 ≤ a → HasLettersOfPlaces Lsd r f → IsJoin r a f g → KeepsPlaces Lsd r f Lsd (r ^ a) g

-- the step `split` has one width, and one outcome
abbrev pub OneSplitWidth : Type 0
OneSplitWidth = (r b : ℕ) (f : LetterFunctionValue) → IsOneWidth (SplitAlike r b f) r

abbrev pub SplitHasOneOutcome : Type 0
SplitHasOneOutcome = (r b : ℕ) (f : LetterFunctionValue) → 2 ≤ r → 1 ≤ b → HasOneOutcome (split_step r b f)

-- and so has the step `join`
abbrev pub OneJoinWidth : Type 0
OneJoinWidth = (r a : ℕ) (f : LetterFunctionValue) → IsOneWidth (JoinAlike r a f) (r ^ a)

abbrev pub JoinHasOneOutcome : Type 0
JoinHasOneOutcome = (r a : ℕ) (f : LetterFunctionValue) → HasOneOutcome (join_step r a f)
