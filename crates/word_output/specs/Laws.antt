-- Laws of automatic words.
use Rattle.std.specs.Prelude.{◌≡◌, ◌↔◌, ℕ, ℤ, List, ◌++◌, map, length, Ok}
use Rattle.digit_tuple.specs.Deterministic.{Automaton}
use Rattle.digit_tuple.specs.Names.{joint_names}
use Rattle.digit_tuple.specs.Steps.{StepLog}
use Rattle.digit_tuple.specs.declared.step_fault.StepFault.TheVariants.{Memory}
use Rattle.dfa_reading.specs.Listed.{Listed}
use Rattle.dfa_reading.specs.WordFiles.{IsWordListed}
use Rattle.minimise.specs.Tracked.{NamedAutomaton}
use Rattle.numeration.specs.Relations.{HoldsOf}
use Rattle.num_system.specs.Sealed.{SystemValue}
use Rattle.num_system.specs.Tracks.{AgreeUnder, ShareDirection, number_under, systems_of, systems_under, direction_of}
use Rattle.num_system.specs.declared.comparison.Comparison.{Comparison}
use Rattle.automaton_steps.specs.Laws.{HasOneOutcome}
use Rattle.automaton_steps.specs.OneAnswers.{HasOneAnswer}
use Rattle.word_output.specs.LetterFunctions.{LetterFunctionValue}
use Rattle.word_output.specs.LetterSets.{ComparesLetters, IsLetterSet}
use Rattle.word_output.specs.WordPairs.{IsPair, PlacedLetters, pair_step}
use Rattle.word_output.specs.WordReadings.{DoesWord, DoesWordSteps, HasListedLetterAt}
use Rattle.word_output.specs.Words.{HasLetter, IsWordValue, WordValue}

-- a word that is read has at each position the letter that is listed there
abbrev pub WordsHaveListedLetters : Type 0
WordsHaveListedLetters = (old new : StepLog) (listed : Listed) (v : WordValue) → IsWordListed listed → IsWordValue v → DoesWordSteps v.systems listed old (Ok v.function) new
    → (ns : List ℕ) (letter : ℤ) → HasLetter v ns letter ↔ HasListedLetterAt (direction_of v.systems) (systems_of v.systems) listed ns letter

-- a position has one letter at most
abbrev pub PlacesHaveOneLetter : Type 0
PlacesHaveOneLetter = (v : WordValue) (ns : List ℕ) (b c : ℤ) → IsWordValue v → HasLetter v ns b → HasLetter v ns c → b ≡ c

-- words over the same systems with the same letters are equal
abbrev pub LettersDetermineWords : Type 0
LettersDetermineWords = (v u : WordValue) → IsWordValue v → IsWordValue u → v.systems ≡ u.systems → ((ns : List ℕ) (letter : ℤ) → HasLetter v ns letter ↔ HasLetter u ns letter) → v ≡ u

-- the automaton of a set of letters holds of the positions that have such a letter
abbrev pub LetterSetsHold : Type 0
LetterSetsHold = (v : WordValue) (comparison : Comparison) (letter : ℤ) (d : Automaton) → IsWordValue v → IsLetterSet comparison letter v.function d
    → HoldsOf (direction_of v.systems) (systems_of v.systems) (λ ns. (b : ℤ) × HasLetter v ns b × ComparesLetters comparison b letter) d

-- that of a pair holds of the numbers under the names for which both words have letters that compare so
abbrev pub PairsHold : Type 0
PairsHold = (v u : WordValue) (under others : List (List ℕ)) (comparison : Comparison) (paired : NamedAutomaton)
    → IsWordValue v → IsWordValue u → length under ≡ length v.systems → length others ≡ length u.systems
    → AgreeUnder (under ++ others) (v.systems ++ u.systems) → ShareDirection (v.systems ++ u.systems)
    → IsPair comparison (record { function = v.function; under = under }) (record { function = u.function; under = others }) paired
    → HoldsOf (direction_of v.systems) (systems_of (systems_under (under ++ others) (v.systems ++ u.systems) (joint_names under others)))
    (λ ns. (b : ℤ) × (c : ℤ) × HasLetter v (map (number_under (joint_names under others) ns) under) b × HasLetter u (map (number_under (joint_names under others) ns) others) c × ComparesLetters comparison b c)
    paired.automaton

-- one automaton is that of the letters that compare so
abbrev pub OneLetterSet : Type 0
OneLetterSet = (comparison : Comparison) (letter : ℤ) (f : LetterFunctionValue) (d e : Automaton) → IsLetterSet comparison letter f d → IsLetterSet comparison letter f e → d ≡ e

-- the step of a pair has one outcome
abbrev pub PairsHaveOneOutcome : Type 0
PairsHaveOneOutcome = (comparison : Comparison) (a b : PlacedLetters) → HasOneOutcome (pair_step comparison a b)

-- what a file lists is read as one word, or refused at one step
abbrev pub WordReadingsHaveOneOutcome : Type 0
WordReadingsHaveOneOutcome = (systems : List SystemValue) (listed : Listed) → HasOneAnswer Memory (DoesWord systems listed)
