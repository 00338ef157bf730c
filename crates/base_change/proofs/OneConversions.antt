-- A conversion has one outcome.
use Rattle.std.proofs.Common.{◌≡◌, inl, inr, ℕ, ◌<◌, ◌≤◌, Ok, Err, sym, ap, ◌∙◌, arith}
use Rattle.digit_tuple.specs.StepResults.{Then}
use Rattle.digit_tuple.specs.Steps.{StepLog}
use Rattle.digit_tuple.specs.declared.direction.Direction.{Direction}
use Rattle.digit_tuple.specs.declared.direction.Direction.TheVariants.{Msd, Lsd}
use Rattle.digit_tuple.specs.declared.step_fault.StepFault.{StepFault}
use Rattle.digit_tuple.specs.declared.step_fault.StepFault.TheVariants.{Memory}
use Rattle.automaton_steps.specs.Laws.{HasOneOutcome}
use Rattle.automaton_steps.specs.Makings.{Making}
use Rattle.automaton_steps.specs.OneAnswers.{AreOneAnswer, HasOneAnswer}
use Rattle.automaton_steps.proofs.AnswerCases.{memory_alone, one_value, raised_one}
use Rattle.automaton_steps.proofs.ThenAnswers.{gives_one, then_one}
use Rattle.letter_reversal.specs.Laws.{LetterReversalsHaveOneOutcome}
use Rattle.num_system.specs.Sealed.{SystemValue}
use Rattle.num_system.specs.Tracks.{direction_of}
use Rattle.word_output.specs.LetterFunctions.{LetterFunctionValue}
use Rattle.word_output.specs.Words.{WordValue}
use Rattle.base_change.specs.Conversions.{ConversionsHaveOneOutcome, DoesConversion, DoesLetters, DoesTurn, DoesUnlessFirst}
use Rattle.base_change.specs.Joins.{join_step}
use Rattle.base_change.specs.Splits.{split_step}
use Rattle.base_change.specs.declared.related.CommonRoot.{CommonRoot}
use Rattle.base_change.proofs.OneResults.{join_outcome, split_outcome}

-- a step that is made unless the power is the first one
unless_one : (power : ℕ) (making : Making LetterFunctionValue) (f : LetterFunctionValue) → (1 < power → HasOneOutcome making) → HasOneAnswer Memory (DoesUnlessFirst power making f)
unless_one power making f one old new next result other (inl a) (inl b) = gives_one f old new next result other a.1 b.1
unless_one power making f one old new next result other (inl a) (inr b) = absurd (omega (arith, a.0, b.0))
unless_one power making f one old new next result other (inr a) (inl b) = absurd (omega (arith, a.0, b.0))
unless_one power making f one old new next result other (inr a) (inr b) = one a.0 old new next result other a.1 b.1

module _ (reversal : LetterReversalsHaveOneOutcome) where
  turn_one : (direction : Direction) (f : LetterFunctionValue) → HasOneAnswer Memory (DoesTurn direction f)
  turn_one Msd f = reversal f
  turn_one Lsd f = gives_one f

  module _ (from to : Direction) (common : CommonRoot) (low : 2 ≤ common.root) where
    letters_one : (f : LetterFunctionValue) → HasOneAnswer Memory (DoesLetters from common to f)
    letters_one f =
        then_one Memory (DoesTurn from f)
        (λ turned. Then (DoesUnlessFirst common.old_power (split_step common.root common.old_power turned) turned)
        (λ split. Then (DoesUnlessFirst common.new_power (join_step common.root common.new_power split) split) (DoesTurn to)))
        (turn_one from f)
        (λ turned. then_one Memory (DoesUnlessFirst common.old_power (split_step common.root common.old_power turned) turned)
        (λ split. Then (DoesUnlessFirst common.new_power (join_step common.root common.new_power split) split) (DoesTurn to))
        (unless_one common.old_power (split_step common.root common.old_power turned) turned (λ more. split_outcome common.root common.old_power turned low (omega (arith, more))))
        (λ split. then_one Memory (DoesUnlessFirst common.new_power (join_step common.root common.new_power split) split) (DoesTurn to)
        (unless_one common.new_power (join_step common.root common.new_power split) split (λ more. join_outcome common.root common.new_power split))
        (turn_one to)))

  module _ (word : WordValue) (system : SystemValue) (common : CommonRoot) (low : 2 ≤ common.root) (old new next : StepLog) where
    one : HasOneAnswer Memory (DoesLetters (direction_of word.systems) common system.direction word.function)
    one = letters_one (direction_of word.systems) system.direction common low word.function

    one_word : (v u : WordValue) → DoesConversion word system common old (Ok v) new → DoesConversion word system common old (Ok u) next → AreOneAnswer Memory (Ok v) (Ok u) new next
    one_word v u a b =
        let same = one_value Memory new next v.function u.function (one old new next (Ok v.function) (Ok u.function) a.0 b.0) in
        let tracks = a.1 ∙ sym b.1 in
        inl (ap Ok (let words : v ≡ u = λ i. record { systems = tracks i; function = same.0 i } in words), same.1)

    -- beside a word no step is refused
    memory_only : (v : WordValue) (fault : StepFault) → DoesConversion word system common old (Ok v) new → DoesConversion word system common old (Err fault) next → fault ≡ Memory
    memory_only v fault made (inl out) = out.0
    memory_only v fault made (inr failed) = memory_alone Memory new next v.function fault (one old new next (Ok v.function) (Err fault) made.0 failed)

    one_fault : (fault other : StepFault) → DoesConversion word system common old (Err fault) new → DoesConversion word system common old (Err other) next → AreOneAnswer {Made = WordValue} Memory (Err fault) (Err other) new next
    one_fault fault other (inl out) b = inr (inl (ap Err out.0))
    one_fault fault other (inr a) (inl out) = inr (inr (ap Err out.0))
    one_fault fault other (inr a) (inr b) = raised_one (λ (f : StepFault). f) Memory new next fault other (one old new next (Err fault) (Err other) a b)

  pub conversions_one : ConversionsHaveOneOutcome
  conversions_one word system common low old new next (Ok v) (Ok u) a b = one_word word system common low old new next v u a b
  conversions_one word system common low old new next (Ok v) (Err other) a b = inr (inr (ap Err (memory_only word system common low old new next v other a b)))
  conversions_one word system common low old new next (Err fault) (Ok u) a b = inr (inl (ap Err (memory_only word system common low old next new u fault b a)))
  conversions_one word system common low old new next (Err fault) (Err other) a b = one_fault word system common low old new next fault other a b
