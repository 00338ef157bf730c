-- The lines of the steps of tables do not depend on the lines before them.
use Rattle.std.proofs.Common.{ℕ, Bool, List, inl, inr, refl}
use Rattle.digit_tuple.specs.Automaton.{Branching}
use Rattle.automaton_steps.specs.Makings.{DoesStep, Gives, WithSome}
use Rattle.automaton_steps.specs.PadSteps.{pad_step}
use Rattle.automaton_steps.specs.ReadSteps.{read_step}
use Rattle.dfa_reading.specs.Headers.{Header, Truth, Systems, Sets}
use Rattle.dfa_reading.specs.Listed.{Listed}
use Rattle.numeration.specs.Representation.{sizes_of}
use Rattle.num_system.specs.Sealed.{SystemValue}
use Rattle.num_system.specs.Tracks.{languages_of, systems_of, direction_of}
use Rattle.number_relations.specs.Comparisons.{IsTruth}
use Rattle.number_relations.specs.Readings.{DoesReading, reading_valid_step}
use Rattle.number_relations.specs.Relations.{RelationValue}
use Rattle.word_output.specs.LetterPaddings.{letter_pad_step}
use Rattle.word_output.specs.LetterReadings.{letter_read_step}
use Rattle.word_output.specs.ValidLetters.{valid_letters_step}
use Rattle.word_output.specs.WordReadings.{DoesWord, DoesWordSteps}
use Rattle.definitions.specs.TableSteps.{DoesTable, DoesTableOf}
use Rattle.step_lines.proofs.ShiftedSteps.{Shifts, still, step_shifts, then_shifts}

reading_shifts : (systems : List SystemValue) (branching : Branching) → Shifts (DoesReading systems branching)
reading_shifts systems branching =
    then_shifts (DoesStep (read_step branching)) _ (step_shifts (read_step branching))
    (λ read. then_shifts (DoesStep (pad_step (direction_of systems) read)) _ (step_shifts (pad_step (direction_of systems) read)) (λ closed. step_shifts (reading_valid_step systems closed)))

truth_shifts : (value : Bool) → Shifts (WithSome (IsTruth value) (Gives {Made = RelationValue}))
truth_shifts value old new made (inl out) = absurd cc
truth_shifts value old new made (inr (r, is, (gives, same))) = still (WithSome (IsTruth value) Gives) old new made same (λ other. inr (r, is, (gives, refl)))

over_shifts : (names : List (List ℕ)) (systems : List SystemValue) (listed : Listed) → Shifts (DoesTableOf (Systems names) systems listed)
over_shifts names systems listed old new made (inl large) = let e = large.refused in absurd cc
over_shifts names systems listed old new made (inr (inl out)) = absurd cc
over_shifts names systems listed old new made (inr (inr (branching, over, does))) =
    let by = reading_shifts systems branching old new made does in
    record { lines = by.lines; new_is = by.new_is; shift = λ other limit. inr (inr (branching, over, by.shift other limit)) }

by_header : (header : Header) (systems : List SystemValue) (listed : Listed) → Shifts (DoesTableOf header systems listed)
by_header (Truth value) systems listed = truth_shifts value
by_header (Systems names) systems listed = over_shifts names systems listed
by_header (Sets sets) systems listed = λ old new made does. absurd does

pub table_shifts : (systems : List SystemValue) (listed : Listed) → Shifts (DoesTable systems listed)
table_shifts systems listed = by_header listed.header systems listed

word_steps_shift : (systems : List SystemValue) (listed : Listed) → Shifts (DoesWordSteps systems listed)
word_steps_shift systems listed =
    let read = letter_read_step (sizes_of (systems_of systems)) listed in
    then_shifts (DoesStep read) _ (step_shifts read)
    (λ f. then_shifts (DoesStep (letter_pad_step (direction_of systems) f)) _ (step_shifts (letter_pad_step (direction_of systems) f)) (λ padded. step_shifts (valid_letters_step (languages_of systems) padded)))

pub word_shifts : (systems : List SystemValue) (listed : Listed) → Shifts (DoesWord systems listed)
word_shifts systems listed old new word (does, over) =
    let by = word_steps_shift systems listed old new word.function does in
    record { lines = by.lines; new_is = by.new_is; shift = λ other limit. (by.shift other limit, over) }
