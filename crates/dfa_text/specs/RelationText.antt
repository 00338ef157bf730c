-- The text of a deterministic automaton.
use Rattle.std.specs.Prelude.{ℕ, Bool, if◌then◌else◌, ℤ, pos, List, [], ◌∷◌, ◌++◌, map, slice_index_or, Option, None, Some, codes, decimal}
use Rattle.std.specs.Fmt.{signed_decimal}
use Rattle.std.specs.List.{flat_map, join_by, range_with_len}
use Rattle.digit_tuple.specs.Deterministic.{Automaton, letters_of, states_of, accepting_of, step_of}
use Rattle.digit_tuple.specs.Headers.{sets_of}
use Rattle.digit_tuple.specs.declared.transitions.Transition.{Transition}
use Rattle.digit_tuple.specs.declared.header.Header.{Header}
use Rattle.digit_tuple.specs.declared.header.Header.TheVariants.{Sets, Systems}
use Rattle.digit_tuple.specs.declared.systems.SystemTrack.{SystemTrack}
use Rattle.dfa_text.specs.Parts.{header_text, tuples_of, state_text, text_of_lines}

-- the names of systems, with a blank between two of them
abbrev pub names_text : List SystemTrack → List ℕ
names_text systems = join_by (λ system. system.name) (codes " ") systems

-- the line of a header: its sets, or the names of its systems
abbrev pub header_line : Header → List ℕ
header_line (Sets sets) = header_text sets
header_line (Systems systems) = names_text systems

-- the tuple of a letter
abbrev pub tuple_of : List (List ℤ) → ℕ → List ℤ
tuple_of sets letter = slice_index_or (tuples_of sets) letter []

-- the line of a tuple that leads to a state
abbrev pub step_line : List ℤ → ℕ → List ℕ
step_line tuple target = join_by signed_decimal (codes " ") tuple ++ (codes " -> " ++ decimal target)

-- the line of a tuple, if it leads anywhere
abbrev pub step_lines : List ℤ → Option ℕ → List (List ℕ)
step_lines tuple None = []
step_lines tuple (Some target) = step_line tuple target ∷ []

-- the line of a transition, and its end
abbrev pub transition_text : List (List ℤ) → Transition → List ℕ
transition_text sets transition = step_line (tuple_of sets transition.letter) transition.target ++ codes "\n"

-- the lines of a state's letters, in order
abbrev pub steps_lines : List (List ℤ) → Automaton → ℕ → List (List ℕ)
steps_lines sets d q = flat_map (λ letter. step_lines (tuple_of sets letter) (step_of d q letter)) (range_with_len 0 (letters_of d))

-- a blank line, the state's number and output, and the lines of its letters
abbrev pub state_lines : List (List ℤ) → Automaton → List (Option ℤ) → ℕ → List (List ℕ)
state_lines sets d outputs q = [] ∷ state_text q (slice_index_or outputs q None) ∷ steps_lines sets d q

-- the text of an automaton whose states have these outputs: the header, and then the states in order
unfoldable pub word_text : Header → Automaton → List (Option ℤ) → List ℕ
word_text header d outputs = text_of_lines (header_line header ∷ flat_map (state_lines (sets_of header) d outputs) (range_with_len 0 (states_of d)))

abbrev pub output_listed : Bool → Option ℤ
output_listed accepting = if accepting then Some (pos 1) else Some (pos 0)

-- 1 for each accepting state, and 0 for each other
abbrev pub outputs_of : Automaton → List (Option ℤ)
outputs_of d = map (λ q. output_listed (accepting_of d q)) (range_with_len 0 (states_of d))

-- the text of an automaton that accepts words
unfoldable pub relation_text : Header → Automaton → List ℕ
relation_text header d = word_text header d (outputs_of d)
