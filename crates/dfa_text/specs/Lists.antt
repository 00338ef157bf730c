-- What the text of an automaton lists.
use Rattle.std.specs.Prelude.{◌≡◌, ℕ, ◌/◌, ◌%◌, ◌<◌, ◌≤◌, true, ℤ, FitsSigned, List, [], ◌∷◌, map, length, Option, None, Some, IfSome, Ok}
use Rattle.std.specs.Int.{w32}
use Rattle.std.specs.List.{All, flat_map, range_with_len}
use Rattle.digit_tuple.specs.Deterministic.{Automaton, IsTable, letters_of, states_of, step_of}
use Rattle.digit_tuple.specs.Headers.{sets_of}
use Rattle.digit_tuple.specs.Letters.{product}
use Rattle.digit_tuple.specs.Sets.{sizes_of}
use Rattle.digit_tuple.specs.Systems.{IsDigitCount}
use Rattle.digit_tuple.specs.declared.header.Header.{Header}
use Rattle.digit_tuple.specs.declared.header.Header.TheVariants.{Sets, Systems}
use Rattle.digit_tuple.specs.declared.systems.SystemTrack.{SystemTrack}
use Rattle.dfa_reading.specs.Headers as file
use Rattle.dfa_reading.specs.Listed.{ListedLine, Listed}
use Rattle.dfa_reading.specs.Reading.{relation_of}
use Rattle.dfa_reading.specs.WordFiles.{word_of}
use Rattle.text_grammar.specs.Systems.{is_system}
use Rattle.dfa_reading.specs.Systems.{of_one_direction, digit_limit}
use Rattle.dfa_text.specs.Meaning.{AreTrackSets}
use Rattle.dfa_text.specs.RelationText.{word_text, outputs_of, relation_text}
pub use Rattle.dfa_text.specs.RelationText.{output_listed}

abbrev pub names_of : List SystemTrack → List (List ℕ)
names_of systems = map (λ system. system.name) systems

-- the header that is read
abbrev pub header_listed : Header → file.Header
header_listed (Sets sets) = file.Sets sets
header_listed (Systems systems) = file.Systems (names_of systems)

-- the digits of a letter
abbrev pub digits_of_letter : List ℕ → ℕ → List ℕ
digits_of_letter [] letter = []
digits_of_letter (size ∷ sizes) letter = (letter / product sizes) ∷ digits_of_letter sizes (letter % product sizes)

-- the transitions of a state by one letter, if it leads anywhere, and by all
abbrev pub step_listed : ℕ → List ℕ → Option ℕ → List ListedLine
step_listed q digits None = []
step_listed q digits (Some target) = record { state = q; digits = map Some digits; targets = target ∷ [] } ∷ []

abbrev pub steps_listed : Automaton → ℕ → List ListedLine
steps_listed d q = flat_map (λ letter. step_listed q (digits_of_letter d.sizes letter) (step_of d q letter)) (range_with_len 0 (letters_of d))

-- the automaton with outputs: its header, the outputs of its states, and its transitions
abbrev pub word_listed : Header → Automaton → List (Option ℤ) → Listed
word_listed header d outputs = record {
  header = header_listed header;
  outputs = outputs;
  lines = flat_map (steps_listed d) (range_with_len 0 (states_of d));
}

-- the automaton, with 1 for each accepting state and 0 for each other
abbrev pub automaton_listed : Header → Automaton → Listed
automaton_listed header d = word_listed header d (outputs_of d)

-- a system's track: its name is one, and the format takes its digits
pub record IsSystemTrack (system : SystemTrack) : Type 0 where
  pub name : is_system system.name ≡ true
  pub count : IsDigitCount system.digits
  pub within : system.digits ≤ digit_limit system.name

-- systems of one direction, at least one
pub record AreTrackSystems (systems : List SystemTrack) : Type 0 where
  pub each : All IsSystemTrack systems
  pub alike : of_one_direction (names_of systems) ≡ Some (names_of systems)

-- a header that a file may have
abbrev pub IsFileHeader : Header → Type 0
IsFileHeader (Sets sets) = AreTrackSets sets
IsFileHeader (Systems systems) = AreTrackSystems systems

-- an automaton over the tracks of a header that a file may have
pub record IsAutomatonUnder (header : Header) (d : Automaton) : Type 0 where
  pub tracks : IsFileHeader header
  pub sizes : d.sizes ≡ sizes_of (sets_of header)
  pub table : IsTable (letters_of d) d.states

-- an output for each state, each a number of 32 bits or no letter
pub record AreOutputs (d : Automaton) (outputs : List (Option ℤ)) : Type 0 where
  pub count : length outputs ≡ states_of d
  pub fits : All (λ output. IfSome output (FitsSigned w32)) outputs

-- the text of an automaton with outputs over systems, read again as a word's file, lists the automaton with these outputs
abbrev pub TextListsWord : Type 0
TextListsWord = (systems : List SystemTrack) (d : Automaton) (outputs : List (Option ℤ)) → IsAutomatonUnder (Systems systems) d → AreOutputs d outputs
    → word_of (word_text (Systems systems) d outputs) ≡ Ok (word_listed (Systems systems) d outputs)

-- over the same systems automata with outputs have the same text only where the outputs are the same and letters lead alike
abbrev pub EqualTextsHaveEqualWords : Type 0
EqualTextsHaveEqualWords = (systems : List SystemTrack) (d e : Automaton) (outputs others : List (Option ℤ)) → IsAutomatonUnder (Systems systems) d → IsAutomatonUnder (Systems systems) e → AreOutputs d outputs → AreOutputs e others
    → word_text (Systems systems) d outputs ≡ word_text (Systems systems) e others → (outputs ≡ others) × ((q letter : ℕ) → q < states_of d → letter < letters_of d → step_of d q letter ≡ step_of e q letter)

-- the text of an automaton, read again, lists the automaton
abbrev pub TextListsAutomaton : Type 0
TextListsAutomaton = (header : Header) (d : Automaton) → IsAutomatonUnder header d → relation_of (relation_text header d) ≡ Ok (automaton_listed header d)
