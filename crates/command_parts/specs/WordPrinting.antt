-- The texts of words under the names of systems.
use Rattle.std.specs.Prelude.{◌≡◌, ℕ, ◌<◌, ◌≤◌, List, [], ◌∷◌, length, ⊤, Bool, Result, MatchResult}
use Rattle.std.specs.List.{AllByRecursion}
use Rattle.digit_tuple.specs.Systems.{IsDigitCount}
use Rattle.digit_tuple.specs.declared.header.Header.TheVariants as headers
use Rattle.digit_tuple.specs.declared.systems.SystemTrack.{SystemTrack}
use Rattle.dfa_text.specs.RelationText.{word_text}
use Rattle.num_system.specs.Sealed.{SystemValue}
use Rattle.word_output.specs.Words.{WordValue}
use Rattle.word_output.specs.LetterFunctions.{outputs_of}
use Rattle.command_parts.specs.declared.text_refusal.TextRefusal.TheVariants as text_refusals
use Rattle.command_parts.specs.declared.refusal.Refusal.TheVariants as refusals
use Rattle.command_parts.specs.declared.fault.Fault.{Fault}
use Rattle.command_parts.specs.declared.file_change.Made.{Made}
use Rattle.command_parts.specs.Lines.{shown_steps}
use Rattle.digit_tuple.specs.declared.steps.StepLine.{StepLine}
use Rattle.command_parts.specs.declared.fault.Fault.TheVariants as faults

-- the tracks of these names over these systems, as long as there are both
abbrev pub tracks_named : List (List ℕ) → List SystemValue → List SystemTrack
tracks_named [] systems = []
tracks_named (name ∷ names) [] = []
tracks_named (name ∷ names) (s ∷ systems) = record { name = name; digits = s.digits } ∷ tracks_named names systems

-- there is a name for each of the systems, and each has as many digits as a track may have
pub record HaveNames (names : List (List ℕ)) (systems : List SystemValue) : Type 0 where
  pub count : length names ≡ length systems
  pub digits : AllByRecursion (λ (s : SystemValue). IsDigitCount s.digits) systems

-- the text of the word's automaton under the names
abbrev pub named_text : List (List ℕ) → WordValue → List ℕ
named_text names v = word_text (headers.Systems (tracks_named names v.systems)) v.function.automaton (outputs_of v.function)

-- it is this text, which a file may have
abbrev pub IsWordTextOf : List (List ℕ) → WordValue → List ℕ → Type 0
IsWordTextOf names v text = (text ≡ named_text names v) × (length text ≤ 16777216)

-- the text is too long, or memory ran out
abbrev pub HasNoWordText : List (List ℕ) → WordValue → Fault → Type 0
HasNoWordText names v (faults.Refused refusal) = (refusal ≡ refusals.Text (text_refusals.Long 16777216)) × (16777216 < length (named_text names v))
HasNoWordText names v (faults.Store folder name) = ⊥
HasNoWordText names v faults.Memory = ⊤

-- the text of a word under these names, and the lines of the steps; or why there is no text
pub record IsKept (names : List (List ℕ)) (word : WordValue) (shown : Bool) (lines : List StepLine) (made : Made) : Type 0 where
  pub text : IsWordTextOf names word made.stored.items
  pub printed : made.printed ≡ shown_steps shown lines

abbrev pub Keeps : List (List ℕ) → WordValue → Bool → List StepLine → Result Made Fault → Type 0
Keeps names word shown lines result = MatchResult result (IsKept names word shown lines) (HasNoWordText names word)
