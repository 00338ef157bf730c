-- What a `combine` does, by its checks in their order: the shape of its head, the files of the automata, their systems, that none is over sets,
-- that all have the systems of the first, its steps, and the length of the text to store. The systems of the word refuse nothing.
use Rattle.std.specs.Prelude.{◌≡◌, ◌≢◌, ◌⊎◌, ℕ, suc, List, [], ◌∷◌, map, None, Option, Some, if◌then◌else◌, Result, Ok, Err}
use Rattle.std.specs.List.{AllByRecursion}
use Rattle.digit_tuple.specs.Steps.{StepLog}
use Rattle.digit_tuple.specs.declared.direction.Direction.{Direction}
use Rattle.digit_tuple.specs.declared.steps.StepLine.{StepLine}
use Rattle.wal_outside.specs.declared.folder.Folder.TheVariants.{Automata, Words}
use Rattle.command_head.specs.Grammar.{DerivesCombine}
use Rattle.command_head.specs.Heads.{CombineHead, ValuedName}
use Rattle.command_head.specs.Values.{value_at}
use Rattle.dfa_loading.specs.Headers.{headers_of}
use Rattle.dfa_loading.specs.declared.loaded.Loaded.{Loaded}
use Rattle.formula_resolve.specs.FirstMentions.{first_files, first_systems}
use Rattle.formula_resolve.specs.Headers.{Headers, automaton_tracks, is_plain}
use Rattle.formula_resolve.specs.declared.file.File.{File}
use Rattle.formula_resolve.specs.declared.mention.Mention.{Mention}
use Rattle.formula_resolve.specs.declared.mention.Mention.TheVariants.{Called}
use Rattle.word_output.specs.Words.{WordValue}
use Rattle.definitions.specs.Named.{AreNamed}
use Rattle.definitions.specs.Tracks.{NamedSystem, names_of}
use Rattle.definitions.specs.Trees.{Combine, Defined, Ledger, Parts, no_parts, with_part, custom_of}
use Rattle.system_files.specs.SystemFiles.{Custom}
use Rattle.command_parts.specs.declared.shape_refusal.ShapeRefusal.TheVariants as shape_refusals
use Rattle.command_parts.specs.declared.refusal.Refusal.{Refusal}
use Rattle.command_parts.specs.declared.refusal.Refusal.TheVariants as refusals
use Rattle.command_parts.specs.declared.fault.Fault.TheVariants as faults
use Rattle.command_parts.specs.Accepting.{Success, stored}
use Rattle.command_parts.specs.Checks.{Check, Passing, Pure, Then, IsSingle}
use Rattle.word_commands.specs.CombineSteps.{AreCombineSteps, AreCombineStepsRefused}
use Rattle.command_parts.specs.FileChecks.{files_loaded}
use Rattle.command_parts.specs.HeadAnswers.{HeadAnswers}
use Rattle.command_parts.specs.SystemChecks.{systems_known}
use Rattle.command_parts.specs.TrackSystems.{fault_of}
use Rattle.digit_tuple.specs.declared.step_fault.StepFault.{StepFault}

-- the names of the listed automata
abbrev pub listed_names : List ValuedName → List (List ℕ)
listed_names automata = map (λ (v : ValuedName). v.name) automata

-- a listed automaton is mentioned as one that is called
abbrev pub listed_mentions : List ValuedName → List Mention
listed_mentions automata = map (λ (v : ValuedName). Called v.name 0) automata

-- the files of the automata, each once
abbrev pub listed_files : List ValuedName → List File
listed_files automata = first_files (listed_mentions automata)

-- the systems of their tracks, in the order of their first mention
abbrev pub listed_systems : List Loaded → List ValuedName → List (List ℕ)
listed_systems tables automata = first_systems (headers_of tables) (listed_mentions automata)

-- the first name of an automaton over sets, if there is one
abbrev pub first_plain : Headers → List (List ℕ) → Option (List ℕ)
first_plain h [] = None
first_plain h (name ∷ names) = if is_plain h name then Some name else first_plain h names

-- none is over sets, or this is the first that is
abbrev pub PlainAnswers : Headers → List (List ℕ) → Result (Unit {0}) Refusal → Type 0
PlainAnswers h names (Ok none) = first_plain h names ≡ None
PlainAnswers h names (Err refusal) = (name : List ℕ) × (refusal ≡ refusals.Shape (shape_refusals.Plain name)) × (first_plain h names ≡ Some name)

-- the first of the names whose automaton has not these systems
abbrev pub IsFirstOver : Headers → List (List ℕ) → List (List ℕ) → List ℕ → Type 0
IsFirstOver h tracks [] other = ⊥
IsFirstOver h tracks (name ∷ names) other = ((automaton_tracks h name ≢ tracks) × (other ≡ name)) ⊎ ((automaton_tracks h name ≡ tracks) × IsFirstOver h tracks names other)

-- the first automaton has a track, and all have its systems
abbrev pub HaveSystemsOfFirst : Headers → List (List ℕ) → Type 0
HaveSystemsOfFirst h [] = ⊥
HaveSystemsOfFirst h (name ∷ names) = (automaton_tracks h name ≢ []) × AllByRecursion (λ other. automaton_tracks h other ≡ automaton_tracks h name) names

-- the first has no track, or this later one is the first that has other systems
abbrev pub HaveShapeFault : Headers → List (List ℕ) → List ℕ → List ℕ → Type 0
HaveShapeFault h [] first other = ⊥
HaveShapeFault h (name ∷ names) first other = (first ≡ name) × (((automaton_tracks h name ≡ []) × (other ≡ name)) ⊎ ((automaton_tracks h name ≢ []) × IsFirstOver h (automaton_tracks h name) names other))

abbrev pub ShapeAnswers : Headers → List (List ℕ) → Result (Unit {0}) Refusal → Type 0
ShapeAnswers h names (Ok shape) = HaveSystemsOfFirst h names
ShapeAnswers h names (Err refusal) = (first : List ℕ) × (other : List ℕ) × (refusal ≡ refusals.Shape (shape_refusals.CombineShape first other)) × HaveShapeFault h names first other

-- the direction of the systems of the tracks, and what their names mean
pub record WordTracks : Type 0 where
  pub direction : Direction
  pub named : List NamedSystem

-- these are the systems of the first automaton's tracks
abbrev pub AreTracksOfFirst : Custom → Headers → List (List ℕ) → WordTracks → Type 0
AreTracksOfFirst custom h [] tracks = ⊥
AreTracksOfFirst custom h (name ∷ names) tracks = (automaton_tracks h name ≡ names_of tracks.named) × AreNamed custom tracks.direction tracks.named

-- the lines of the steps, or the number of the first one that passes a limit
abbrev pub CombinedAnswers : StepLog → Custom → List Loaded → List ValuedName → Result (List StepLine) Refusal → Type 0
CombinedAnswers admitted custom tables automata (Ok lines) = (word : WordValue) × AreCombineSteps admitted custom tables automata word lines
CombinedAnswers admitted custom tables automata (Err refusal) = (fault : StepFault) × (fault_of fault ≡ faults.Refused refusal) × AreCombineStepsRefused admitted custom tables automata fault

-- the definitions that the listed names mean now, with their values, the first at this place of the list
abbrev pub parts_from : Ledger → ℕ → List ValuedName → Parts
parts_from ledger place [] = no_parts
parts_from ledger place (v ∷ automata) = with_part (ledger Automata v.name) (value_at place v.value) (parts_from ledger (suc place) automata)

-- the checks after the systems: what is stored is the definitions that the listed names mean
abbrev pub after_listed_systems : Ledger → CombineHead → List Loaded → StepLog → Check Success
after_listed_systems ledger head tables admitted =
    Then (Pure (PlainAnswers (headers_of tables) (listed_names head.automata))) (λ none.
    Then (Pure (ShapeAnswers (headers_of tables) (listed_names head.automata))) (λ shape.
    Then (Pure (CombinedAnswers admitted (custom_of ledger) tables head.automata)) (λ lines.
    Then (Passing (AreTracksOfFirst (custom_of ledger) (headers_of tables) (listed_names head.automata))) (λ (tracks : WordTracks).
    stored (custom_of ledger) (record { folder = Words; name = head.word; entry = Defined (Combine tracks.direction tracks.named (parts_from ledger 0 head.automata)); lines = lines; verdict = None })))))

-- the checks after the tables, and after the head
abbrev pub after_listed_tables : ℕ → Ledger → CombineHead → List Loaded → Check Success
after_listed_tables limit ledger head tables = Then (systems_known limit (custom_of ledger) (listed_systems tables head.automata)) (λ admitted. after_listed_systems ledger head tables admitted)

abbrev pub after_combine_head : ℕ → Ledger → CombineHead → Check Success
after_combine_head limit ledger head = Then (files_loaded ledger (listed_files head.automata)) (λ tables. after_listed_tables limit ledger head tables)

-- all checks of a `combine`
abbrev pub combine_checks : ℕ → Ledger → List ℕ → Check Success
combine_checks limit ledger text = Then (Pure (HeadAnswers DerivesCombine text)) (λ head. after_combine_head limit ledger head)

-- a `combine` has at most one proper outcome
abbrev pub CombineHasOneOutcome : Type 0
CombineHasOneOutcome = (limit : ℕ) (ledger : Ledger) (text : List ℕ) → IsSingle (combine_checks limit ledger text)
