-- What a `reg` does, by its checks in their order: the shape of its head, its systems, their direction, its expression, its steps, and the
-- length of the text that it is to store.
use Rattle.std.specs.Prelude.{◌≡◌, ℕ, ℤ, List, [], None, Result, Ok, Err}
use Rattle.std.specs.Str.{bytes_eq}
use Rattle.wal_outside.specs.declared.folder.Folder.TheVariants.{Automata}
use Rattle.digit_tuple.specs.Steps.{StepLog}
use Rattle.digit_tuple.specs.declared.steps.StepLine.{StepLine}
use Rattle.minimise.specs.Tracked.{NamedAutomaton}
use Rattle.command_head.specs.Heads as heads
use Rattle.command_head.specs.Heads.{RegHead}
use Rattle.command_head.specs.Grammar.{DerivesReg}
use Rattle.regex_build.specs.Expression.{Expression}
use Rattle.regex_build.specs.Patterns.{Pattern}
use Rattle.regex_build.specs.Parsing.{Parses}
use Rattle.command_parts.specs.declared.system_refusal.SystemRefusal.TheVariants as system_refusals
use Rattle.command_parts.specs.declared.refusal.Refusal.{Refusal}
use Rattle.command_parts.specs.declared.refusal.Refusal.TheVariants as refusals
use Rattle.command_parts.specs.declared.fault.Fault.TheVariants as faults
use Rattle.command_parts.specs.Checks.{Check, Pure, Then, IsSingle}
use Rattle.definitions.specs.Trees.{Regex, Defined, Ledger, custom_of}
use Rattle.definitions.specs.Tracks.{Tracks, letter_sets}
use Rattle.formula_resolve.specs.FirstMentions.{each_once}
use Rattle.system_files.specs.SystemFiles.{Custom}
use Rattle.language_commands.specs.HeadTracks.{PartInDirection, AreTracksOf}
use Rattle.language_commands.specs.TrackSteps.{DoesExpression}
use Rattle.command_parts.specs.HeadAnswers.{HeadAnswers}
use Rattle.command_parts.specs.SystemChecks.{systems_known}
use Rattle.command_parts.specs.Accepting.{Success, stored}
use Rattle.command_parts.specs.TrackSystems.{fault_of}
use Rattle.digit_tuple.specs.declared.step_fault.StepFault.{StepFault}
use Rattle.regex_build.specs.declared.fault.RegexFault.{RegexFault}
use Rattle.command_parts.specs.RegexFaults.{fault_of_regex}

-- the systems that a head names, each once
abbrev pub systems_named : heads.Alphabets → List (List ℕ)
systems_named (heads.Sets sets) = []
systems_named (heads.Systems names) = each_once bytes_eq names

-- the tracks that a head means; or two systems of different directions
abbrev pub TracksAnswers : Custom → heads.Alphabets → Result Tracks Refusal → Type 0
TracksAnswers custom of_head (Ok tracks) = AreTracksOf custom of_head tracks
TracksAnswers custom (heads.Sets sets) (Err refusal) = ⊥
TracksAnswers custom (heads.Systems names) (Err refusal) = (first : List ℕ) × (other : List ℕ) × (refusal ≡ refusals.System (system_refusals.Direction first other)) × PartInDirection custom names first other

-- the expression of a quoted text, or where it breaks the grammar
abbrev pub ParsedAnswers : List (List ℤ) → List ℕ → Result Pattern Refusal → Type 0
ParsedAnswers sets body (Ok pattern) = Parses sets body (Ok pattern)
ParsedAnswers sets body (Err refusal) = (fault : RegexFault) × (fault_of_regex fault ≡ faults.Refused refusal) × Parses sets body (Err fault)

-- the lines of the steps, or the number of the first one that passes a limit
abbrev pub StepsAnswers : StepLog → Tracks → Expression (List ℤ) → Result (List StepLine) Refusal → Type 0
StepsAnswers admitted tracks expression (Ok lines) = (made : NamedAutomaton) × (log : StepLog) × DoesExpression tracks expression admitted (Ok made) log × (lines ≡ log.lines)
StepsAnswers admitted tracks expression (Err refusal) = (fault : StepFault) × (fault_of fault ≡ faults.Refused refusal) × ((log : StepLog) × DoesExpression tracks expression admitted (Err fault) log)

-- the checks after the tracks: an automaton is made of the expression, and its text is stored
abbrev pub after_tracks : StepLog → Custom → List ℕ → List ℕ → Tracks → Check Success
after_tracks admitted custom name body tracks =
    Then (Pure (ParsedAnswers (letter_sets tracks) body)) (λ (pattern : Pattern).
    Then (Pure (StepsAnswers admitted tracks pattern.tree)) (λ lines.
    stored custom (record { folder = Automata; name = name; entry = Defined (Regex tracks pattern.tree); lines = lines; verdict = None })))

-- the checks after the head
abbrev pub after_head : ℕ → Custom → RegHead → Check Success
after_head limit custom head =
    Then (systems_known limit custom (systems_named head.alphabets)) (λ admitted.
    Then (Pure (TracksAnswers custom head.alphabets)) (λ tracks. after_tracks admitted custom head.name head.body tracks))

-- all checks of a `reg`
abbrev pub reg_checks : ℕ → Ledger → List ℕ → Check Success
reg_checks limit ledger text = Then (Pure (HeadAnswers DerivesReg text)) (λ head. after_head limit (custom_of ledger) head)

-- a `reg` has at most one proper outcome
abbrev pub RegHasOneOutcome : Type 0
RegHasOneOutcome = (limit : ℕ) (ledger : Ledger) (text : List ℕ) → IsSingle (reg_checks limit ledger text)
