-- What is made of an expression that was parsed.
use Rattle.std.proofs.Common.{◌≡◌, ℕ, ◌<◌, length, Bool, List, [], ◌∷◌, ℤ, Result, Ok, Err, inl, inr, refl, sym, ap, ◌∙◌, subst, append-nil}
use Rattle.digit_tuple.proofs.SystemLemmas.{length-digit_set}
use Rattle.digit_tuple.specs.Deterministic.{Automaton}
use Rattle.digit_tuple.specs.Sets.{sizes_of}
use Rattle.digit_tuple.specs.Steps.{StepLog}
use Rattle.digit_tuple.specs.declared.direction.Direction.{Direction}
use Rattle.digit_tuple.specs.declared.steps.StepLine.{StepLine}
use Rattle.minimise.specs.Tracked.{NamedAutomaton}
use Rattle.automaton_steps.specs.Makings.{DoesStep}
use Rattle.automaton_steps.specs.Numbered.{numbered}
use Rattle.regex_build.specs.Expression.{Expression}
use Rattle.regex_build.specs.Patterns.{Pattern}
use Rattle.regex_build.specs.Parsing.{Parses}
use Rattle.regex_build.specs.declared.fault.RegexFault.{RegexFault}
use Rattle.regex_build.specs.declared.fault.RegexFault.TheVariants as regexes
use Rattle.dfa_text.specs.Meaning.{AreTrackSets}
use Rattle.dfa_text.specs.RelationText.{relation_text}
use Rattle.product_op.specs.Validity.{AreLanguages}
use Rattle.numeration.specs.Representation as representation
use Rattle.digit_tuple.specs.declared.step_fault.StepFault.{StepFault}
use Rattle.digit_tuple.specs.declared.step_fault.StepFault.TheVariants as step_faults
use Rattle.reg_steps.specs.RegexSteps.{regex_step}
use Rattle.reg_steps.specs.RelationSteps.{DoesRelation}
use Rattle.reg_steps.specs.Relations.{IsRelation, AreSystemLanguages}
use Rattle.reg_steps.proofs.OneLanguages.{languages_of_tracks}
use Rattle.reg_steps.proofs.RelationLemmas.{relation_made}
use Rattle.command_parts.specs.declared.fault.Fault.{Fault}
use Rattle.command_parts.specs.declared.fault.Fault.TheVariants as faults
use Rattle.command_parts.specs.Checks.{Pure, Fails}
use Rattle.system_files.specs.SystemFiles.{Custom}
use Rattle.definitions.specs.Named.{AreNamed}
use Rattle.command_parts.specs.TrackSystems.{fault_of}
use Rattle.command_parts.specs.Lines.{shown_steps}
use Rattle.definitions.specs.Tracks.{NamedSystem, systems_of, Tracks, OverSets, OverSystems, letter_sets, header_of}
use Rattle.command_parts.specs.declared.file_change.Made.{Made}
use Rattle.definitions.specs.Texts.{IsTrackText}
use Rattle.language_commands.specs.TrackSteps.{DoesExpression}
use Rattle.command_parts.specs.Accepting.{Success, stored}
use Rattle.language_commands.specs.RegOutcomes.{ParsedAnswers, StepsAnswers, after_tracks}
use Rattle.command_parts.specs.RegexFaults.{fault_of_regex}
use Rattle.language_commands.specs.StoredRelations.{Prints}
use Rattle.command_parts.specs.FileChanges.{Makes}
use Rattle.language_commands.proofs.RegexCheckNames.{regex_success, after_expression}
use Rattle.command_parts.proofs.CheckSteps.{fails_first, fails_after, makes_after}
use Rattle.definitions.proofs.NameLemmas.{named_are_systems}
use Rattle.definitions.proofs.RegexTexts.{regex_text}

-- over the digits of systems are as many digits as the systems have
pub system_sizes : (direction : Direction) (named : List NamedSystem) → sizes_of (letter_sets (OverSystems direction named)) ≡ representation.sizes_of (systems_of named)
system_sizes direction [] = refl
system_sizes direction (s ∷ named) = ap (λ (n : ℕ). n ∷ sizes_of (letter_sets (OverSystems direction named))) (length-digit_set s.system.digits) ∙ ap (λ (ns : List ℕ). s.system.digits ∷ ns) (system_sizes direction named)

-- what is made of an expression by its steps, by whether the text fits
made_by_steps : (custom : Custom) (admitted : StepLog) (name : List ℕ) (tracks : Tracks) (body : List ℕ) (shown : Bool) (pattern : Pattern) (lines printed_lines : List StepLine) (automaton : Automaton) (result : Result Made Fault)
    → Parses (letter_sets tracks) body (Ok pattern) → StepsAnswers admitted tracks pattern.tree (Ok lines) → IsTrackText custom tracks pattern.tree (relation_text (header_of tracks) automaton) → printed_lines ≡ lines
    → Prints (header_of tracks) automaton shown printed_lines result → Makes custom (after_tracks admitted custom name body tracks) shown result
made_by_steps custom admitted name tracks body shown pattern lines printed_lines automaton result parses steps has same prints =
    makes_after custom (Pure (ParsedAnswers (letter_sets tracks) body)) (λ (p : Pattern). after_expression admitted custom name tracks p.tree) pattern shown result parses
    (makes_after custom (Pure (StepsAnswers admitted tracks pattern.tree)) (λ (ls : List StepLine). stored custom (made ls)) lines shown result steps (by_text result prints))
  where
    made : List StepLine → Success
    made ls = regex_success name tracks pattern.tree ls

    by_text : (r : Result Made Fault) → Prints (header_of tracks) automaton shown printed_lines r → Makes custom (stored custom (made lines)) shown r
    by_text (Ok m) p = record {
      success = made lines;
      answers = (refl, (m.stored.items, subst (IsTrackText custom tracks pattern.tree) (sym p.text_is) has, p.fits));
      has_text = subst (IsTrackText custom tracks pattern.tree) (sym p.text_is) has;
      printed_is = p.printed_is ∙ (ap (λ (ls : List StepLine). shown_steps shown ls) same ∙ sym (append-nil (shown_steps shown lines)));
    }
    by_text (Err (faults.Refused refusal)) (is, long) = (is, (relation_text (header_of tracks) automaton, has, long))
    by_text (Err faults.Memory) refused = tt
    by_text (Err (faults.Store folder of)) refused = absurd refused

-- the step over sets was made
pub made_over_sets : (custom : Custom) (admitted : StepLog) (name : List ℕ) (sets : List (List ℤ)) (body : List ℕ) (shown : Bool) (pattern : Pattern) (automaton : Automaton) (steps : StepLog) → AreTrackSets sets → Parses sets body (Ok pattern)
    → DoesStep (regex_step pattern.sets pattern.tree) admitted (Ok automaton) steps → (result : Result Made Fault) → Prints (header_of (OverSets sets)) automaton shown steps.lines result → Makes custom (after_tracks admitted custom name body (OverSets sets)) shown result
made_over_sets custom admitted name sets body shown pattern automaton steps tracks parses made result prints =
    let done : DoesStep (regex_step sets pattern.tree) admitted (Ok automaton) steps = subst (λ (over : List (List ℤ)). DoesStep (regex_step over pattern.tree) admitted (Ok automaton) steps) parses.sets_are made in
    made_by_steps custom admitted name (OverSets sets) body shown pattern steps.lines steps.lines automaton result parses (numbered automaton, steps, inl (automaton, steps, done, (refl, refl)), refl)
    (regex_text sets pattern.tree automaton (relation_text (header_of (OverSets sets)) automaton) tracks done.step.made_is refl) refl prints

-- the steps over systems were made
pub made_over_systems : (custom : Custom) (admitted : StepLog) (name : List ℕ) (direction : Direction) (named : List NamedSystem) (languages : List Automaton) (body : List ℕ) (shown : Bool) (pattern : Pattern) (relation : NamedAutomaton) (steps : StepLog) → 0 < length named → AreNamed custom direction named
    → AreSystemLanguages direction (systems_of named) languages → Parses (letter_sets (OverSystems direction named)) body (Ok pattern)
    → DoesRelation direction languages pattern.sets pattern.tree admitted (Ok relation) steps → (result : Result Made Fault) → Prints (header_of (OverSystems direction named)) relation.automaton shown steps.lines result
    → Makes custom (after_tracks admitted custom name body (OverSystems direction named)) shown result
made_over_systems custom admitted name direction named languages body shown pattern relation steps some are_named are parses made result prints =
    let sets : List (List ℤ) = letter_sets (OverSystems direction named) in
    let done : DoesRelation direction languages sets pattern.tree admitted (Ok relation) steps =
    subst (λ (over : List (List ℤ)). DoesRelation direction languages over pattern.tree admitted (Ok relation) steps) parses.sets_are made in
    let of_relation : IsRelation direction (systems_of named) sets pattern.tree relation.automaton =
    relation_made direction (systems_of named) languages sets pattern.tree admitted steps relation (named_are_systems custom direction named are_named) are (system_sizes direction named) done in
    made_by_steps custom admitted name (OverSystems direction named) body shown pattern steps.lines steps.lines relation.automaton result parses (relation, steps, inr (languages, are, done), refl)
    (record { some = some; are = are_named; automaton = relation.automaton; of_relation = of_relation; text_is = refl }) refl prints

-- a step was refused
unstepped : (custom : Custom) (admitted : StepLog) (name : List ℕ) (tracks : Tracks) (body : List ℕ) (pattern : Pattern) (f : Fault) → Parses (letter_sets tracks) body (Ok pattern) → Fails (Pure (StepsAnswers admitted tracks pattern.tree)) f → Fails (after_tracks admitted custom name body tracks) f
unstepped custom admitted name tracks body pattern f parses refused =
    fails_after (Pure (ParsedAnswers (letter_sets tracks) body)) (λ (p : Pattern). after_expression admitted custom name tracks p.tree) pattern f parses
    (fails_first (Pure (StepsAnswers admitted tracks pattern.tree)) (λ (ls : List StepLine). stored custom (regex_success name tracks pattern.tree ls)) f refused)

-- its number is said, unless memory ran out
stopped_at : (admitted : StepLog) (tracks : Tracks) (e : Expression (List ℤ)) (log : StepLog) (fault : StepFault) → DoesExpression tracks e admitted (Err fault) log → Fails (Pure (StepsAnswers admitted tracks e)) (fault_of fault)
stopped_at admitted tracks e log (step_faults.Letters step) refused = (step_faults.Letters step, refl, (log, refused))
stopped_at admitted tracks e log (step_faults.States step) refused = (step_faults.States step, refl, (log, refused))
stopped_at admitted tracks e log step_faults.Memory refused = tt

pub refused_over_sets : (custom : Custom) (admitted : StepLog) (name : List ℕ) (sets : List (List ℤ)) (body : List ℕ) (pattern : Pattern) (fault : StepFault) (log : StepLog) → Parses sets body (Ok pattern)
    → DoesStep (regex_step pattern.sets pattern.tree) admitted (Err fault) log → Fails (after_tracks admitted custom name body (OverSets sets)) (fault_of fault)
refused_over_sets custom admitted name sets body pattern fault log parses refused =
    let here : DoesStep (regex_step sets pattern.tree) admitted (Err fault) log = subst (λ (over : List (List ℤ)). DoesStep (regex_step over pattern.tree) admitted (Err fault) log) parses.sets_are refused in
    unstepped custom admitted name (OverSets sets) body pattern (fault_of fault) parses (stopped_at admitted (OverSets sets) pattern.tree log fault (inr (fault, here, refl)))

pub refused_over_systems : (custom : Custom) (admitted : StepLog) (name : List ℕ) (direction : Direction) (named : List NamedSystem) (languages : List Automaton) (body : List ℕ) (pattern : Pattern) (fault : StepFault) (log : StepLog) → AreSystemLanguages direction (systems_of named) languages
    → Parses (letter_sets (OverSystems direction named)) body (Ok pattern) → DoesRelation direction languages pattern.sets pattern.tree admitted (Err fault) log → Fails (after_tracks admitted custom name body (OverSystems direction named)) (fault_of fault)
refused_over_systems custom admitted name direction named languages body pattern fault log are parses refused =
    let here = subst (λ (over : List (List ℤ)). DoesRelation direction languages over pattern.tree admitted (Err fault) log) parses.sets_are refused in
    unstepped custom admitted name (OverSystems direction named) body pattern (fault_of fault) parses (stopped_at admitted (OverSystems direction named) pattern.tree log fault (inr (languages, are, here)))

-- the languages of the tracks of an expression over systems
pub languages_fit : (direction : Direction) (named : List NamedSystem) (languages : List Automaton) (body : List ℕ) (pattern : Pattern) → AreSystemLanguages direction (systems_of named) languages → Parses (letter_sets (OverSystems direction named)) body (Ok pattern)
    → AreLanguages (sizes_of pattern.sets) languages
languages_fit direction named languages body pattern are parses =
    subst (λ (sizes : List ℕ). AreLanguages sizes languages) (sym (ap sizes_of parses.sets_are ∙ system_sizes direction named)) (languages_of_tracks direction (systems_of named) languages are)

-- a quoted text that is no expression refuses the command
pub unparsed : (sets : List (List ℤ)) (body : List ℕ) (fault : RegexFault) → Parses sets body (Err fault) → Fails (Pure (ParsedAnswers sets body)) (fault_of_regex fault)
unparsed sets body (regexes.Syntax at) breaks = (regexes.Syntax at, refl, breaks)
unparsed sets body (regexes.Number at) breaks = (regexes.Number at, refl, breaks)
unparsed sets body (regexes.Depth at) breaks = (regexes.Depth at, refl, breaks)
unparsed sets body regexes.Memory breaks = tt
