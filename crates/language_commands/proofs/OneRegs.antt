-- A `reg` has one outcome.
use Rattle.std.proofs.Common.{◌≡◌, ◌≢◌, ℕ, ◌⊎◌, List, ℤ, Result, Ok, Err, refl, sym, ap, ◌∙◌, inl, inr}
use Rattle.digit_tuple.specs.Steps.{StepLog}
use Rattle.digit_tuple.specs.declared.direction.Direction.{Direction}
use Rattle.digit_tuple.specs.declared.step_fault.StepFault.{StepFault}
use Rattle.digit_tuple.specs.declared.step_fault.StepFault.TheVariants as steps
use Rattle.digit_tuple.specs.declared.steps.StepLine.{StepLine}
use Rattle.minimise.specs.Tracked.{NamedAutomaton}
use Rattle.automaton_steps.proofs.AnswerCases.{one_result}
use Rattle.command_head.specs.Heads as heads
use Rattle.command_head.specs.Grammar.{DerivesReg}
use Rattle.command_head.proofs.OneFault.{one_head, one_reg}
use Rattle.regex_build.specs.declared.fault.RegexFault.TheVariants as regexes
use Rattle.regex_build.specs.Expression.{Expression}
use Rattle.regex_build.specs.Patterns.{Pattern}
use Rattle.regex_build.specs.Parsing.{Parses}
use Rattle.regex_build.proofs.OneParse.{one_parse}
use Rattle.command_parts.specs.declared.system_refusal.SystemRefusal.TheVariants as system_refusals
use Rattle.command_parts.specs.declared.refusal.Refusal.{Refusal}
use Rattle.command_parts.specs.declared.refusal.Refusal.TheVariants as refusals
use Rattle.command_parts.specs.Checks.{Check, Pure, IsSingle}
use Rattle.definitions.specs.Trees.{Ledger, custom_of}
use Rattle.definitions.specs.Tracks.{NamedSystem, Tracks, OverSets, OverSystems, letter_sets}
use Rattle.system_files.specs.SystemFiles.{Custom}
use Rattle.language_commands.specs.HeadTracks.{AreTracksOf, PartInDirection}
use Rattle.command_parts.specs.HeadAnswers.{HeadAnswers}
use Rattle.command_parts.specs.Accepting.{stored}
use Rattle.language_commands.specs.RegOutcomes.{systems_named, TracksAnswers, ParsedAnswers, StepsAnswers, after_tracks, after_head, reg_checks}
use Rattle.command_parts.specs.RegexFaults.{fault_of_regex}
use Rattle.command_parts.specs.SystemChecks.{systems_known}
use Rattle.language_commands.specs.TrackSteps.{DoesExpression}
use Rattle.command_parts.specs.TrackSystems.{fault_of}
use Rattle.language_commands.proofs.RegexCheckNames.{regex_success, after_expression, after_admission}
use Rattle.command_parts.proofs.CheckSteps.{then_single, single_so}
use Rattle.language_commands.proofs.OneExpression.{expression_one}
use Rattle.language_commands.proofs.NameLemmas.{one_list_of_systems, not_parted, same_part}
use Rattle.command_parts.proofs.OneHeads.{head_single}
use Rattle.command_parts.proofs.OneTexts.{stored_single}
use Rattle.command_parts.proofs.OneSystems.{systems_single}
use Rattle.command_parts.proofs.RefusingSteps.{refusing_one}
use Rattle.command_parts.specs.RefusingChecks.{Refusing}

-- an answer is that of one function of what was read
single_by : {Y : Type 0} (c : Check Y) (value : Result Y Refusal) → ((r : Result Y Refusal) → c.answers r → r ≡ value) → IsSingle c
single_by c value is = λ r s a b. is r a ∙ sym (is s b)

-- the lines of steps, or why they are refused
abbrev of_steps : Result NamedAutomaton StepFault → StepLog → Result (List StepLine) StepFault
of_steps (Ok made) log = Ok log.lines
of_steps (Err fault) log = Err fault

record AreSteps (admitted : StepLog) (tracks : Tracks) (e : Expression (List ℤ)) (r : Result (List StepLine) StepFault) : Type 0 where
  result : Result NamedAutomaton StepFault
  log : StepLog
  does : DoesExpression tracks e admitted result log
  is : r ≡ of_steps result log

steps_is : (admitted : StepLog) (tracks : Tracks) (e : Expression (List ℤ)) (r : Result (List StepLine) Refusal) → StepsAnswers admitted tracks e r → (Refusing fault_of (AreSteps admitted tracks e)).answers r
steps_is admitted tracks e (Ok lines) (made, log, does, lines_are) = record { result = Ok made; log = log; does = does; is = ap (λ (ls : List StepLine). let x : Result (List StepLine) StepFault = Ok ls in x) lines_are }
steps_is admitted tracks e (Err refusal) (fault, is, (log, does)) = (fault, is, record { result = Err fault; log = log; does = does; is = refl })

steps_one : (admitted : StepLog) (tracks : Tracks) (e : Expression (List ℤ)) (r s : Result (List StepLine) StepFault) → AreSteps admitted tracks e r → AreSteps admitted tracks e s → r ≢ Err steps.Memory → s ≢ Err steps.Memory → r ≡ s
steps_one admitted tracks e r s p q some other =
    let one = one_result steps.Memory p.log q.log p.result q.result (expression_one tracks e admitted p.log q.log p.result q.result p.does q.does) (λ is. some (p.is ∙ ap (λ (x : Result NamedAutomaton StepFault). of_steps x p.log) is)) (λ is. other (q.is ∙ ap (λ (x : Result NamedAutomaton StepFault). of_steps x q.log) is)) in
    p.is ∙ ((λ i. of_steps (one.0 i) (one.1 i)) ∙ sym q.is)

steps_single : (admitted : StepLog) (tracks : Tracks) (e : Expression (List ℤ)) → IsSingle (Pure (StepsAnswers admitted tracks e))
steps_single admitted tracks e =
    single_so (Pure (StepsAnswers admitted tracks e)) (Refusing fault_of (AreSteps admitted tracks e)) (steps_is admitted tracks e) (refusing_one fault_of (AreSteps admitted tracks e) steps.Memory refl (steps_one admitted tracks e))

-- the expression of a quoted text
parsed_is : (sets : List (List ℤ)) (body : List ℕ) (r : Result Pattern Refusal) → ParsedAnswers sets body r → (Refusing fault_of_regex (Parses sets body)).answers r
parsed_is sets body (Ok pattern) a = a
parsed_is sets body (Err refusal) a = a

parsed_single : (sets : List (List ℤ)) (body : List ℕ) → IsSingle (Pure (ParsedAnswers sets body))
parsed_single sets body = single_so (Pure (ParsedAnswers sets body)) (Refusing fault_of_regex (Parses sets body)) (parsed_is sets body) (refusing_one fault_of_regex (Parses sets body) regexes.Memory refl (one_parse sets body))

-- what names of systems give
abbrev IsNames : Custom → List (List ℕ) → Result Tracks Refusal → Type 0
IsNames custom names x = ((direction : Direction) × (named : List NamedSystem) × AreTracksOf custom (heads.Systems names) (OverSystems direction named) × (x ≡ Ok (OverSystems direction named)))
    ⊎ ((first : List ℕ) × (other : List ℕ) × PartInDirection custom names first other × (x ≡ Err (refusals.System (system_refusals.Direction first other))))

names_is : (custom : Custom) (names : List (List ℕ)) (x : Result Tracks Refusal) → TracksAnswers custom (heads.Systems names) x → IsNames custom names x
names_is custom names (Ok (OverSets others)) a = absurd a
names_is custom names (Ok (OverSystems direction named)) a = inl (direction, named, a, refl)
names_is custom names (Err refusal) (first, other, is, part) = inr (first, other, part, ap (λ (why : Refusal). let x : Result Tracks Refusal = Err why in x) is)

by_names : (custom : Custom) (names : List (List ℕ)) (r s : Result Tracks Refusal) → IsNames custom names r → IsNames custom names s → r ≡ s
by_names custom names r s (inl (direction, named, are, is)) (inl (direction', named', are', is')) =
    let same = one_list_of_systems custom names direction direction' named named' are are' in
    is ∙ ((λ i. let x : Result Tracks Refusal = Ok (OverSystems (same.0 i) (same.1 i)) in x) ∙ sym is')
by_names custom names r s (inl (direction, named, are, is)) (inr (first, other, part, is')) = absurd (not_parted custom names direction named first other are part)
by_names custom names r s (inr (x, y, part, is)) (inl (direction, named, are, is')) = absurd (not_parted custom names direction named x y are part)
by_names custom names r s (inr (x, y, part, is)) (inr (x', y', part', is')) =
    let same = same_part custom names x y x' y' part part' in
    is ∙ ((λ i. let z : Result Tracks Refusal = Err (refusals.System (system_refusals.Direction (same.0 i) (same.1 i))) in z) ∙ sym is')

-- the tracks that a head means, or why it means none
tracks_single : (custom : Custom) (of_head : heads.Alphabets) → IsSingle (Pure (TracksAnswers custom of_head))
tracks_single custom (heads.Sets sets) r s a b = single_by (Pure (TracksAnswers custom (heads.Sets sets))) (Ok (OverSets sets)) is r s a b
  where
    is : (r : Result Tracks Refusal) → TracksAnswers custom (heads.Sets sets) r → r ≡ Ok (OverSets sets)
    is (Ok (OverSets others)) a = ap (λ (ss : List (List ℤ)). let x : Result Tracks Refusal = Ok (OverSets ss) in x) a
    is (Ok (OverSystems direction named)) a = absurd a
    is (Err refusal) a = absurd a
tracks_single custom (heads.Systems names) r s a b = by_names custom names r s (names_is custom names r a) (names_is custom names s b)

-- a `reg` has one outcome
pub reg_single : (limit : ℕ) (ledger : Ledger) (text : List ℕ) → IsSingle (reg_checks limit ledger text)
reg_single limit ledger text =
    let custom : Custom = custom_of ledger in
    then_single (Pure (HeadAnswers DerivesReg text)) (λ head. after_head limit custom head) (head_single DerivesReg (one_head DerivesReg one_reg) text) (λ head spells.
    then_single (systems_known limit custom (systems_named head.alphabets)) (λ admitted. after_admission custom head admitted) (systems_single limit custom (systems_named head.alphabets)) (λ admitted known.
    then_single (Pure (TracksAnswers custom head.alphabets)) (λ tracks. after_tracks admitted custom head.name head.body tracks) (tracks_single custom head.alphabets) (λ tracks means.
    then_single (Pure (ParsedAnswers (letter_sets tracks) head.body)) (λ (pattern : Pattern). after_expression admitted custom head.name tracks pattern.tree) (parsed_single (letter_sets tracks) head.body) (λ pattern parses.
    then_single (Pure (StepsAnswers admitted tracks pattern.tree)) (λ lines. stored custom (regex_success head.name tracks pattern.tree lines)) (steps_single admitted tracks pattern.tree) (λ lines steps.
    stored_single custom (regex_success head.name tracks pattern.tree lines))))))
