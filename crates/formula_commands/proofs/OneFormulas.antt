-- An `eval` or a `def` has one outcome.
use Rattle.std.proofs.Common.{◌≡◌, ℕ, Bool, List, [], ◌∷◌, Option, None, Some, Result, Ok, Err, refl, sym, ap, ◌∙◌, subst}
use Rattle.wal_outside.specs.declared.folder.Folder.{Folder}
use Rattle.command_head.specs.Grammar.{DerivesNamed}
use Rattle.command_head.proofs.NamedHeads.{one_named}
use Rattle.command_head.proofs.OneFault.{one_head}
use Rattle.formula_parse.specs.Trees as trees
use Rattle.formula_resolve.specs.FreeVariables.{free_variables}
use Rattle.formula_resolve.specs.Occurrences.{all_occurrences}
use Rattle.formula_resolve.specs.Resolving as resolving
use Rattle.formula_resolve.specs.declared.fault.ResolveFault.{ResolveFault}
use Rattle.formula_resolve.specs.declared.fault.ResolveFault.TheVariants as resolves
use Rattle.formula_resolve.specs.declared.variable.Variable as resolved
use Rattle.command_parts.specs.declared.refusal.Refusal.{Refusal}
use Rattle.command_parts.specs.Checks.{Pure, IsSingle}
use Rattle.definitions.specs.Trees.{Variable, Bindings, Ledger, custom_of}
use Rattle.system_files.specs.SystemFiles.{Custom}
use Rattle.definitions.specs.Named.{IsSystemNamed}
use Rattle.command_parts.specs.FormulaFaults.{fault_of_resolution}
use Rattle.formula_commands.specs.MacroChecks.{expanded}
use Rattle.command_parts.specs.HeadAnswers.{HeadAnswers}
use Rattle.dfa_loading.specs.Headers.{headers_of}
use Rattle.dfa_loading.specs.declared.loaded.Loaded.{Loaded}
use Rattle.formula_resolve.specs.FirstMentions.{first_files}
use Rattle.formula_resolve.specs.Mentions.{mentions}
use Rattle.command_parts.specs.Accepting.{stored}
use Rattle.formula_commands.specs.FormulaOutcomes.{FormulaAnswers, IsVariable, ResolvedAnswers, BuiltAnswers, bindings_now, after_systems, after_tables, after_text, after_named_head, formula_checks}
use Rattle.command_parts.specs.SystemChecks.{systems_known}
use Rattle.formula_commands.proofs.FormulaCheckNames.{loaded, mentioned_systems, AreVariables, VariablesAnswers, VerdictAnswers, formula_success, after_variables, after_steps, after_resolution, after_formula}
use Rattle.command_parts.proofs.CheckSteps.{then_single, single_so}
use Rattle.definitions.proofs.NameLemmas.{one_meaning}
use Rattle.definitions.proofs.OneTexts.{one_verdict}
use Rattle.command_parts.proofs.OneLoadings.{files_single}
use Rattle.formula_commands.proofs.OneBuildings.{built_single}
use Rattle.command_parts.proofs.OneHeads.{head_single}
use Rattle.formula_commands.proofs.OneMacros.{expanded_single}
use Rattle.command_parts.proofs.OneTexts.{stored_single}
use Rattle.formula_commands.proofs.OneReadings.{reading_single}
use Rattle.command_parts.proofs.OneSystems.{systems_single}
use Rattle.command_parts.proofs.RefusingSteps.{refusing_single}
use Rattle.command_parts.specs.RefusingChecks.{Refusing}

-- a variable over the system of a name is one
one_variable : (custom : Custom) (x : resolved.Variable) (v w : Variable) → IsVariable custom x v → IsVariable custom x w → v ≡ w
one_variable custom x v w a b =
    let names : v.name ≡ w.name = a.name_is ∙ sym b.name_is in
    let systems : v.system.name ≡ w.system.name = a.system_is ∙ sym b.system_is in
    let moved : IsSystemNamed custom w.system.name v.direction v.system.system = subst (λ (n : List ℕ). IsSystemNamed custom n v.direction v.system.system) systems a.means in
    let same : (v.direction ≡ w.direction) × (v.system.system ≡ w.system.system) = one_meaning custom w.system.name v.direction w.direction v.system.system w.system.system moved b.means in
    λ i. record { name = names i; direction = same.0 i; system = record { name = systems i; system = same.1 i } }

one_list_of_variables : (custom : Custom) (found : List resolved.Variable) (vs ws : List Variable) → AreVariables custom found vs → AreVariables custom found ws → vs ≡ ws
one_list_of_variables custom [] [] [] a b = refl
one_list_of_variables custom [] [] (w ∷ ws) a b = absurd b
one_list_of_variables custom [] (v ∷ vs) ws a b = absurd a
one_list_of_variables custom (x ∷ found) [] ws a b = absurd a
one_list_of_variables custom (x ∷ found) (v ∷ vs) [] a b = absurd b
one_list_of_variables custom (x ∷ found) (v ∷ vs) (w ∷ ws) a b =
    let first : v ≡ w = one_variable custom x v w a.0 b.0 in
    let rest : vs ≡ ws = one_list_of_variables custom found vs ws a.1 b.1 in
    λ i. first i ∷ rest i

-- a formula is resolved, or has one fault
abbrev IsResolution : List Loaded → trees.Formula → Result (Unit {0}) ResolveFault → Type 0
IsResolution tables formula (Ok done) = resolving.fault_of (headers_of tables) formula ≡ None
IsResolution tables formula (Err fault) = resolving.fault_of (headers_of tables) formula ≡ Some fault

resolved_is : (tables : List Loaded) (formula : trees.Formula) (r : Result (Unit {0}) Refusal) → ResolvedAnswers tables formula r → (Refusing fault_of_resolution (IsResolution tables formula)).answers r
resolved_is tables formula (Ok done) a = a
resolved_is tables formula (Err refusal) a = a

resolved_one : (tables : List Loaded) (formula : trees.Formula) (r s : Result (Unit {0}) ResolveFault) → IsResolution tables formula r → IsResolution tables formula s → r ≡ s
resolved_one tables formula (Ok done) (Ok also) a b = refl
resolved_one tables formula (Ok done) (Err fault) a b = let no : None ≡ Some fault = sym a ∙ b in absurd (cc)
resolved_one tables formula (Err fault) (Ok done) a b = let no : None ≡ Some fault = sym b ∙ a in absurd (cc)
resolved_one tables formula (Err fault) (Err other) a b =
    let both : Some fault ≡ Some other = sym a ∙ b in
    let same : fault ≡ other = cc in
    ap (λ (f : ResolveFault). let r : Result (Unit {0}) ResolveFault = Err f in r) same

resolved_single : (tables : List Loaded) (formula : trees.Formula) → IsSingle (Pure (ResolvedAnswers tables formula))
resolved_single tables formula =
    single_so (Pure (ResolvedAnswers tables formula)) (Refusing fault_of_resolution (IsResolution tables formula)) (resolved_is tables formula) (refusing_single fault_of_resolution (IsResolution tables formula) (resolved_one tables formula))

-- the free variables with their systems
variables_is : (custom : Custom) (tables : List Loaded) (formula : trees.Formula) (r : Result (List Variable) Refusal) → VariablesAnswers custom tables formula r → (variables : List Variable) × VariablesAnswers custom tables formula (Ok variables) × (r ≡ Ok variables)
variables_is custom tables formula (Ok variables) a = (variables, a, refl)
variables_is custom tables formula (Err fault) a = absurd a

variables_single : (custom : Custom) (tables : List Loaded) (formula : trees.Formula) → IsSingle (Pure (VariablesAnswers custom tables formula))
variables_single custom tables formula r s a b =
    let one = variables_is custom tables formula r a in
    let other = variables_is custom tables formula s b in
    one.2 ∙ (ap (λ (vs : List Variable). let x : Result (List Variable) Refusal = Ok vs in x) (one_list_of_variables custom (free_variables (all_occurrences (headers_of tables) formula)) one.0 other.0 one.1 other.1) ∙ sym other.2)

-- the verdict
verdict_is : (custom : Custom) (bindings : Bindings) (variables : List Variable) (formula : trees.Formula) (r : Result (Option Bool) Refusal) → VerdictAnswers custom bindings variables formula r
    → (verdict : Option Bool) × VerdictAnswers custom bindings variables formula (Ok verdict) × (r ≡ Ok verdict)
verdict_is custom bindings variables formula (Ok verdict) a = (verdict, a, refl)
verdict_is custom bindings variables formula (Err fault) a = absurd a

verdict_single : (custom : Custom) (bindings : Bindings) (variables : List Variable) (formula : trees.Formula) → IsSingle (Pure (VerdictAnswers custom bindings variables formula))
verdict_single custom bindings variables formula r s a b =
    let one = verdict_is custom bindings variables formula r a in
    let other = verdict_is custom bindings variables formula s b in
    one.2 ∙ (ap (λ (v : Option Bool). let x : Result (Option Bool) Refusal = Ok v in x) (one_verdict custom bindings variables formula one.0 other.0 one.1 other.1) ∙ sym other.2)

pub formula_single : (word : List ℕ) (folder : Folder) (limit : ℕ) (ledger : Ledger) (text : List ℕ) → IsSingle (formula_checks word folder limit ledger text)
formula_single word folder limit ledger text =
    let custom : Custom = custom_of ledger in
    then_single (Pure (HeadAnswers (DerivesNamed word) text)) (λ head. after_named_head limit ledger folder head) (head_single (DerivesNamed word) (one_head (DerivesNamed word) (one_named word)) text) (λ head spells.
    then_single (expanded ledger head.body) (λ text. after_text limit ledger (folder, head.name) text) (expanded_single ledger head.body) (λ text expands.
    then_single (Pure (FormulaAnswers text)) (λ formula. after_formula limit ledger (folder, head.name) formula) (reading_single text) (λ formula reads.
    then_single (loaded ledger formula) (λ tables. after_tables limit ledger (folder, head.name) formula tables) (files_single ledger (first_files (mentions formula))) (λ tables there.
    then_single (systems_known limit custom (mentioned_systems tables formula)) (λ admitted. after_systems ledger (folder, head.name) tables formula admitted) (systems_single limit custom (mentioned_systems tables formula)) (λ admitted known.
    then_single (Pure (ResolvedAnswers tables formula)) (λ done. after_resolution admitted ledger (folder, head.name) tables formula) (resolved_single tables formula) (λ done resolves.
    then_single (Pure (BuiltAnswers admitted custom tables formula)) (λ lines. after_steps ledger (folder, head.name) tables formula lines) (built_single admitted custom tables formula there.0 there.2) (λ lines built.
    then_single (Pure (VariablesAnswers custom tables formula)) (λ variables. after_variables custom (folder, head.name) (bindings_now ledger formula) formula lines variables) (variables_single custom tables formula) (λ variables are.
    then_single (Pure (VerdictAnswers custom (bindings_now ledger formula) variables formula)) (λ verdict. stored custom (formula_success (folder, head.name) (bindings_now ledger formula) variables formula lines verdict)) (verdict_single custom (bindings_now ledger formula) variables formula) (λ verdict has.
    stored_single custom (formula_success (folder, head.name) (bindings_now ledger formula) variables formula lines verdict))))))))))
