-- What the checks of a formula refuse, from what the code of each part answers.
use Rattle.std.proofs.Common.{◌≡◌, ℕ, List, Some, Err, inl, inr, sym, subst, refl}
use Rattle.digit_tuple.specs.Steps.{StepLog}
use Rattle.digit_tuple.specs.declared.step_fault.StepFault.{StepFault}
use Rattle.digit_tuple.specs.declared.step_fault.StepFault.TheVariants as step_faults
use Rattle.formula_parse.specs.Parsing.{Parses}
use Rattle.formula_parse.specs.Trees as trees
use Rattle.formula_parse.specs.declared.fault.ParseFault.{ParseFault}
use Rattle.formula_parse.specs.declared.fault.ParseFault.TheVariants as parses
use Rattle.formula_resolve.specs.Answers.{Reports}
use Rattle.formula_resolve.specs.Headers.{Headers}
use Rattle.formula_resolve.specs.Resolving.{fault_of}
use Rattle.formula_resolve.specs.declared.fault.ResolveFault.{ResolveFault}
use Rattle.formula_resolve.specs.declared.fault.ResolveFault.TheVariants as resolves
use Rattle.command_parts.specs.Checks.{Pure, Fails}
use Rattle.system_files.specs.SystemFiles.{Custom}
use Rattle.dfa_loading.specs.Headers.{headers_of}
use Rattle.dfa_loading.specs.declared.loaded.Loaded.{Loaded}
use Rattle.command_parts.specs.FormulaFaults.{fault_of_formula, fault_of_resolution}
use Rattle.formula_commands.specs.FormulaOutcomes.{FormulaAnswers, ResolvedAnswers, BuiltAnswers}
use Rattle.command_parts.specs.FormulaSteps.{AreStepsRefused, IsUnread}
use Rattle.command_parts.specs.TrackSystems as track_systems

-- the text breaks the grammar
pub unparsed_formula : (body : List ℕ) (fault : ParseFault) → Parses body (Err fault) → Fails (Pure (FormulaAnswers body)) (fault_of_formula fault)
unparsed_formula body (parses.Syntax at) breaks = (parses.Syntax at, refl, breaks)
unparsed_formula body (parses.Number at) breaks = (parses.Number at, refl, breaks)
unparsed_formula body (parses.Depth at) breaks = (parses.Depth at, refl, breaks)
unparsed_formula body (parses.MixedChain at) breaks = (parses.MixedChain at, refl, breaks)
unparsed_formula body (parses.NotLinear at) breaks = (parses.NotLinear at, refl, breaks)
unparsed_formula body parses.Memory breaks = tt

-- there is no resolution
pub unresolved : (X : Type 0) (tables : List Loaded) (formula : trees.Formula) (headers : Headers) (fault : ResolveFault) → headers ≡ headers_of tables → Reports {X = X} (fault_of headers formula) (Err fault) → Fails (Pure (ResolvedAnswers tables formula)) (fault_of_resolution fault)
unresolved X tables formula headers (resolves.Plain name) is reported = (resolves.Plain name, refl, subst (λ (h : Headers). fault_of h formula ≡ Some (resolves.Plain name)) is reported)
unresolved X tables formula headers (resolves.Arity name tracks given) is reported = (resolves.Arity name tracks given, refl, subst (λ (h : Headers). fault_of h formula ≡ Some (resolves.Arity name tracks given)) is reported)
unresolved X tables formula headers (resolves.Clash name first other) is reported = (resolves.Clash name first other, refl, subst (λ (h : Headers). fault_of h formula ≡ Some (resolves.Clash name first other)) is reported)
unresolved X tables formula headers (resolves.Direction first other) is reported = (resolves.Direction first other, refl, subst (λ (h : Headers). fault_of h formula ≡ Some (resolves.Direction first other)) is reported)
unresolved X tables formula headers resolves.Memory is reported = tt

-- a step passes a limit
pub unbuilt : (admitted : StepLog) (custom : Custom) (tables : List Loaded) (formula : trees.Formula) (fault : StepFault) → AreStepsRefused admitted custom tables formula fault → Fails (Pure (BuiltAnswers admitted custom tables formula)) (track_systems.fault_of fault)
unbuilt admitted custom tables formula (step_faults.Letters step) refused = (step_faults.Letters step, refl, refused)
unbuilt admitted custom tables formula (step_faults.States step) refused = (step_faults.States step, refl, refused)
unbuilt admitted custom tables formula step_faults.Memory refused = tt

-- one that reads a table does, or memory runs out there
pub unread : (admitted : StepLog) (custom : Custom) (tables : List Loaded) (formula : trees.Formula) (fault : StepFault) → IsUnread admitted custom tables fault → Fails (Pure (BuiltAnswers admitted custom tables formula)) (track_systems.fault_of fault)
unread admitted custom tables formula fault (inl memory) = subst (λ (f : StepFault). Fails (Pure (BuiltAnswers admitted custom tables formula)) (track_systems.fault_of f)) (sym memory) tt
unread admitted custom tables formula fault (inr stopped) = unbuilt admitted custom tables formula fault (inl stopped)
