-- What an `eval` or a `def` does, by its checks in their order: the shape of its head, its calls of macros, its formula, the files of the automata and words that
-- this names, its systems, its resolution, its steps, and the length of the text that it is to store. Its variables and its verdict refuse nothing.
use Rattle.std.specs.Prelude.{◌≡◌, ℕ, List, None, Some, Result, Ok, Err}
use Rattle.std.specs.List.{AllZip}
use Rattle.wal_outside.specs.Places.{Place}
use Rattle.wal_outside.specs.declared.folder.Folder.{Folder}
use Rattle.dfa_loading.specs.Headers.{headers_of}
use Rattle.dfa_loading.specs.declared.loaded.Loaded.{Loaded}
use Rattle.digit_tuple.specs.Steps.{StepLog}
use Rattle.digit_tuple.specs.declared.steps.StepLine.{StepLine}
use Rattle.command_head.specs.Heads.{NamedHead}
use Rattle.command_head.specs.Grammar.{DerivesNamed}
use Rattle.formula_parse.specs.Flaws.{mixed_chain, not_linear}
use Rattle.formula_parse.specs.Grammar.{Reads, IsFlawed}
use Rattle.formula_parse.specs.Parsing as parsing
use Rattle.text_grammar.specs.Spots.{tokens}
use Rattle.formula_parse.specs.Spots.{spots}
use Rattle.formula_parse.specs.Trees as trees
use Rattle.formula_resolve.specs.FirstMentions.{first_files, first_systems}
use Rattle.formula_resolve.specs.FreeVariables.{free_variables}
use Rattle.formula_resolve.specs.Mentions.{mentions}
use Rattle.formula_resolve.specs.Occurrences.{all_occurrences}
use Rattle.formula_resolve.specs.Resolving.{fault_of}
use Rattle.formula_resolve.specs.declared.variable.Variable as resolved
use Rattle.number_relations.specs.Relations.{RelationValue}
use Rattle.command_parts.specs.declared.refusal.Refusal.{Refusal}
use Rattle.command_parts.specs.declared.fault.Fault.TheVariants as faults
use Rattle.command_parts.specs.Checks.{Check, Passing, Pure, Then, IsSingle}
use Rattle.command_parts.specs.FileChecks.{files_loaded}
use Rattle.definitions.specs.Trees.{Variable, Formula, Bindings, Defined, Ledger, bindings_of, custom_of}
use Rattle.definitions.specs.Named.{IsSystemNamed}
use Rattle.system_files.specs.SystemFiles.{Custom}
use Rattle.definitions.specs.FormulaTexts.{HasVerdict}
use Rattle.command_parts.specs.FormulaSteps.{AreFormulaSteps, AreStepsRefused}
use Rattle.command_parts.specs.SystemChecks.{systems_known}
use Rattle.command_parts.specs.HeadAnswers.{HeadAnswers}
use Rattle.formula_commands.specs.MacroChecks.{expanded}
use Rattle.command_parts.specs.Accepting.{Success, stored}
use Rattle.command_parts.specs.FormulaFaults.{fault_of_formula, fault_of_resolution}
use Rattle.command_parts.specs.TrackSystems.{fault_of as fault_of_step}
use Rattle.digit_tuple.specs.declared.step_fault.StepFault.{StepFault}
use Rattle.formula_resolve.specs.declared.fault.ResolveFault.{ResolveFault}
use Rattle.formula_parse.specs.declared.fault.ParseFault.{ParseFault}
use Rattle.formula_parse.specs.declared.fault.ParseFault.TheVariants as parses

-- where a text breaks the grammar, or what its formula has too much of
abbrev pub HasNoFormula : List ℕ → ParseFault → Type 0
HasNoFormula body (parses.Syntax at) = parsing.IsSyntaxAt body at
HasNoFormula body (parses.Number at) = parsing.IsNumberAt body at
HasNoFormula body (parses.Depth at) = parsing.IsDepthAt body at
HasNoFormula body (parses.MixedChain at) = IsFlawed (tokens (spots body)) (mixed_chain at)
HasNoFormula body (parses.NotLinear at) = IsFlawed (tokens (spots body)) (not_linear at)
HasNoFormula body parses.Memory = ⊥

-- the formula of a text, or why it has none
abbrev pub FormulaAnswers : List ℕ → Result trees.Formula Refusal → Type 0
FormulaAnswers body (Ok formula) = Reads (tokens (spots body)) formula
FormulaAnswers body (Err refusal) = (fault : ParseFault) × (fault_of_formula fault ≡ faults.Refused refusal) × HasNoFormula body fault

-- the formula has a resolution, or this is why it has none
abbrev pub ResolvedAnswers : List Loaded → trees.Formula → Result (Unit {0}) Refusal → Type 0
ResolvedAnswers tables formula (Ok resolved) = fault_of (headers_of tables) formula ≡ None
ResolvedAnswers tables formula (Err refusal) = (fault : ResolveFault) × (fault_of_resolution fault ≡ faults.Refused refusal) × (fault_of (headers_of tables) formula ≡ Some fault)

-- the lines of the steps, or the number of the first one that passes a limit
abbrev pub BuiltAnswers : StepLog → Custom → List Loaded → trees.Formula → Result (List StepLine) Refusal → Type 0
BuiltAnswers admitted custom tables formula (Ok lines) = (relation : RelationValue) × AreFormulaSteps admitted custom tables formula (Ok relation) lines
BuiltAnswers admitted custom tables formula (Err refusal) = (fault : StepFault) × (fault_of_step fault ≡ faults.Refused refusal) × AreStepsRefused admitted custom tables formula fault

-- a free variable over the system that the name of its system means
pub record IsVariable (custom : Custom) (found : resolved.Variable) (v : Variable) : Type 0 where
  pub name_is : v.name ≡ found.name
  pub system_is : v.system.name ≡ found.system
  pub means : IsSystemNamed custom v.system.name v.direction v.system.system

-- the definitions that the names of the formula mean
abbrev pub bindings_now : Ledger → trees.Formula → Bindings
bindings_now ledger formula = bindings_of ledger (first_files (mentions formula))

-- The checks after the systems. The free variables are in byte order, each over its system. What is stored is the formula, with these and
-- what its names mean.
abbrev pub after_systems : Ledger → Place → List Loaded → trees.Formula → StepLog → Check Success
after_systems ledger place tables formula admitted =
    Then (Pure (ResolvedAnswers tables formula)) (λ resolved.
    Then (Pure (BuiltAnswers admitted (custom_of ledger) tables formula)) (λ lines.
    Then (Passing (AllZip (IsVariable (custom_of ledger)) (free_variables (all_occurrences (headers_of tables) formula)))) (λ variables.
    Then (Passing (HasVerdict (custom_of ledger) (bindings_now ledger formula) variables formula)) (λ verdict.
    stored (custom_of ledger) (record { folder = place.0; name = place.1; entry = Defined (Formula variables formula (bindings_now ledger formula)); lines = lines; verdict = verdict })))))

-- the checks after the tables: the systems are those that the formula and the tables mention
abbrev pub after_tables : ℕ → Ledger → Place → trees.Formula → List Loaded → Check Success
after_tables limit ledger place formula tables = Then (systems_known limit (custom_of ledger) (first_systems (headers_of tables) (mentions formula))) (λ admitted. after_systems ledger place tables formula admitted)

-- the checks after the expansion, and after the head
abbrev pub after_text : ℕ → Ledger → Place → List ℕ → Check Success
after_text limit ledger place text =
    Then (Pure (FormulaAnswers text)) (λ formula.
    Then (files_loaded ledger (first_files (mentions formula))) (λ tables. after_tables limit ledger place formula tables))

abbrev pub after_named_head : ℕ → Ledger → Folder → NamedHead → Check Success
after_named_head limit ledger folder head = Then (expanded ledger head.body) (λ text. after_text limit ledger (folder, head.name) text)

-- all checks of a command of this word, whose texts are in this folder
abbrev pub formula_checks : List ℕ → Folder → ℕ → Ledger → List ℕ → Check Success
formula_checks word folder limit ledger text = Then (Pure (HeadAnswers (DerivesNamed word) text)) (λ head. after_named_head limit ledger folder head)

-- a formula, under the word of its command, has at most one proper outcome
abbrev pub FormulaHasOneOutcome : Type 0
FormulaHasOneOutcome = (word : List ℕ) (folder : Folder) (limit : ℕ) (ledger : Ledger) (text : List ℕ) → IsSingle (formula_checks word folder limit ledger text)
