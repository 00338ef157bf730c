-- Names of parts of the checks of `eval` and `def`, by which proofs speak of them.
use Rattle.std.specs.Prelude.{ℕ, List, Bool, Option, Result, MatchResult}
use Rattle.std.specs.List.{AllZip}
use Rattle.digit_tuple.specs.Steps.{StepLog}
use Rattle.digit_tuple.specs.declared.steps.StepLine.{StepLine}
use Rattle.wal_outside.specs.Places.{Place}
use Rattle.dfa_loading.specs.Headers.{headers_of}
use Rattle.dfa_loading.specs.declared.loaded.Loaded.{Loaded}
use Rattle.formula_parse.specs.Trees as trees
use Rattle.formula_resolve.specs.FirstMentions.{first_files, first_systems}
use Rattle.formula_resolve.specs.FreeVariables.{free_variables}
use Rattle.formula_resolve.specs.Mentions.{mentions}
use Rattle.formula_resolve.specs.Occurrences.{all_occurrences}
use Rattle.formula_resolve.specs.declared.variable.Variable as resolved
use Rattle.definitions.specs.FormulaTexts.{HasVerdict}
use Rattle.definitions.specs.Trees.{Bindings, Defined, Formula, Ledger, Variable, custom_of}
use Rattle.system_files.specs.SystemFiles.{Custom}
use Rattle.command_parts.specs.declared.refusal.Refusal.{Refusal}
use Rattle.command_parts.specs.Accepting.{Success, stored}
use Rattle.command_parts.specs.Checks.{Check, Pure, Then}
use Rattle.command_parts.specs.FileChecks.{files_loaded}
use Rattle.formula_commands.specs.FormulaOutcomes.{BuiltAnswers, IsVariable, after_tables, bindings_now}

-- of a formula; the files and the systems that it names
abbrev pub formula_success : Place → Bindings → List Variable → trees.Formula → List StepLine → Option Bool → Success
formula_success place bindings variables formula lines verdict = record {
  folder = place.0;
  name = place.1;
  entry = Defined (Formula variables formula bindings);
  lines = lines;
  verdict = verdict;
}

abbrev pub loaded : Ledger → trees.Formula → Check (List Loaded)
loaded ledger formula = files_loaded ledger (first_files (mentions formula))

abbrev pub mentioned_systems : List Loaded → trees.Formula → List (List ℕ)
mentioned_systems tables formula = first_systems (headers_of tables) (mentions formula)

-- its free variables, each over its system, and its verdict
abbrev pub AreVariables : Custom → List resolved.Variable → List Variable → Type 0
AreVariables custom found variables = AllZip (IsVariable custom) found variables

abbrev pub VariablesAnswers : Custom → List Loaded → trees.Formula → Result (List Variable) Refusal → Type 0
VariablesAnswers custom tables formula result = MatchResult result (AreVariables custom (free_variables (all_occurrences (headers_of tables) formula))) (λ fault. ⊥)

abbrev pub VerdictAnswers : Custom → Bindings → List Variable → trees.Formula → Result (Option Bool) Refusal → Type 0
VerdictAnswers custom bindings variables formula result = MatchResult result (HasVerdict custom bindings variables formula) (λ fault. ⊥)

-- the checks after the variables, after the steps, after the resolution, and after the formula
abbrev pub after_variables : Custom → Place → Bindings → trees.Formula → List StepLine → List Variable → Check Success
after_variables custom place bindings formula lines variables = Then (Pure (VerdictAnswers custom bindings variables formula)) (λ verdict. stored custom (formula_success place bindings variables formula lines verdict))

abbrev pub after_steps : Ledger → Place → List Loaded → trees.Formula → List StepLine → Check Success
after_steps ledger place tables formula lines = Then (Pure (VariablesAnswers (custom_of ledger) tables formula)) (λ variables. after_variables (custom_of ledger) place (bindings_now ledger formula) formula lines variables)

abbrev pub after_resolution : StepLog → Ledger → Place → List Loaded → trees.Formula → Check Success
after_resolution admitted ledger place tables formula = Then (Pure (BuiltAnswers admitted (custom_of ledger) tables formula)) (λ lines. after_steps ledger place tables formula lines)

abbrev pub after_formula : ℕ → Ledger → Place → trees.Formula → Check Success
after_formula limit ledger place formula = Then (loaded ledger formula) (λ tables. after_tables limit ledger place formula tables)
