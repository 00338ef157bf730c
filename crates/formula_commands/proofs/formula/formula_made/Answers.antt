use Rattle.std.proofs.Common.{◌≡◌, ℕ, List, Result, Ok, sym, ap, ◌∙◌}
use Rattle.std.proofs.lemmas.Result.{err_from_is_err_and}
use Rattle.macro_expand.specs.declared.fault.MacroFault.{MacroFault}
use Rattle.formula_commands.proofs.FormulaChains.{head_unexpanded, head_expanded}
use Rattle.formula_commands.proofs.MacroReads.{unexpanded, expanded_alike, then_macros}
use Rattle.command_parts.proofs.StoreReads.{from_refused}
use Rattle.formula_commands.proofs.formula.formula_made.Goals as goal

pub returns-in_err-text : goal.returns-in_err-text
returns-in_err-text g c =
    let p = err_from_is_err_and c.from_residual.result c.from_residual.ensures.1 in
    let fault = c.in_err-text.field-0.0 in
    rw (p.1, p.2) (from_refused _ _ _ _ fault c.in_err-text.ensures
    (λ found refused ledger folder name stores. head_unexpanded c.args.options.limit ledger folder (record { name = name; body = c.args.body.now }) fault (unexpanded ledger found c.args.body.now fault stores refused)))

pub returns : goal.returns
returns g c =
    let text : List ℕ = c.deref.result.now in
    let same : c.in_ok-text.text.items ≡ text = sym c.deref.ensures.value in
    then_macros _ _ _ _ _ _ c.in_ok-text.text c.text_made.result c.in_ok-text.ensures c.text_made.ensures
    (λ one two found same_macros others expands makes ledger folder name stores. head_expanded c.args.options.limit ledger folder (record { name = name; body = c.args.body.now }) text c.args.options.shown c.text_made.result
    (found, stores, expanded_alike found one c.args.body.now text same_macros (expands ∙ ap (λ (t : List ℕ). let x : Result (List ℕ) MacroFault = Ok t in x) same)) (makes ledger found (folder, name) stores others))
