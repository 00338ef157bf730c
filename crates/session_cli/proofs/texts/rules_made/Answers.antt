use Rattle.std.proofs.Common.{ℕ, List, subst}
use Rattle.std.proofs.lemmas.Result.{err_from_is_err_and}
use Rattle.command_parts.specs.MorphismFaults.{fault_of_rules}
use Rattle.command_parts.specs.TextChanges.{StoresText}
use Rattle.session_cli.proofs.TextSteps.{rules_refused, rules_stored, rules_unread}
use Rattle.session_cli.proofs.texts.rules_made.Goals as goal

pub returns-in_err-morphism : goal.returns-in_err-morphism
returns-in_err-morphism c =
    let p = err_from_is_err_and c.from_residual.result c.from_residual.ensures.1 in
    let fault = c.in_err-morphism.field-0.0 in
    rw (p.1, p.2) (λ custom name shown. rules_refused custom (record { name = name; body = c.args.body.now }) (fault_of_rules fault) (rules_unread c.args.body.now fault c.in_err-morphism.ensures))

pub returns-in_err-stored : goal.returns-in_err-stored
returns-in_err-stored c =
    let p = err_from_is_err_and c.from_residual-in_err-stored.result c.from_residual-in_err-stored.ensures.1 in
    rw (p.1, p.2) (λ custom name shown. tt)

pub returns : goal.returns
returns c = λ custom name shown. rules_stored custom (record { name = name; body = c.args.body.now }) c.in_ok-morphism.morphism shown c.stored_text.result c.in_ok-morphism.ensures
    (subst (λ (text : List ℕ). StoresText text c.stored_text.result) c.in_ok-stored.ensures c.stored_text.ensures)
