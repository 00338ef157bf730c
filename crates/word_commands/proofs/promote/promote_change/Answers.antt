use Rattle.std.proofs.Common.{[], Err, refl, sym, subst}
use Rattle.std.proofs.lemmas.Result.{err_from_is_err_and}
use Rattle.command_head.specs.Grammar.{DerivesPromote}
use Rattle.command_head.specs.HeadViews.{promote_view}
use Rattle.definitions.specs.Trees.{custom_of}
use Rattle.command_parts.specs.declared.fault.Fault.{Fault}
use Rattle.command_parts.specs.Checks.{Fails}
use Rattle.command_parts.specs.FormulaFaults.{fault_of_loading}
use Rattle.command_parts.specs.HeadAnswers.{fault_of_head}
use Rattle.word_commands.specs.MorphismChecks.{morphism_loaded}
use Rattle.word_commands.specs.PromoteOutcomes.{after_morphism}
use Rattle.command_parts.proofs.HeadSteps.{head_unread, own_head}
use Rattle.word_commands.proofs.LoadedMorphisms.{morphism_there, morphism_not_there, morphism_unloaded}
use Rattle.word_commands.proofs.PromoteSteps.{no_more_read, promote_unread, promote_unloaded, promote_failed, promote_changed}
use Rattle.command_parts.proofs.StoreReads.{from_none, from_read, from_refused, own_fault}
use Rattle.command_parts.proofs.TextReads.{no_texts}
use Rattle.word_commands.proofs.promote.promote_change.Goals as goal

pub returns-in_err-head : goal.returns-in_err-head
returns-in_err-head g c =
    let p = err_from_is_err_and c.from_residual.result c.from_residual.ensures.1 in
    let fault = c.in_err-head.field-0.0 in
    rw (p.1, p.2) (from_none _ _ _ (own_head fault)
    (λ found ledger stores. promote_unread c.args.options.limit ledger c.args.text.now (fault_of_head fault) (head_unread DerivesPromote promote_view c.args.text.now fault c.in_err-head.ensures)))

pub returns-in_err-morphism : goal.returns-in_err-morphism
returns-in_err-morphism g c =
    let p = err_from_is_err_and c.from_residual-in_err-morphism.result c.from_residual-in_err-morphism.ensures.1 in
    let fault = c.in_err-morphism.field-0.0 in
    let head = promote_view c.in_ok-head.head in
    rw (p.1, p.2) (from_refused _ _ _ _ (fault_of_loading fault) (morphism_not_there head.morphism _ _ fault c.in_err-morphism.ensures)
    (λ found refused ledger stores. promote_unloaded c.args.options.limit ledger c.args.text.now head c.in_ok-head.ensures (fault_of_loading fault)
    (subst (λ (f : Fault). Fails (morphism_loaded ledger head.morphism) f) (sym refused.2) (morphism_unloaded ledger found head.morphism refused.0 stores refused.1))))

pub returns-in_err-made : goal.returns-in_err-made
returns-in_err-made g c =
    let p = err_from_is_err_and c.from_residual-in_err-made.result c.from_residual-in_err-made.ensures.1 in
    let fault = c.in_err-made.field-0.0 in
    let limit = c.args.options.limit in
    let head = promote_view c.in_ok-head.head in
    let rules = c.in_ok-morphism.morphism in
    rw (p.1, p.2) (from_read _ _ _ _ rules (Err fault) (own_fault (after_morphism limit no_texts [] rules) (no_more_read limit no_texts [] rules) fault (c.in_err-made.ensures no_texts [])) (morphism_there head.morphism _ _ rules c.in_ok-morphism.ensures)
    (λ found there ledger stores. promote_failed limit ledger c.args.text.now head c.in_ok-head.ensures rules fault (found, stores, there) (c.in_err-made.ensures (custom_of ledger) head.word)))

pub returns : goal.returns
returns g c =
    let head = promote_view c.in_ok-head.head in
    let rules = c.in_ok-morphism.morphism in
    from_read _ _ _ _ rules _ tt (morphism_there head.morphism _ _ rules c.in_ok-morphism.ensures)
    (λ found there ledger stores. promote_changed c.args.options.limit ledger c.args.text.now head c.in_ok-head.ensures rules c.args.options.shown _ (found, stores, there) refl refl (c.in_ok-made.ensures (custom_of ledger) head.word))
