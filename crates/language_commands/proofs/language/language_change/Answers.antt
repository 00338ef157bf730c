use Rattle.std.proofs.Common.{ℕ, List, Ok, refl, sym, subst}
use Rattle.std.proofs.lemmas.Result.{err_from_is_err_and}
use Rattle.command_head.specs.HeadViews.{languages_view}
use Rattle.command_head.specs.Parts.{parts_of, texts_of}
use Rattle.definitions.specs.Trees.{custom_of}
use Rattle.language_steps.specs.Operands.{HasCount}
use Rattle.language_commands.specs.LanguageOutcomes.{after_language_head}
use Rattle.command_parts.specs.Checks.{Fails}
use Rattle.command_parts.specs.FileChanges.{Makes}
use Rattle.command_parts.proofs.HeadSteps.{own_head}
use Rattle.language_commands.proofs.LanguageChains.{head_count, language_broken, language_failed, language_changed}
use Rattle.command_parts.proofs.StoreReads.{from_none, from_read, from_refused}
use Rattle.language_commands.proofs.language.language_change.Goals as goal

pub returns-in_err-head : goal.returns-in_err-head
returns-in_err-head g c =
    let p = err_from_is_err_and c.from_residual.result c.from_residual.ensures.1 in
    let fault = c.in_err-head.field-0.0 in
    rw (p.1, p.2) (from_none _ _ _ (own_head fault) (λ found ledger stores. language_broken c.args.command.op c.args.options.limit ledger c.args.command.text.now fault c.in_err-head.ensures))

pub language_made-requires : goal.language_made-requires
language_made-requires g c =
    let head = languages_view c.in_ok-head.head in
    subst (HasCount c.args.command.op) (sym c.deref.ensures.value) (head_count c.args.command.op (texts_of (parts_of c.args.command.text.now)) head c.in_ok-head.ensures)

pub returns-in-Ok : goal.returns-in-Ok
returns-in-Ok g c =
    let head = languages_view c.in_ok-head.head in
    from_read _ _ _ _ _ _ tt c.in-Ok.ensures
    (λ found makes ledger stores. language_changed c.args.command.op c.args.options.limit ledger c.args.command.text.now c.args.options.shown head _ c.in_ok-head.ensures refl refl
    (subst (λ (names : List (List ℕ)). Makes (custom_of ledger) (after_language_head c.args.options.limit ledger c.args.command.op (record { name = head.name; languages = names })) c.args.options.shown (Ok c.in-Ok.made)) c.deref.ensures.value (makes ledger head.name stores)))

pub returns-in-Err : goal.returns-in-Err
returns-in-Err g c =
    let head = languages_view c.in_ok-head.head in
    from_refused _ _ _ _ c.in-Err.fault c.in-Err.ensures
    (λ found refused ledger stores. language_failed c.args.command.op c.args.options.limit ledger c.args.command.text.now c.args.options.shown head c.in-Err.fault c.in_ok-head.ensures
    (subst (λ (names : List (List ℕ)). Fails (after_language_head c.args.options.limit ledger c.args.command.op (record { name = head.name; languages = names })) c.in-Err.fault) c.deref.ensures.value (refused ledger head.name stores)))
