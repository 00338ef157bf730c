use Rattle.std.proofs.Common.{◌≡◌, ℕ, subst, rules}
use Rattle.std.proofs.lemmas.Result.{err_from_is_err_and}
use Rattle.definitions.specs.Texts.{Stores}
use Rattle.definitions.specs.Trees.{Ledger, custom_of}
use Rattle.command_parts.specs.Checks.{Fails}
use Rattle.session_cli.specs.Outcomes.{checks_of}
use Rattle.command_parts.specs.FileChanges.{IsAction}
use Rattle.session_cli.proofs.CommandSteps.{answering, refused_command, acted_command}
use Rattle.session_cli.proofs.session.Session.command.Goals as goal

pub returns-in_err-action-clause-command : goal.returns-in_err-action-clause-command
returns-in_err-action-clause-command g c =
    let p = err_from_is_err_and c.from_residual.result c.from_residual.ensures.1 in
    let limit_is : c.self.inside.limit ≡ c.args.self.now.limit = search rules in
    let from = c.in_err-action.ensures in
    λ ledger stores. rw (p.1, p.2) (refused_command c.args.self.now.limit ledger _ _ c.args.text.now c.args.shown _ from.found (answering _ ledger from.found stores from.reported)
    (subst (λ (limit : ℕ). (known : Ledger) → Stores known from.found → Fails (checks_of limit known c.args.text.now) c.in_err-action.field-0.0) limit_is from.gives) from.has_read)

pub returns-clause-command : goal.returns-clause-command
returns-clause-command g c =
    let limit_is : c.self.inside.limit ≡ c.args.self.now.limit = search rules in
    let from = c.in_ok-action.ensures in
    λ ledger stores.
    let by = answering _ ledger from.found stores from.reported in
    let acts = subst (λ (limit : ℕ). (known : Ledger) → Stores known from.found → IsAction (custom_of known) (checks_of limit known c.args.text.now) c.args.shown c.in_ok-action.action) limit_is from.gives in
    acted_command c.args.self.now.limit ledger _ _ _ c.args.text.now c.args.shown from.found by c.in_ok-action.action c.do_action.result (acts by.known by.stores) from.has_read c.do_action.ensures
