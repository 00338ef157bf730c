use Rattle.std.proofs.lemmas.Result.{err_from_is_err_and}
use Rattle.command_parts.proofs.HeadSteps.{own_head}
use Rattle.listing_commands.proofs.ListingHeads.{inf_broken, inf_said}
use Rattle.command_parts.proofs.StoreReads.{from_none, from_part}
use Rattle.listing_commands.proofs.listing.say_inf.Goals as goal

pub returns-in_err-name : goal.returns-in_err-name
returns-in_err-name g c =
    let p = err_from_is_err_and c.from_residual.result c.from_residual.ensures.1 in
    let fault = c.in_err-name.field-0.0 in
    rw (p.1, p.2) (from_none _ _ _ (own_head fault) (λ found ledger stores. inf_broken c.args.options.limit ledger c.args.text.now fault c.in_err-name.ensures))

pub returns : goal.returns
returns g c =
    from_part _ _ _ _ c.said.result c.said.ensures
    (λ found prints_checked ledger stores. inf_said c.args.options.limit ledger c.args.text.now c.in_ok-name.name c.args.options.shown c.said.result c.in_ok-name.ensures (prints_checked ledger stores))
