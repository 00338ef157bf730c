use Rattle.std.proofs.Common.{map, inl, inr, refl, sym, subst}
use Rattle.std.specs.Rc.{rc_value}
use Rattle.std.proofs.lemmas.Result.{err_from_is_err_and}
use Rattle.dfa_reading.specs.HeaderViews.{header_view}
use Rattle.dfa_reading.specs.Headers.{Header}
use Rattle.command_parts.specs.TableReads.{AreSystemsUnder}
use Rattle.listing_commands.proofs.ListingReady.{has_tracks}
use Rattle.listing_commands.proofs.listing.answered_under.Goals as goal

pub returns-in_err-tracks : goal.returns-in_err-tracks
returns-in_err-tracks c =
    let p = err_from_is_err_and c.from_residual.result c.from_residual.ensures.1 in
    rw (p.1, p.2) (inl refl)

pub answered_over-requires : goal.answered_over-requires
answered_over-requires c =
    let systems = c.args.systems.now in
    let under = subst (λ xs. AreSystemsUnder systems (header_view c.header.result.now) (map rc_value xs)) (sym c.deref.ensures.value) c.in_ok-tracks.ensures in
    has_tracks systems c.args.about.table.now (map rc_value c.deref.result.now) c.requires.table c.requires.readable (subst (λ (h : Header). AreSystemsUnder systems h (map rc_value c.deref.result.now)) c.header.ensures under)

pub returns : goal.returns
returns c =
    let systems = c.args.systems.now in
    let under = subst (λ xs. AreSystemsUnder systems (header_view c.header.result.now) (map rc_value xs)) (sym c.deref.ensures.value) c.in_ok-tracks.ensures in
    inr (map rc_value c.deref.result.now, subst (λ (h : Header). AreSystemsUnder systems h (map rc_value c.deref.result.now)) c.header.ensures under, c.answered_over.ensures)
