use Rattle.formula_resolve.specs.Scopes.{binders_of}
use Rattle.formula_resolve.proofs.OccurrenceLemmas.{place_added, place_passed}
use Rattle.formula_resolve.proofs.occurrence.add_places.Goals as goal
use Rattle.formula_resolve.proofs.occurrence.add_places.Goals.{then-place-tracks+in_ok-add_term, else-place-tracks}
use Rattle.std.proofs.Common.{ap, ◌∙◌}

pub loop-place-preserved : goal.loop-place-preserved
loop-place-preserved c =
    elim c.if-place-tracks.branch [
      | then-place-tracks+in_ok-add_term w ↦ place_added c.args.tracks.now (binders_of c.args.scope.now) c.args.places.now c.loop-place.place c.index-places-place.result c.args.found.now.items c.loop-place.found.items c.if-place-tracks.found.items
          c.loop-place-test.true c.index-places-place.is c.loop-place.invariant w.index-tracks-place.result w.if-place-tracks.true w.index-tracks-place.is (ap (λ v. v.items) w.found-is ∙ w.in_ok-add_term.ensures)
      | else-place-tracks w ↦ place_passed c.args.tracks.now (binders_of c.args.scope.now) c.args.places.now c.loop-place.place c.index-places-place.result c.args.found.now.items c.loop-place.found.items c.if-place-tracks.found.items
          c.loop-place-test.true c.index-places-place.is c.loop-place.invariant w.if-place-tracks.false (ap (λ v. v.items) w.found-is)
    ]
