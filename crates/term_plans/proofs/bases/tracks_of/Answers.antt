use Rattle.std.proofs.Common.{◌++◌, ◌∷◌, [], List, map, take, sym, ap, ◌∙◌, arith}
use Rattle.std.proofs.lemmas.List.{map-append, map_more}
use Rattle.term_plans.specs.Tracks.{Track}
use Rattle.term_plans.specs.Makings.{track_view}
use Rattle.term_plans.specs.Planning.{tracks_in}
use Rattle.term_plans.specs.declared.planner.Placed.{Placed}
use Rattle.term_plans.proofs.bases.tracks_of.Goals as goal

pub loop-one-preserved : goal.loop-one-preserved
loop-one-preserved c =
    let ps = c.args.placed.now in
    let i = c.loop-one.one-index in
    ap (map track_view) c.in_ok-push.ensures.items ∙ map-append track_view c.loop-one.tracks.items (c.in_ok-track.track ∷ []) ∙ ap (λ (ts : List Track). ts ++ track_view c.in_ok-track.track ∷ []) c.loop-one.invariant
    ∙ ap (λ t. tracks_in (take i ps) ++ track_view t ∷ []) (c.in_ok-track.ensures ∙ ap (λ (p : Placed). p.track) c.one-item.is)
    ∙ sym (map_more (λ (p : Placed). track_view p.track) ps i c.one-item.result (omega (arith, c.loop-one-test.true)))
