use Rattle.std.proofs.Common.{◌≡◌, List, map, ap, sym, ◌∙◌, subst, below_more}
use Rattle.std.specs.Rc.{rc_value}
use Rattle.num_system.specs.Sealed.{SystemValue}
use Rattle.number_relations.specs.Relations.{RelationValue}
use Rattle.combinations.specs.Parts.{PartValue, systems_at}
use Rattle.combinations.specs.Shapes.{HaveSameTracks}
use Rattle.combinations.proofs.TrackLemmas.{systems_at-is}
use Rattle.combinations.proofs.shape.first_other.Goals as goal

pub loop-place-preserved : goal.loop-place-preserved
loop-place-preserved c =
    let parts = c.args.parts.now in
    let place = c.loop-place.place in
    let part = c.index-parts-place.result in
    let at : map rc_value c.systems.result.now ≡ systems_at parts place =
    c.systems.ensures.value ∙ ap (λ (r : RelationValue). r.systems) c.relation.ensures.value ∙ ap (λ (p : PartValue). p.relation.systems) c.index-parts-place.is ∙ sym (systems_at-is parts place part c.loop-place-test.true) in
    below_more _ _ c.loop-place.invariant
    (subst (λ (ss : List SystemValue). HaveSameTracks ss (systems_at parts place)) c.requires.first
    (subst (λ (ss : List SystemValue). HaveSameTracks (map rc_value c.args.first.now) ss) at (c.have_same_tracks.ensures.0 c.if-not-have_same_tracks.false)))
