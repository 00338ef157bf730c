use Rattle.std.proofs.Common.{◌≡◌, ◌<◌, length, get_or, map, ap, sym, ◌∙◌, subst, arith, below_more}
use Rattle.std.specs.Rc.{rc_value}
use Rattle.std.proofs.lemmas.Bool.{false≢true}
use Rattle.std.proofs.lemmas.List.{get_or-map, length-map}
use Rattle.num_system.specs.Sealed.{SystemValue}
use Rattle.num_system.specs.Tracks.{absent_system}
use Rattle.combinations.specs.Shapes.{AreSameSystem}
use Rattle.combinations.proofs.shape.have_same_tracks.Goals as goal

pub returns-then-not-are_same_system : goal.returns-then-not-are_same_system
returns-then-not-are_same_system c =
    let track = c.loop-track.track in
    let there : track < length c.args.others.now = omega (arith, c.loop-track-test.true, c.if-systems-others.false) in
    let first : get_or (map rc_value c.args.systems.now) track absent_system ≡ c.as_ref.result.now =
    get_or-map rc_value c.args.systems.now track c.index-systems-track.result absent_system c.loop-track-test.true ∙ ap rc_value (sym c.index-systems-track.is) ∙ sym c.as_ref.ensures in
    let second : get_or (map rc_value c.args.others.now) track absent_system ≡ c.as_ref-in-loop-track.result.now =
    get_or-map rc_value c.args.others.now track c.index-others-track.result absent_system there ∙ ap rc_value (sym c.index-others-track.is) ∙ sym c.as_ref-in-loop-track.ensures in (
      λ is. absurd (false≢true is),
      λ same. sym c.if-not-are_same_system.true ∙ c.are_same_system.ensures.1
          (subst (λ (s : SystemValue). AreSameSystem s c.as_ref-in-loop-track.result.now) first
          (subst (λ (t : SystemValue). AreSameSystem (get_or (map rc_value c.args.systems.now) track absent_system) t) second
          (same.each track (omega (arith, c.loop-track-test.true, length-map c.args.systems.now rc_value))))),
    )

pub loop-track-preserved : goal.loop-track-preserved
loop-track-preserved c =
    let track = c.loop-track.track in
    let there : track < length c.args.others.now = omega (arith, c.loop-track-test.true, c.if-systems-others.false) in
    let first : get_or (map rc_value c.args.systems.now) track absent_system ≡ c.as_ref.result.now =
    get_or-map rc_value c.args.systems.now track c.index-systems-track.result absent_system c.loop-track-test.true ∙ ap rc_value (sym c.index-systems-track.is) ∙ sym c.as_ref.ensures in
    let second : get_or (map rc_value c.args.others.now) track absent_system ≡ c.as_ref-in-loop-track.result.now =
    get_or-map rc_value c.args.others.now track c.index-others-track.result absent_system there ∙ ap rc_value (sym c.index-others-track.is) ∙ sym c.as_ref-in-loop-track.ensures in
    below_more _ _ c.loop-track.invariant
    (subst (λ (s : SystemValue). AreSameSystem s (get_or (map rc_value c.args.others.now) track absent_system)) (sym first)
    (subst (λ (t : SystemValue). AreSameSystem c.as_ref.result.now t) (sym second) (c.are_same_system.ensures.0 c.if-not-are_same_system.false)))
