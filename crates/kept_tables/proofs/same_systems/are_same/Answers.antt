use Rattle.std.proofs.Common.{◌≡◌, ◌<◌, length, get_or, map, ap, sym, ◌∙◌, arith, below_more}
use Rattle.std.specs.Rc.{rc_value}
use Rattle.std.proofs.lemmas.List.{ext_get_or, get_or-map, length-map}
use Rattle.num_system.specs.Tracks.{absent_system}
use Rattle.kept_tables.proofs.same_systems.are_same.Goals as goal

pub loop-track-preserved : goal.loop-track-preserved
loop-track-preserved c =
    let track = c.loop-track.track in
    let there : track < length c.args.others.now = omega (arith, c.loop-track-test.true, c.if-systems-others.false) in
    let first : get_or (map rc_value c.args.systems.now) track absent_system ≡ c.as_ref.result.now =
    get_or-map rc_value c.args.systems.now track c.index-systems-track.result absent_system c.loop-track-test.true ∙ ap rc_value (sym c.index-systems-track.is) ∙ sym c.as_ref.ensures in
    let second : get_or (map rc_value c.args.others.now) track absent_system ≡ c.as_ref-in-loop-track.result.now =
    get_or-map rc_value c.args.others.now track c.index-others-track.result absent_system there ∙ ap rc_value (sym c.index-others-track.is) ∙ sym c.as_ref-in-loop-track.ensures in
    below_more _ _ c.loop-track.invariant (first ∙ c.is_same.ensures c.if-not-is_same.false ∙ sym second)

pub returns : goal.returns
returns c =
    let systems = c.args.systems.now in
    let others = c.args.others.now in
    λ is. ext_get_or absent_system (map rc_value systems) (map rc_value others) (omega (arith, length-map systems rc_value, length-map others rc_value, c.if-systems-others.false))
    (λ k within. c.loop-track.invariant k (omega (arith, within, length-map systems rc_value, c.loop-track-test.false)))
