use Rattle.std.proofs.Common.{◌∙◌, sym}
use Rattle.macro_expand.proofs.SegmentSteps.{missing_here, missing_after}
use Rattle.macro_expand.proofs.filling.missing_place.Goals as goal

pub returns-in-Some : goal.returns-in-Some
returns-in-Some c = sym (missing_here c.loop-rest.rest.now c.first_segment-segment.result c.first_segment-segment.ensures c.args.given c.in-Some.number (sym c.in-Some.ensures)) ∙ c.loop-rest.invariant

pub loop-rest-preserved : goal.loop-rest-preserved
loop-rest-preserved c =
    missing_after c.loop-rest.rest.now c.first_segment-segment.result c.first_segment-segment.ensures c.args.given c.len.result _ (sym c.in_default.ensures) c.len.ensures c.after-rest.ensures ∙ c.loop-rest.invariant
