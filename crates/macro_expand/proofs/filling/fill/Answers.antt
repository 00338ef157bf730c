use Rattle.std.proofs.Common.{map}
use Rattle.std.proofs.lemmas.Result.{err_from_is_err_and}
use Rattle.macro_expand.specs.Filling.{segments, filled}
use Rattle.macro_expand.proofs.FillSteps.{fill_more, fill_refused}
use Rattle.macro_expand.proofs.filling.fill.Goals as goal

pub returns-in_err-put : goal.returns-in_err-put
returns-in_err-put c =
    let p = err_from_is_err_and c.from_residual.result c.from_residual.ensures.1 in
    rw (p.1, p.2)
    (fill_refused (map (λ argument. argument.items) c.args.arguments.now) c.loop-rest.rest.now c.first_segment-segment.result c.first_segment-segment.ensures c.loop-rest.made.items c.text.result.now (filled (map (λ argument. argument.items) c.args.arguments.now) (segments c.args.text.now)) c.text.ensures c.loop-rest.invariant.whole_is _ c.in_err-put.ensures.made)

pub loop-rest-preserved : goal.loop-rest-preserved
loop-rest-preserved c = record {
  whole_is = fill_more (map (λ argument. argument.items) c.args.arguments.now) c.loop-rest.rest.now c.first_segment-segment.result c.first_segment-segment.ensures c.loop-rest.made.items c.text.result.now (filled (map (λ argument. argument.items) c.args.arguments.now) (segments c.args.text.now)) c.text.ensures c.loop-rest.invariant.whole_is
      _ _ c.len.result c.in_ok-put.ensures.text c.len.ensures c.after-rest.ensures;
  short = c.in_ok-put.ensures.short;
}
