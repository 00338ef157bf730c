use Rattle.std.proofs.Common.{sym, ◌∙◌}
use Rattle.digit_tuple.specs.declared.starts.Base.{Base}
use Rattle.digit_tuple.proofs.StartLemmas.{base_at-more, base_at-same}
use Rattle.digit_tuple.proofs.starts.base_of.Goals.{then-base-index, else-base-index}
use Rattle.digit_tuple.proofs.starts.base_of.Goals as goal

pub loop-base-preserved : goal.loop-base-preserved
loop-base-preserved c =
    let bases = c.args.bases.now in
    let k = c.loop-base.base-index in
    let d : Base = record { first = 0; place = 0 } in
    elim c.if-base-index.branch [
      | then-base-index w ↦ w.place-is ∙ sym (base_at-more 0 bases k d c.args.index c.loop-base-test.true w.if-base-index.true)
      | else-base-index w ↦ w.place-is ∙ c.loop-base.invariant ∙ sym (base_at-same 0 bases k d c.args.index c.loop-base-test.true w.if-base-index.false)
    ]
