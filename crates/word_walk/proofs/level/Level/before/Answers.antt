use Rattle.std.proofs.Common.{sym, subst, arith}
use Rattle.std.proofs.lemmas.Result.{IfOk-weaker}
use Rattle.word_walk.specs.Sources.{AreSources}
use Rattle.word_walk.proofs.level.Level.before.Goals as goal

pub returns : goal.returns
returns c =
    let sources : AreSources c.args.d.now c.args.flags.now c.loop-state.sources.items = record {
      width = omega (arith, c.loop-state.invariant.count, c.loop-state-test.false, c.loop-state.auto.state-end, c.states-states.ensures.value);
      flag_is = λ q within. c.loop-state.invariant.flag_is q (omega (arith, within, c.loop-state-test.false, c.loop-state.auto.state-end, c.states-states.ensures.value));
    } in
    IfOk-weaker c.of_flags.result _ _ (λ level is. subst (AreSources c.args.d.now c.args.flags.now) (sym is) sources) c.of_flags.ensures
