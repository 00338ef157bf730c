use Rattle.std.proofs.Common.{ap, subst, arith}
use Rattle.digit_tuple.specs.Letters.{product, IsAlphabet}
use Rattle.automaton_steps.specs.ReverseSteps.{IsReversed, reverse_step}
use Rattle.automaton_steps.proofs.ReverseSizes.{IsReversed-canonical, IsEquivalence-reverse, reverse_kept}
use Rattle.automaton_steps.proofs.StepSizes.{line_of}
use Rattle.automaton_steps.proofs.reverse_step.reverse_step.Goals as goal

pub returns-in_ok-done-in-Ok : goal.returns-in_ok-done-in-Ok
returns-in_ok-done-in-Ok c =
    let d = c.args.argument.now in
    let e = c.in_ok-reversed-in-Ok.reversed in
    let is : IsReversed d e = IsReversed-canonical d c.in-Ok.field-0.result e c.in-Ok.ensures.sizes c.in-Ok.ensures.language c.in_ok-reversed-in-Ok.ensures.sizes c.in_ok-reversed-in-Ok.ensures.language c.in_ok-reversed-in-Ok.ensures.canonical in
    let alphabet : IsAlphabet d.sizes = subst IsAlphabet c.alphabet.ensures.sizes c.tracks.ensures.alphabet in
    record {
      line = _;
      step = record {
        made_is = is;
        line_is = line_of (reverse_step d).step e alphabet is.canonical (ap product is.sizes) (IsEquivalence-reverse d) (reverse_kept d e is) c.args.steps.now.limit c.in-Ok.field-0.width c.states.result c.in-Ok.ensures.width (omega (arith, c.in-Ok.ensures.within, c.begin.ensures)) c.states.ensures.value;
      };
      new_is = c.in_ok-done-in-Ok.ensures.ok;
    }
