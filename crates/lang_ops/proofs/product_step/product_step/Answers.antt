use Rattle.std.proofs.Common.{ap, subst, arith}
use Rattle.digit_tuple.specs.Letters.{product, IsAlphabet}
use Rattle.automaton_steps.proofs.StepSizes.{line_of}
use Rattle.lang_ops.specs.ProductSteps.{IsCombination, product_step}
use Rattle.lang_ops.proofs.PairLemmas.{combined_kept}
use Rattle.lang_ops.proofs.WidthLaws.{IsEquivalence-pair}
use Rattle.lang_ops.proofs.product_step.product_step.Goals as goal

pub returns-in_ok-done-in-Ok : goal.returns-in_ok-done-in-Ok
returns-in_ok-done-in-Ok c =
    let a = c.args.a.now in
    let b = c.args.b.now in
    let made = c.in-Ok.field-0.result in
    let is : IsCombination c.args.op a b made = record { sizes = c.in-Ok.ensures.sizes; canonical = c.in-Ok.ensures.canonical; language = c.in-Ok.ensures.language } in
    let alphabet : IsAlphabet a.sizes = subst IsAlphabet c.alphabet.ensures.sizes c.tracks.ensures.alphabet in
    record {
      line = _;
      step = record {
        made_is = is;
        line_is = line_of (product_step c.args.op a b).step made alphabet is.canonical (ap product is.sizes) (IsEquivalence-pair a b) (combined_kept c.args.op a b c.requires.sizes made is.language)
            c.args.steps.now.limit c.in-Ok.field-0.width c.states.result c.in-Ok.ensures.width (omega (arith, c.in-Ok.ensures.within, c.begin.ensures)) c.states.ensures.value;
      };
      new_is = c.in_ok-done-in-Ok.ensures.ok;
    }
