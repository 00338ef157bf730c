use Rattle.std.proofs.Common.{ap, subst, arith}
use Rattle.digit_tuple.specs.Letters.{product, IsAlphabet}
use Rattle.automaton_steps.specs.ReadSteps.{IsRead, read_step}
use Rattle.automaton_steps.proofs.ReadSizes.{IsRead-canonical, IsEquivalence-read, read_kept}
use Rattle.automaton_steps.proofs.StepSizes.{line_of}
use Rattle.automaton_steps.proofs.read_step.read_step.Goals as goal

pub returns-in_ok-done-in-Ok : goal.returns-in_ok-done-in-Ok
returns-in_ok-done-in-Ok c =
    let n = c.args.listed.now in
    let read = c.in_ok-read-in-Ok.read in
    let is : IsRead n read = IsRead-canonical n c.in-Ok.field-0.result read c.in-Ok.ensures.sizes c.in-Ok.ensures.language c.in_ok-read-in-Ok.ensures.sizes c.in_ok-read-in-Ok.ensures.language c.in_ok-read-in-Ok.ensures.canonical in
    let alphabet : IsAlphabet n.sizes = subst IsAlphabet c.alphabet.ensures.sizes c.tracks.ensures.alphabet in
    record {
      line = _;
      step = record {
        made_is = is;
        line_is = line_of (read_step n).step read alphabet is.canonical (ap product is.sizes) (IsEquivalence-read n) (read_kept n read is) c.args.steps.now.limit c.in-Ok.field-0.width c.states.result c.in-Ok.ensures.width (omega (arith, c.in-Ok.ensures.within, c.begin.ensures)) c.states.ensures.value;
      };
      new_is = c.in_ok-done-in-Ok.ensures.ok;
    }
