-- One waits at the end.
use Rattle.std.proofs.Common.{◌≤◌, ◌+◌, arith}
use Rattle.std.proofs.lemmas.Bool.Decides.{Decides-eqb}
use Rattle.regex_build.proofs.PostfixSteps.{count_more, postfix_from_count, count_from_postfix}
use Rattle.regex_build.proofs.postfix.are_postfix.Goals as goal

pub loop-symbol-preserved : goal.loop-symbol-preserved
loop-symbol-preserved c =
    let small : c.waiting_after-waiting.result ≤ c.loop-symbol.waiting + 1 = c.waiting_after-waiting.ensures.small in
    let before : c.loop-symbol.waiting ≤ c.loop-symbol.symbol-index = c.loop-symbol.invariant.small in
    record {
      count = count_more c.args.symbols.now c.loop-symbol.symbol-index c.symbol-item.result c.loop-symbol.waiting c.waiting_after-waiting.result c.loop-symbol-test.true c.symbol-item.is c.loop-symbol.invariant.count c.waiting_after-waiting.ensures.count;
      small = omega arith;
    }

pub returns : goal.returns
returns c =
    let waits_for_one = Decides-eqb c.loop-symbol.waiting 1 in (
      λ h. postfix_from_count c.args.symbols.now c.loop-symbol.symbol-index c.loop-symbol.waiting c.loop-symbol-test.false c.loop-symbol.invariant.count (waits_for_one.0 h),
      λ h. waits_for_one.1 (count_from_postfix c.args.symbols.now c.loop-symbol.symbol-index c.loop-symbol.waiting c.loop-symbol-test.false c.loop-symbol.invariant.count h),
    )
