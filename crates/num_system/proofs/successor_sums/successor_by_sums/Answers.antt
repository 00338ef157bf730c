use Rattle.std.proofs.lemmas.Result.{IfOk-weaker}
use Rattle.num_system.proofs.successor_sums.successor_by_sums.Goals as goal

pub returns-clause-successor : goal.returns-clause-successor
returns-clause-successor c =
    IfOk-weaker c.sums_with_one.result _ _
    (λ next sums s system order zeros adds.
    let positive = c.in_ok-positive.ensures.positive s system order zeros in
    sums s system adds (c.in_ok-one.ensures.one c.args.direction s positive (c.in_ok-above_one.ensures.above_one s system order positive)))
    c.sums_with_one.ensures.successor
