use Rattle.std.proofs.Common.{◌≡◌, ℕ, false, cond, get_or, ap, ◌∙◌, arith}
use Rattle.digit_tuple.specs.Deterministic.{states_of}
use Rattle.numeration.proofs.CountLemmas.{sum_below}
use Rattle.constants.specs.WordCounts.{capped}
use Rattle.constants.proofs.PrefixLemmas.{marks-sum}
use Rattle.constants.proofs.prefix.sum_at.Goals as goal

pub returns : goal.returns
returns c = λ a w n table marked are.
    let marks = c.args.marks.now in
    let row = c.args.row.now in
    let all : c.loop-state.state ≡ states_of a = omega (arith, c.loop-state-test.false, c.loop-state.auto.state-end, marked.long) in
    c.loop-state.invariant
    ∙ ap (λ k. capped (sum_below (λ q. cond {A = ℕ} (get_or marks q false) (get_or row q 0) 0) k)) all
    ∙ marks-sum a w row marks n table marked are
