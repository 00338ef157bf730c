use Rattle.fib_system.proofs.WeightLemmas.{rank_is_sum}
use Rattle.fib_system.proofs.laws.rank_is_weight_sum.Goals as goal

pub returns : goal.returns
returns c = rank_is_sum
