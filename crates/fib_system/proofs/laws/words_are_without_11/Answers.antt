use Rattle.fib_system.proofs.SparseLemmas.{words_without_11}
use Rattle.fib_system.proofs.laws.words_are_without_11.Goals as goal

pub returns : goal.returns
returns c = words_without_11
