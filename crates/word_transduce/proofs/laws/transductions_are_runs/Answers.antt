use Rattle.word_transduce.proofs.LetterRunLemmas.{transductions_are_runs}
use Rattle.word_transduce.proofs.laws.transductions_are_runs.Goals as goal

pub returns : goal.returns
returns c = transductions_are_runs
