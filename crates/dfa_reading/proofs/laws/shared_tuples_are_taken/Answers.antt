use Rattle.dfa_reading.proofs.ConflictLemmas.{shared_tuples_are_taken}
use Rattle.dfa_reading.proofs.laws.shared_tuples_are_taken.Goals as goal

pub returns : goal.returns
returns c = shared_tuples_are_taken
