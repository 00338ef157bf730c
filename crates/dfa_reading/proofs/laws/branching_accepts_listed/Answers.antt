use Rattle.dfa_reading.proofs.Words.{accepts_listed}
use Rattle.dfa_reading.proofs.laws.branching_accepts_listed.Goals as goal

pub returns : goal.returns
returns c = accepts_listed
