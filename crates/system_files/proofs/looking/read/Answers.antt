use Rattle.std.proofs.Common.{refl}
use Rattle.system_files.proofs.FoundLemmas.{long_text}
use Rattle.system_files.proofs.looking.read.Goals as goal

pub returns-in-TooLong-clause-gives : goal.returns-in-TooLong-clause-gives
returns-in-TooLong-clause-gives g c = (refl, long_text)
