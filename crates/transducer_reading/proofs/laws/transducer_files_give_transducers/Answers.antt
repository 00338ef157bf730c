use Rattle.transducer_reading.proofs.PlacedLemmas.{files_give_transducers}
use Rattle.transducer_reading.proofs.laws.transducer_files_give_transducers.Goals as goal

pub returns : goal.returns
returns c = files_give_transducers
