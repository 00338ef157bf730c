use Rattle.transducer_loading.proofs.OneAnswer.{files_have_one_answer}
use Rattle.transducer_loading.proofs.laws.transducer_files_have_one_answer.Goals as goal

pub returns : goal.returns
returns c = files_have_one_answer
