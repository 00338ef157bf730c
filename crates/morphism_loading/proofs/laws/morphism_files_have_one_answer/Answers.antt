use Rattle.morphism_loading.proofs.OneAnswer.{files_have_one_answer}
use Rattle.morphism_loading.proofs.laws.morphism_files_have_one_answer.Goals as goal

pub returns : goal.returns
returns c = files_have_one_answer c.one_answer.ensures
