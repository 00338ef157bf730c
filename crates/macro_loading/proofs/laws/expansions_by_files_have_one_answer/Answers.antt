use Rattle.macro_loading.proofs.OneAnswers.{one_answer}
use Rattle.macro_loading.proofs.laws.expansions_by_files_have_one_answer.Goals as goal

pub returns : goal.returns
returns c = one_answer
