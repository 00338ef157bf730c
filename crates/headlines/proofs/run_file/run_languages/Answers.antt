use Rattle.headlines.proofs.RunFileSteps as steps
use Rattle.headlines.proofs.run_file.run_languages.Goals as goal

pub returns : goal.returns
returns c = steps.run_languages
