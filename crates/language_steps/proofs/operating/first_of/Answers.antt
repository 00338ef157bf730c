use Rattle.language_steps.proofs.Chains.{first_of_names}
use Rattle.language_steps.proofs.operating.first_of.Goals as goal

pub returns : goal.returns
returns c = first_of_names c.args.languages.now c.args.names.now c.first-item.result c.language_under.result.now c.requires.some c.first-item.is c.language_under.ensures
