use Rattle.language_steps.proofs.MadeSizes.{first_over}
use Rattle.language_steps.proofs.operating.operated.Goals as goal

pub star_step-requires : goal.star_step-requires
star_step-requires c = record { canonical = (first_over c.requires.canonical.0 c.args.languages.now c.args.names.now c.first_of.result.now c.requires.canonical.1 c.first_of.ensures).canonical }
