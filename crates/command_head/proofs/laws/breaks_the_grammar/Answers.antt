use Rattle.command_head.proofs.Breaking.{syntax_breaks, number_breaks}
use Rattle.command_head.proofs.OneFault.{syntax_read, number_read}
use Rattle.command_head.proofs.laws.breaks_the_grammar.Goals as goal

pub returns : goal.returns
returns c text at short = ((syntax_breaks text at short, syntax_read text at short), (number_breaks text at short, number_read text at short))
