use Rattle.std.proofs.Common.{◌∙◌}
use Rattle.fib_system.proofs.AdderLemmas.{keys_add}
use Rattle.fib_system.proofs.automata.msd_adder.Goals as goal

pub returns-in-Ok : goal.returns-in-Ok
returns-in-Ok c = keys_add c.in-Ok.stepped.result (c.in-Ok.ensures.sizes ∙ c.in_ok-alphabet.ensures) c.in-Ok.ensures.language
