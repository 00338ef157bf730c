use Rattle.numeration.specs.Relations.{IsSum}
use Rattle.fib_system.proofs.AdderLemmas.{three, reversed_holds}
use Rattle.fib_system.proofs.automata.reversed_adder.Goals as goal

pub returns-in-Ok : goal.returns-in-Ok
returns-in-Ok c = reversed_holds three IsSum c.args.adder.now c.in-Ok.stepped.result c.requires c.in-Ok.ensures.sizes c.in-Ok.ensures.language
