use Rattle.base_change.proofs.StepLemmas.{digits-few}
use Rattle.base_change.proofs.key_letters.key_letter.Goals as goal

pub number_of-whole-requires-clause-few : goal.number_of-whole-requires-clause-few
number_of-whole-requires-clause-few c =
    digits-few c.args.function.now.automaton c.args.root c.requires.0 c.args.key.now c.requires.3 c.requires.1 c.requires.2
