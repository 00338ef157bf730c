use Rattle.adder_check.proofs.SystemLemmas.{laws_determine_system}
use Rattle.adder_check.proofs.laws.laws_determine_systems.Goals as goal

pub returns : goal.returns
returns c = laws_determine_system
