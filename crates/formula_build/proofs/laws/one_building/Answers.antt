use Rattle.formula_build.proofs.OneBuildingLemmas.{one_building}
use Rattle.formula_build.proofs.laws.one_building.Goals as goal

pub returns : goal.returns
returns c = one_building
