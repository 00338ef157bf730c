use Rattle.fixed_points.proofs.PowerLemmas.{one_letter}
use Rattle.fixed_points.proofs.ReachedLemmas.{some_letter}
use Rattle.fixed_points.proofs.laws.fixed_points_have_letters.Goals as goal

pub returns-clause-some : goal.returns-clause-some
returns-clause-some c = λ rules k place has. some_letter rules k has c.rank_is_positional.ensures place

pub returns-clause-one : goal.returns-clause-one
returns-clause-one c = one_letter
