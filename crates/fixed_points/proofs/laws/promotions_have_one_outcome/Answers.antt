use Rattle.fixed_points.proofs.OnePromotion.{one_promotions}
use Rattle.fixed_points.proofs.laws.promotions_have_one_outcome.Goals as goal

pub returns : goal.returns
returns c = one_promotions c.rank_is_positional.ensures
