use Rattle.base_k.proofs.ValueLemmas.{rank_is_value}
use Rattle.base_k.proofs.laws.rank_is_positional.Goals as goal

pub returns : goal.returns
returns c = rank_is_value
