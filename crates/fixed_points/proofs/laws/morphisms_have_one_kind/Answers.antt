use Rattle.fixed_points.proofs.KindLemmas.{one_kinds, promoted_or_refused}
use Rattle.fixed_points.proofs.laws.morphisms_have_one_kind.Goals as goal

pub returns-clause-some : goal.returns-clause-some
returns-clause-some c = promoted_or_refused

pub returns-clause-one : goal.returns-clause-one
returns-clause-one c = one_kinds
