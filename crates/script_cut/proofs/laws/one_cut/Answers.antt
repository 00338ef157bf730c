use Rattle.script_cut.proofs.OneList.{same_next, same_lists}
use Rattle.script_cut.proofs.laws.one_cut.Goals as goal

pub returns-clause-next : goal.returns-clause-next
returns-clause-next c = λ place i j p q a b. let same = same_next place i j p q a b in (same.item, same.place)

pub returns-clause-list : goal.returns-clause-list
returns-clause-list c = λ place is js a b. same_lists place is js a b
