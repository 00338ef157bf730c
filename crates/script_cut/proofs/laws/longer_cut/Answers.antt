use Rattle.script_cut.proofs.LongerTexts.{items_stay, prefix_has_first_items}
use Rattle.script_cut.proofs.laws.longer_cut.Goals as goal

pub returns-clause-stay : goal.returns-clause-stay
returns-clause-stay c = items_stay

pub returns-clause-first : goal.returns-clause-first
returns-clause-first c = prefix_has_first_items
