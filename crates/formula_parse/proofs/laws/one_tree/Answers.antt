use Rattle.text_grammar.specs.Spots.{tokens}
use Rattle.formula_parse.specs.Spots.{spots}
use Rattle.formula_parse.proofs.OneAnswer.{one_tree_of}
use Rattle.formula_parse.proofs.laws.one_tree.Goals as goal

pub returns : goal.returns
returns c = λ text f g r q. one_tree_of (tokens (spots text)) f g r q
