use Rattle.std.proofs.Common.{false, ap, ◌∙◌}
use Rattle.formula_parse.specs.Trees as trees
use Rattle.formula_parse.specs.Building.{chained}
use Rattle.formula_parse.specs.Views.{operands_view}
use Rattle.formula_parse.proofs.PrefixParts.{parts_same}
use Rattle.formula_parse.proofs.state.Prefix.equated.Goals as goal

pub returns-clause-prefix : goal.returns-clause-prefix
returns-clause-prefix c =
    parts_same _ _ _ _ _ _ _ _ false
    (c.in_ok-implications.ensures
    ∙ ap (λ f. trees.operands (operands_view c.args.self.implications.items) f trees.iff) (c.in_ok-implication.ensures ∙ ap (chained (operands_view c.args.self.chains.items)) c.in_ok-chain.ensures))
    (ap operands_view c.new.ensures.items) (ap operands_view c.new-2.ensures.items) c.none.ensures
