use Rattle.std.proofs.Common.{true, ap, refl, ◌∙◌}
use Rattle.formula_parse.specs.Trees as trees
use Rattle.formula_parse.specs.Views.{operands_view}
use Rattle.formula_parse.proofs.PrefixParts.{parts_same}
use Rattle.formula_parse.proofs.state.Prefix.implied.Goals as goal

pub returns-clause-prefix : goal.returns-clause-prefix
returns-clause-prefix c =
    parts_same _ _ _ _ _ _ _ _ true refl
    (c.in_ok-chains.ensures ∙ ap (λ f. trees.operands (operands_view c.args.self.chains.items) f trees.implies) c.in_ok-chain.ensures)
    (ap operands_view c.new.ensures.items) c.none.ensures
