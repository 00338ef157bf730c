use Rattle.formula_parse.proofs.AdvanceSteps.{advances_ok, advances_deep}
use Rattle.formula_parse.proofs.advance.within_limit.Goals as goal

pub returns-else-depth-gt-LIMIT : goal.returns-else-depth-gt-LIMIT
returns-else-depth-gt-LIMIT c =
    λ s t r h. advances_ok s t c.args.at c.args.state c.depth.result r c.depth.ensures c.if-depth-gt-LIMIT.false h

pub returns-then-depth-gt-LIMIT : goal.returns-then-depth-gt-LIMIT
returns-then-depth-gt-LIMIT c = λ s t r h. advances_deep s t c.args.at c.args.state c.depth.result c.depth.ensures c.if-depth-gt-LIMIT.true h
