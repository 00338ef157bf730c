use Rattle.formula_parse.specs.StateViews.{state_view, token_view}
use Rattle.formula_parse.proofs.advance.advance_by.Goals as goal

pub returns-in-Ok : goal.returns-in-Ok
returns-in-Ok c = c.within_limit.ensures (state_view c.args.state) (token_view c.args.token) c.requires c.in-Ok.ensures

pub returns-in-Err : goal.returns-in-Err
returns-in-Err c = c.fault_of.ensures (state_view c.args.state) (token_view c.args.token) c.in-Err.ensures
