use Rattle.std.proofs.Common.{sym, subst, Option}
use Rattle.formula_parse.specs.Made.{trees as making}
use Rattle.formula_parse.specs.Machine as machine
use Rattle.formula_parse.specs.Views.{formula_view}
use Rattle.formula_parse.specs.StateViews.{Machine, noted_view, prefix_view, frames_view}
use Rattle.formula_parse.specs.Stops.{Gives}
use Rattle.formula_parse.proofs.OtherTokens.{leave_closed_other}
use Rattle.formula_parse.proofs.operands.leave_closed.Goals as goal

pub returns-in_default : goal.returns-in_default
returns-in_default c =
    let s : Machine = record {
      around = frames_view c.args.around.frames.items;
      body = machine.fresh making c.args.prefix.base;
      system = c.args.around.system;
      flaw = noted_view c.args.around.flaw;
      position = machine.at_operand;
    } in
    subst
    (λ (o : Option Machine). Gives c.leave_last.result o)
    (sym (leave_closed_other s (prefix_view c.args.prefix) (formula_view c.args.closed) c.args.token c.in_default.not-Connective c.in_default.not-Implies c.in_default.not-Iff))
    c.leave_last.ensures
