use Rattle.std.proofs.Common.{sym, ap, ◌∙◌, subst, Option, Some}
use Rattle.formula_parse.specs.Made.{trees as making}
use Rattle.formula_parse.specs.Machine as machine
use Rattle.formula_parse.specs.StateViews.{Machine, context_view}
use Rattle.formula_parse.specs.Stops.{Gives}
use Rattle.formula_parse.specs.declared.state.Frame.TheVariants.{Quantified}
use Rattle.formula_parse.proofs.OpenFrames.{frames_taken}
use Rattle.formula_parse.proofs.beginnings.next_variable.Goals as goal

pub returns-in-Some-Quantified : goal.returns-in-Some-Quantified
returns-in-Some-Quantified c =
    subst (λ (o : Option Machine). Gives c.reopened.result o)
    (ap (λ hs. machine.next_variable making (context_view c.args.context) hs c.args.context.body.touched)
    (sym (frames_taken c.args.context.around.frames.items c.pop.new.self.items c.pop.result (Quantified c.in-Some-Quantified.scope c.in-Some-Quantified.body) c.pop.ensures.items (c.in-Some-Quantified.is ∙ ap Some c.in-Some-Quantified.field-0-is))))
    c.reopened.ensures
