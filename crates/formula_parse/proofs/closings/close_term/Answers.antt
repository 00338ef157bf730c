use Rattle.std.proofs.Common.{sym, ap, ◌∙◌, subst, ◌∷◌, Option, Some}
use Rattle.formula_parse.specs.Made.{trees as making}
use Rattle.formula_parse.specs.Machine as machine
use Rattle.formula_parse.specs.Views.{term_view}
use Rattle.formula_parse.specs.StateViews.{Machine, body_view, noted_view, frames_view, context_view}
use Rattle.formula_parse.specs.Stops.{Gives}
use Rattle.formula_parse.specs.declared.state.Frame.TheVariants.{Paren}
use Rattle.formula_parse.specs.declared.state.Around.{Around}
use Rattle.formula_parse.specs.declared.state.Context.{Context}
use Rattle.formula_parse.proofs.OpenFrames.{frames_taken, close_term_flaw}
use Rattle.formula_parse.proofs.closings.close_term.Goals as goal

pub returns-in-Some-Paren : goal.returns-in-Some-Paren
returns-in-Some-Paren c =
    let s = context_view c.args.context in
    let around : Around = c.in_system-around.result in
    let body = c.in-Some-Paren.body in
    let system = c.in-Some-Paren.system in
    let left : Context = record { around = around; body = body } in
    let t = term_view c.args.read.term in
    let q = c.args.read.numeral in
    let b = c.args.context.body.touched in
    subst (λ (o : Option Machine). Gives c.close_term_paren.result o)
    (close_term_flaw (context_view left) s (machine.paren (body_view body) around.system ∷ frames_view around.frames.items) b t q (ap noted_view c.in_system-around.ensures.flaw)
    ∙ ap (λ y. machine.close_term making s (machine.paren (body_view body) y ∷ frames_view around.frames.items) b t q) c.in_system-around.ensures.system
    ∙ ap (λ fs. machine.close_term making s (machine.paren (body_view body) system ∷ frames_view fs.items) b t q) c.in_system-around.ensures.frames
    ∙ ap (λ hs. machine.close_term making s hs b t q) (sym (frames_taken c.args.context.around.frames.items c.pop.new.self.items c.pop.result (Paren body system) c.pop.ensures.items (c.in-Some-Paren.is ∙ ap Some c.in-Some-Paren.field-0-is))))
    c.close_term_paren.ensures
