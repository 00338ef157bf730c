use Rattle.std.proofs.Common.{sym, ap, ◌∙◌, subst, ◌∷◌, Option, Some, arith}
use Rattle.formula_parse.specs.Made.{trees as making}
use Rattle.formula_parse.specs.Machine as machine
use Rattle.formula_parse.specs.Views.{formula_view}
use Rattle.formula_parse.specs.StateViews.{Machine, token_view, body_view, noted_view, frames_view}
use Rattle.formula_parse.specs.Stops.{Gives}
use Rattle.formula_parse.specs.declared.state.Frame.TheVariants.{Paren}
use Rattle.formula_parse.specs.declared.state.Around.{Around}
use Rattle.formula_parse.proofs.OpenFrames.{frames_taken, frames_none, close_scope}
use Rattle.formula_parse.proofs.closings.+close.Goals as goal

pub returns-in-None : goal.returns-in-None
returns-in-None t c =
    subst (λ (o : Option Machine). Gives c.close_text.result o)
    (ap (λ hs. machine.close making (noted_view c.args.around.flaw) hs (formula_view c.args.formula) (token_view c.args.token)) (sym (frames_none c.args.around.frames.items (omega (arith, c.in-None.ensures.cases.0, c.args.around.frames.ok)))))
    c.close_text.ensures

pub returns-in-Some-Paren : goal.returns-in-Some-Paren
returns-in-Some-Paren t c =
    let around : Around = c.in_system-around.result in
    let body = c.in-Some-Paren.body in
    let system = c.in-Some-Paren.system in
    let f = formula_view c.args.formula in
    let u = token_view c.args.token in
    subst (λ (o : Option Machine). Gives c.close_paren.result o)
    (ap (λ w. machine.close making (noted_view w) (machine.paren (body_view body) around.system ∷ frames_view around.frames.items) f u) c.in_system-around.ensures.flaw
    ∙ ap (λ y. machine.close making (noted_view c.args.around.flaw) (machine.paren (body_view body) y ∷ frames_view around.frames.items) f u) c.in_system-around.ensures.system
    ∙ ap (λ fs. machine.close making (noted_view c.args.around.flaw) (machine.paren (body_view body) system ∷ frames_view fs.items) f u) c.in_system-around.ensures.frames
    ∙ ap (λ hs. machine.close making (noted_view c.args.around.flaw) hs f u) (sym (frames_taken c.args.around.frames.items c.pop.new.self.items c.pop.result (Paren body system) c.pop.ensures.items (c.in-Some-Paren.is ∙ ap Some c.in-Some-Paren.field-0-is))))
    c.close_paren.ensures

pub returns-in_ok-whole-in-Some-Quantified : goal.returns-in_ok-whole-in-Some-Quantified
returns-in_ok-whole-in-Some-Quantified t c =
    let scope = c.in-Some-Quantified.scope in
    let body = c.in-Some-Quantified.body in
    subst (λ (o : Option Machine). Gives c.close.result o)
    (close_scope c.args.around.frames.items c.pop.new.self.items c.pop.result scope body (noted_view c.args.around.flaw) (formula_view c.args.formula) (formula_view c.in_ok-whole-in-Some-Quantified.whole) (token_view c.args.token)
    c.pop.ensures.items (c.in-Some-Quantified.is ∙ ap Some c.in-Some-Quantified.field-0-is) c.in_ok-whole-in-Some-Quantified.ensures)
    c.close.ensures
