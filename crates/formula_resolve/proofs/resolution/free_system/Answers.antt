use Rattle.std.proofs.Common.{None, Some, ap, sym, ◌∙◌}
use Rattle.std.specs.Option.{option_copied}
use Rattle.formula_parse.specs.Views.{formula_view}
use Rattle.formula_resolve.proofs.FreeSystemLemmas.{system_in, system_is}
use Rattle.formula_resolve.proofs.resolution.free_system.Goals as goal

pub returns-in-Some : goal.returns-in-Some
returns-in-Some c =
    system_is c.args.headers.now (formula_view c.args.formula.now) c.in_ok-walk.walk.occurrences.items c.args.variable.now (Some c.in_ok-copy-in-Some.field-0) c.in_ok-walk.ensures.occurrences
    (ap Some c.in_ok-copy-in-Some.ensures ∙ sym (ap option_copied c.in-Some.is) ∙ c.first_free.ensures ∙ ap (λ os. system_in os c.args.variable.now) c.deref.ensures.value)

pub returns : goal.returns
returns c =
    system_is c.args.headers.now (formula_view c.args.formula.now) c.in_ok-walk.walk.occurrences.items c.args.variable.now None c.in_ok-walk.ensures.occurrences
    (sym (ap option_copied c.in-None.is) ∙ c.first_free.ensures ∙ ap (λ os. system_in os c.args.variable.now) c.deref.ensures.value)
