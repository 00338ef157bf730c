use Rattle.std.proofs.Common.{ℕ, sym, ap, ◌∙◌, Option}
use Rattle.std.specs.Option.{option_map, option_copied, unwrap_or}
use Rattle.std.specs.Borrow.{Bor}
use Rattle.formula_resolve.proofs.MapLemmas.{bytes_looked}
use Rattle.formula_resolve.proofs.scope.Scope.binder.Goals as goal

abbrev binder_seen : Option (Bor ℕ) → ℕ
binder_seen o = unwrap_or (option_map (λ k. k) (option_copied o)) 0

pub returns-in-Some : goal.returns-in-Some
returns-in-Some c =
    sym (ap binder_seen c.in-Some.is)
    ∙ ap (λ o. unwrap_or o 0) (bytes_looked (λ k. k) c.self.inside.binders.entries c.args.self.now c.as_bytes.result.now c.args.name.now c.get.result c.self.view_is c.get.ensures.value c.as_bytes.ensures)

pub returns-in-None : goal.returns-in-None
returns-in-None c =
    sym (ap binder_seen c.in-None.is)
    ∙ ap (λ o. unwrap_or o 0) (bytes_looked (λ k. k) c.self.inside.binders.entries c.args.self.now c.as_bytes.result.now c.args.name.now c.get.result c.self.view_is c.get.ensures.value c.as_bytes.ensures)
