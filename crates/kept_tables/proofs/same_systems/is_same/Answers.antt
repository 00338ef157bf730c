use Rattle.std.proofs.Common.{◌≡◌, ◌∙◌, rules, subst, sym, arith}
use Rattle.digit_tuple.specs.Deterministic.{Automaton}
use Rattle.minimise.specs.Residuals.{SameLanguage}
use Rattle.kept_tables.proofs.SameSystems.{same_system}
use Rattle.kept_tables.proofs.same_systems.is_same.Goals as goal

pub returns : goal.returns
returns c =
    let first : c.as_ref.result.now ≡ c.args.system.now.language = c.as_ref.ensures ∙ c.language.ensures.value in
    let second : c.as_ref-2.result.now ≡ c.args.other.now.language = c.as_ref-2.ensures ∙ c.language-2.ensures.value in
    let direction : c.direction.result ≡ c.direction-2.result = search rules in
    λ is. same_system c.args.system.now c.args.other.now c.is_sealed.ensures c.is_sealed-2.ensures
    (omega (arith, c.digits.ensures.value, c.digits-2.ensures.value, c.if-digits.false))
    (sym c.direction.ensures.value ∙ direction ∙ c.direction-2.ensures.value)
    (subst (λ (d : Automaton). SameLanguage d c.args.other.now.language) first (subst (λ (e : Automaton). SameLanguage c.as_ref.result.now e) second (c.same.ensures.0 is)))
