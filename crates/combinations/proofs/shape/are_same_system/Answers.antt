use Rattle.std.proofs.Common.{◌≡◌, ◌∙◌, rules, subst, sym, arith}
use Rattle.digit_tuple.specs.Deterministic.{Automaton}
use Rattle.minimise.specs.Residuals.{SameLanguage}
use Rattle.combinations.proofs.shape.are_same_system.Goals as goal

pub returns : goal.returns
returns c =
    let first : c.as_ref.result.now ≡ c.args.system.now.language = c.as_ref.ensures ∙ c.language.ensures.value in
    let second : c.as_ref-2.result.now ≡ c.args.other.now.language = c.as_ref-2.ensures ∙ c.language-2.ensures.value in
    let direction : c.direction.result ≡ c.direction-2.result = search rules in (
      λ is. record {
        digits = omega (arith, c.digits.ensures.value, c.digits-2.ensures.value, c.if-digits.false);
        direction = sym c.direction.ensures.value ∙ direction ∙ c.direction-2.ensures.value;
        language =
            subst (λ (d : Automaton). SameLanguage d c.args.other.now.language) first
            (subst (λ (e : Automaton). SameLanguage c.as_ref.result.now e) second (c.same.ensures.0 is));
      },
      λ same. c.same.ensures.1
          (subst (λ (d : Automaton). SameLanguage d c.as_ref-2.result.now) (sym first)
          (subst (λ (e : Automaton). SameLanguage c.args.system.now.language e) (sym second) same.language)),
    )
