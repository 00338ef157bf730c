use Rattle.std.proofs.Common.{◌≡◌, ℤ, ◌∷◌, [], Option, Bor, sym, ◌∙◌, subst}
use Rattle.std.specs.Int.{cast_signed, cast_unsigned, w32}
use Rattle.std.specs.Option.{MatchOption}
use Rattle.morph_words.specs.Rules.{Rules}
use Rattle.morph_words.specs.Uniform.{HasRule, IsLeast}
use Rattle.morph_words.proofs.FirstOtherLemmas.{first_key_least}
use Rattle.morph_words.proofs.morphism.Morphism.least_letter.Goals as goal

pub returns-clause-least : goal.returns-clause-least
returns-clause-least c =
    let steps = subst (λ (o : Option (Bor ℤ)). MatchOption o ((c.keys.result ≡ []) × (c.next.new.self ≡ [])) (λ x. c.keys.result ≡ x.now ∷ c.next.new.self)) c.unwrap.ensures c.next.ensures.steps in
    subst (λ (rules : Rules). IsLeast (HasRule rules) (cast_signed w32 (cast_unsigned w32 c.unwrap.result.now))) c.self.view_is
    (first_key_least c.self.inside.rules.entries c.unwrap.result.now c.next.new.self c.self.invariant (sym c.keys.ensures.rest ∙ steps))
