use Rattle.std.proofs.Common.{◌≡◌, map, refl, sym, ap, ◌∙◌, subst, arith}
use Rattle.std.specs.Rc.{rc_value}
use Rattle.digit_tuple.specs.Deterministic.{states_of}
use Rattle.word_output.specs.Words.{WordValue}
use Rattle.fixed_points.specs.Promotion.{IsFixedWord}
use Rattle.fixed_points.proofs.WordLemmas.{fixed_word, one_alphabet}
use Rattle.fixed_points.proofs.promotion.promote.Goals as goal

pub from_parts-requires : goal.from_parts-requires
from_parts-requires c =
    (fixed_word c.rank_is_positional.ensures c.args.morphism.now c.in_ok-base.base (map rc_value c.in_ok-systems.systems.items) c.in-Ok.field-0.result c.in_ok-base.ensures.base
    c.in_ok-systems.ensures.systems c.in_ok-systems.ensures.direction c.in_ok-systems.ensures.sealed c.in-Ok.ensures.function c.in-Ok.ensures.sizes c.in-Ok.ensures.letters).word_is

pub returns-in-Ok : goal.returns-in-Ok
returns-in-Ok c =
    let rules = c.args.morphism.now in
    let k = c.in_ok-base.base in
    let f = c.in-Ok.field-0.result in
    let word : WordValue = record { systems = map rc_value c.in_ok-systems.systems.items; function = f } in
    let fixed : IsFixedWord rules k word =
    fixed_word c.rank_is_positional.ensures rules k word.systems f c.in_ok-base.ensures.base
    c.in_ok-systems.ensures.systems c.in_ok-systems.ensures.direction c.in_ok-systems.ensures.sealed c.in-Ok.ensures.function c.in-Ok.ensures.sizes c.in-Ok.ensures.letters in
    let made : word ≡ c.from_parts.result = sym c.from_parts.ensures in
    let size : c.states.result ≡ states_of f.automaton = c.states.ensures.value ∙ ap states_of c.dfa.ensures.value in (
      k,
      c.in_ok-base.ensures.base,
      record {
        line = _;
        step = record {
          made_is = subst (IsFixedWord rules k) made fixed;
          line_is = record {
            alphabet = one_alphabet k c.in_ok-base.ensures.base.base.1;
            kind_is = refl;
            width = c.in-Ok.ensures.width;
            size_is = size ∙ ap (λ (w : WordValue). states_of w.function.automaton) made;
            small = omega (arith, size, c.in-Ok.ensures.size);
            within = omega (arith, c.in-Ok.ensures.within, c.begin.ensures);
          };
        };
        new_is = c.in_ok-done-in-Ok.ensures.ok;
      },
    )
