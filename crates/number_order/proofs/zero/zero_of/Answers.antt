use Rattle.std.proofs.Common.{◌≡◌, [], ◌∷◌, sym, ap, ◌∙◌, subst}
use Rattle.std.proofs.lemmas.Result.{IfOk-weaker}
use Rattle.digit_tuple.specs.Deterministic.{Automaton}
use Rattle.minimise.specs.Residuals.{SameLanguage}
use Rattle.numeration.specs.Relations.{IsZero}
use Rattle.number_order.proofs.PairLemmas.{both_ok}
use Rattle.number_order.proofs.KeptLemmas.{relation_kept}
use Rattle.number_order.proofs.ZeroLemmas.{StaysByZero, set_by_zero, zero_holds}
use Rattle.number_order.proofs.zero.zero_of.Goals as goal

pub returns-clause-zero : goal.returns-clause-zero
returns-clause-zero c =
    let made : Automaton = c.in_ok-finish.field-0 in
    let both = set_by_zero c.in_ok-alphabet.alphabet c.in_ok-builder.builder c.add_state.new.self c.set.new.self c.in_ok-zeros.zeros c.in_ok-builder.ensures c.in_ok-zeros.ensures.state c.in_ok-zeros.ensures.number c.in_ok-set.ensures.set in
    let stays : StaysByZero made = subst StaysByZero (sym c.in_ok-finish.ensures) both.0 in
    let sizes : made.sizes ≡ c.args.language.now.sizes = ap (λ (d : Automaton). d.sizes) c.in_ok-finish.ensures ∙ both.1 ∙ c.in_ok-alphabet.ensures ∙ c.alphabet.ensures.sizes in
    IfOk-weaker c.canonical.result _ _
    (λ zero h direction s is tracks. relation_kept direction (s ∷ []) IsZero made zero (zero_holds direction s made is (sizes ∙ tracks) stays) h.0 h.1)
    (both_ok c.canonical.result (λ zero. zero.sizes ≡ made.sizes) (λ zero. SameLanguage made zero) c.canonical.ensures.sizes c.canonical.ensures.language)
