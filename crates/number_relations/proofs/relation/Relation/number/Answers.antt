use Rattle.std.proofs.Common.{◌≡◌, ℕ, List, [], ◌∷◌, ap, ◌∙◌, subst}
use Rattle.std.proofs.lemmas.Result.{IfOk-weaker}
use Rattle.digit_tuple.specs.Deterministic.{Automaton}
use Rattle.num_system.specs.Sealed.{SystemValue, IsSealed}
use Rattle.number_relations.specs.Comparisons.{IsOverOne}
use Rattle.number_relations.proofs.ArithmeticLemmas.{Holds, language_closed, number_holds}
use Rattle.number_relations.proofs.relation.Relation.number.Goals as goal

pub over_one-requires-clause-closed : goal.over_one-requires-clause-closed
over_one-requires-clause-closed c =
    let s = c.args.system.now.value in
    let sealed : IsSealed s = subst IsSealed c.as_ref-sealed.ensures c.is_sealed.ensures in
    language_closed s sealed c.as_ref.result.now c.deref.result.now c.in_ok-track.track
    (c.as_ref.ensures ∙ c.language.ensures.value ∙ ap (λ (v : SystemValue). v.language) c.as_ref-sealed.ensures) (c.deref.ensures.value ∙ c.in_ok-under.ensures.items)

pub returns : goal.returns
returns c =
    let s = c.args.system.now.value in
    let x : List ℕ = c.args.name.now in
    let sealed : IsSealed s = subst IsSealed c.as_ref-sealed.ensures c.is_sealed.ensures in
    let same : c.as_ref.result.now ≡ s.language = c.as_ref.ensures ∙ c.language.ensures.value ∙ ap (λ (v : SystemValue). v.language) c.as_ref-sealed.ensures in
    let names : c.deref.result.now ≡ x ∷ [] = c.deref.ensures.value ∙ c.in_ok-under.ensures.items ∙ ap (λ (n : List ℕ). n ∷ []) c.in_ok-track.ensures in
    IfOk-weaker c.over_one.result _ _
    (λ r over. number_holds s sealed r x c.deref.result.now names (subst (λ (d : Automaton). IsOverOne s c.deref.result.now (Holds s c.deref.result.now d) r) same over))
    c.over_one.ensures
