use Rattle.std.proofs.Common.{◌≡◌, ℕ, List, [], ◌∷◌, ap, ◌∙◌, subst}
use Rattle.std.proofs.lemmas.Result.{IfOk-weaker}
use Rattle.digit_tuple.specs.Deterministic.{Automaton}
use Rattle.num_system.specs.Sealed.{SystemValue, IsSealed}
use Rattle.number_relations.specs.Comparisons.{IsOverOne}
use Rattle.number_relations.proofs.ArithmeticLemmas.{Holds, adder_closed, sum_holds}
use Rattle.number_relations.proofs.relation.Relation.sum.Goals as goal

pub over_one-requires-clause-closed : goal.over_one-requires-clause-closed
over_one-requires-clause-closed c =
    let s = c.args.system.now.value in
    let sealed : IsSealed s = subst IsSealed c.as_ref-sealed.ensures c.is_sealed.ensures in
    adder_closed s sealed c.adder.result.now c.deref.result.now c.in_ok-first.first c.in_ok-second.second c.in_ok-third.third
    (c.adder.ensures.value ∙ ap (λ (v : SystemValue). v.adder) c.as_ref-sealed.ensures) (c.deref.ensures.value ∙ c.in_ok-under.ensures.items)

pub returns : goal.returns
returns c =
    let s = c.args.system.now.value in
    let x : List ℕ = c.args.x.now in
    let y : List ℕ = c.args.y.now in
    let z : List ℕ = c.args.z.now in
    let sealed : IsSealed s = subst IsSealed c.as_ref-sealed.ensures c.is_sealed.ensures in
    let same : c.adder.result.now ≡ s.adder = c.adder.ensures.value ∙ ap (λ (v : SystemValue). v.adder) c.as_ref-sealed.ensures in
    let names : c.deref.result.now ≡ x ∷ y ∷ z ∷ [] =
    c.deref.ensures.value ∙ c.in_ok-under.ensures.items
    ∙ ap (λ (n : List ℕ). n ∷ c.in_ok-second.second ∷ c.in_ok-third.third ∷ []) c.in_ok-first.ensures
    ∙ ap (λ (n : List ℕ). x ∷ n ∷ c.in_ok-third.third ∷ []) c.in_ok-second.ensures
    ∙ ap (λ (n : List ℕ). x ∷ y ∷ n ∷ []) c.in_ok-third.ensures in
    IfOk-weaker c.over_one.result _ _
    (λ r over. sum_holds s sealed r x y z c.deref.result.now names (subst (λ (d : Automaton). IsOverOne s c.deref.result.now (Holds s c.deref.result.now d) r) same over))
    c.over_one.ensures
