use Rattle.std.proofs.Common.{List, [], ◌∷◌, sym, subst}
use Rattle.std.proofs.lemmas.Result.{IfOk-weaker}
use Rattle.num_system.specs.Sealed.{SystemValue, system_of, IsSealed}
use Rattle.number_relations.specs.Relations.{HoldsOver, IsClosedOver}
use Rattle.number_relations.proofs.ArithmeticLemmas.{outside_placed}
use Rattle.num_system.proofs.HoldLemmas.{closed_from}
use Rattle.number_relations.proofs.PairLemmas.{repeated_two}
use Rattle.number_relations.proofs.arithmetic.outside.Goals as goal

pub over_one-requires-clause-closed : goal.over_one-requires-clause-closed
over_one-requires-clause-closed c =
    let s = c.args.system.now.value in
    let others = c.in_ok-others.others in
    subst (λ (ss : List SystemValue). IsClosedOver ss others) (sym (repeated_two s c.args.under.now c.requires.pair))
    (closed_from s.direction (system_of s ∷ system_of s ∷ []) (λ ns. ¬ HoldsOver (s ∷ s ∷ []) c.args.dfa.now ns) others c.in_ok-others.ensures.holds)

pub returns : goal.returns
returns c =
    let s = c.args.system.now.value in
    let sealed : IsSealed s = subst IsSealed c.as_ref.ensures c.is_sealed.ensures in
    IfOk-weaker c.over_one.result _ _ (λ r over. outside_placed s sealed c.args.dfa.now c.in_ok-others.others c.args.under.now r c.requires.pair c.in_ok-others.ensures.holds over) c.over_one.ensures
