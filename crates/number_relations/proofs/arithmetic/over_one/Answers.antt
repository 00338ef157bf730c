use Rattle.std.proofs.Common.{◌≡◌, List, map, sym, ap, ◌∙◌, subst}
use Rattle.std.specs.Rc.{rc_value}
use Rattle.std.proofs.lemmas.List.{take_all}
use Rattle.std.proofs.lemmas.Result.{IfOk-weaker}
use Rattle.num_system.specs.Sealed.{SystemValue}
use Rattle.num_system.specs.Tracks.{ShareDirection}
use Rattle.number_relations.specs.Relations.{IsClosedOver}
use Rattle.number_relations.specs.Placed.{IsPlaced}
use Rattle.number_relations.proofs.PairLemmas.{over_one_placed, repeated, repeated_shared_direction}
use Rattle.number_relations.proofs.arithmetic.over_one.Goals as goal

pub placed-requires-clause-direction : goal.placed-requires-clause-direction
placed-requires-clause-direction c =
    let s = c.args.system.now.value in
    let under = c.args.under.now in
    let systems : map rc_value c.deref.result.now ≡ repeated s under = ap (map rc_value) c.deref.ensures.value ∙ c.loop-name.invariant ∙ ap (repeated s) (take_all c.loop-name._name-index under c.loop-name-test.false) in
    subst ShareDirection (sym systems) (repeated_shared_direction s under)

pub placed-requires-clause-closed : goal.placed-requires-clause-closed
placed-requires-clause-closed c =
    let s = c.args.system.now.value in
    let under = c.args.under.now in
    let systems : map rc_value c.deref.result.now ≡ repeated s under = ap (map rc_value) c.deref.ensures.value ∙ c.loop-name.invariant ∙ ap (repeated s) (take_all c.loop-name._name-index under c.loop-name-test.false) in
    subst (λ (ss : List SystemValue). IsClosedOver ss c.args.dfa.now) (sym systems) c.requires.closed

pub returns : goal.returns
returns c =
    let s = c.args.system.now.value in
    let under = c.args.under.now in
    let systems : map rc_value c.deref.result.now ≡ repeated s under = ap (map rc_value) c.deref.ensures.value ∙ c.loop-name.invariant ∙ ap (repeated s) (take_all c.loop-name._name-index under c.loop-name-test.false) in
    IfOk-weaker c.placed.result _ _ (λ r is. over_one_placed s under c.args.dfa.now r (subst (λ (ss : List SystemValue). IsPlaced c.args.dfa.now ss under r) systems is)) c.placed.ensures
