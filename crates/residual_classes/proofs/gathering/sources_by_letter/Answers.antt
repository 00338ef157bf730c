use Rattle.std.proofs.Common.{◌≡◌, ◌++◌, [], List, OnOk, take, get_or, sym, ap, ◌∙◌, subst, arith}
use Rattle.std.specs.List.{All, flat_map, sum_by}
use Rattle.std.proofs.lemmas.List.{flat_map_more, take_all, take_more}
use Rattle.std.proofs.lemmas.List.Sums.{sum_by_more, sum_by_more_le}
use Rattle.digit_tuple.specs.declared.transitions.Transition.{Transition}
use Rattle.residual_classes.specs.Gathering.{HaveLetters, IsGathered}
use Rattle.residual_classes.specs.ReversedTransitions.{in_degree, transitions_into}
use Rattle.residual_classes.proofs.gathering.sources_by_letter.Goals as goal

pub returns-clause-gathered : goal.returns-clause-gathered
returns-clause-gathered g c =
    let all : c.loop-state.transitions.items ≡ flat_map (transitions_into c.args.reversed.now) c.args.set.now = c.loop-state.invariant.transitions ∙ ap (flat_map (transitions_into c.args.reversed.now)) (take_all c.loop-state.state-index c.args.set.now (omega arith)) in
    subst (λ (es : List Transition). OnOk c.gather.result (All (λ part. IsGathered es part.letter part.key) c.gather.new.out)) all c.gather.ensures.gathered

pub returns-clause-letters : goal.returns-clause-letters
returns-clause-letters g c =
    let all : c.loop-state.transitions.items ≡ flat_map (transitions_into c.args.reversed.now) c.args.set.now = c.loop-state.invariant.transitions ∙ ap (flat_map (transitions_into c.args.reversed.now)) (take_all c.loop-state.state-index c.args.set.now (omega arith)) in
    subst (λ (es : List Transition). OnOk c.gather.result (HaveLetters c.gather.new.out es)) all c.gather.ensures.letters

pub returns-in_err-add_transitions_to-clause-looks : goal.returns-in_err-add_transitions_to-clause-looks
returns-in_err-add_transitions_to-clause-looks g c = omega (arith, c.add_transitions_to.ensures.looks, c.loop-state.invariant.looks, sum_by_more_le (in_degree c.args.reversed.now) c.args.set.now c.loop-state.state-index 0 (omega (arith, c.loop-state-test.true)))

pub loop-state-preserved : goal.loop-state-preserved
loop-state-preserved g c =
    let reversed = c.args.reversed.now in
    let set = c.args.set.now in
    let k = c.loop-state.state-index in
    let state = get_or set k 0 in
    record {
      transitions = c.in_ok-add_transitions_to.ensures.transitions ∙ ap (λ (es : List Transition). es ++ transitions_into reversed state) c.loop-state.invariant.transitions
          ∙ flat_map_more (transitions_into reversed) [] (take k set) state ∙ ap (flat_map (transitions_into reversed)) (sym (take_more set k 0 (omega (arith, c.loop-state-test.true))));
      looks = omega (arith, c.in_ok-add_transitions_to.ensures.all, c.loop-state.invariant.looks, sum_by_more (in_degree reversed) set k 0 (omega (arith, c.loop-state-test.true)));
    }

pub returns-clause-looks : goal.returns-clause-looks
returns-clause-looks g c =
    omega (arith, c.loop-state.invariant.looks, ap (sum_by (in_degree c.args.reversed.now)) (take_all c.loop-state.state-index c.args.set.now (omega (arith, c.loop-state-test.false))))
