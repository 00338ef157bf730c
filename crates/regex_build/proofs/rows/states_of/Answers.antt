-- One state more.
use Rattle.std.proofs.Common.{◌≡◌, ◌+◌, ◌≤◌, ◌↔◌, ℕ, false, List, length, ap, sym, subst, ◌∙◌, arith}
use Rattle.std.specs.Prelude.{Contains}
use Rattle.std.proofs.lemmas.List.{length_push, get_or_default}
use Rattle.digit_tuple.specs.declared.transitions.Transition.{Transition}
use Rattle.digit_tuple.specs.declared.transitions.NfaState.{NfaState}
use Rattle.regex_build.specs.Rows.{IsTransitionTo, IsStateAt}
use Rattle.regex_build.proofs.LinkSteps.{row_is}
use Rattle.regex_build.proofs.RowSteps.{states_more}
use Rattle.regex_build.proofs.rows.states_of.Goals as goal

pub transitions_to-requires : goal.transitions_to-requires
transitions_to-requires c place h =
    let row = row_is c.args.places.now.next.items c.deref-next-items.result.now c.loop-state.state c.next-item.result c.deref-next-items.ensures.value c.loop-state-test.true c.next-item.is in
    let P : List ℕ → Type 0 = λ xs. Contains xs place in
    c.requires.places c.loop-state.state place (subst P (sym row) (subst P c.deref.ensures.value h))

pub loop-state-preserved : goal.loop-state-preserved
loop-state-preserved c =
    let row = row_is c.args.places.now.next.items c.deref-next-items.result.now c.loop-state.state c.next-item.result c.deref-next-items.ensures.value c.loop-state-test.true c.next-item.is in
    let size : length c.deref-next-items.result.now ≡ length c.args.places.now.next.items = ap length c.deref-next-items.ensures.value in
    let ends : length c.args.places.now.ends.items ≡ length c.args.places.now.next.items = c.requires.count in
    let state : NfaState = record { accepting = c.index.result.now; transitions = c.in_ok-transitions_to.field-0 } in
    let P : List ℕ → Type 0 = λ xs. (x : Transition) → Contains c.in_ok-transitions_to.field-0.items x ↔ IsTransitionTo c.args.ranges.now xs x in
    let is : IsStateAt c.args.places.now c.args.ranges.now c.loop-state.state state = record {
      accepting = c.index.ensures ∙ get_or_default c.args.places.now.ends.items c.loop-state.state c.index.result.now false (omega arith);
      ascending = c.in_ok-transitions_to.ensures.ascending;
      transitions = subst P (sym row) (subst P c.deref.ensures.value c.in_ok-transitions_to.ensures.transitions);
    } in
    record {
      count = ap length c.in_ok-push.ensures.items ∙ (length_push c.loop-state.states.items state ∙ ap (λ n. n + 1) c.loop-state.invariant.count);
      states = states_more c.args.places.now c.args.ranges.now c.loop-state.states.items c.push.new.self.items state c.loop-state.state c.loop-state.invariant.count c.loop-state.invariant.states is c.in_ok-push.ensures.items;
    }

pub returns : goal.returns
returns c =
    let size : length c.deref-next-items.result.now ≡ length c.args.places.now.next.items = ap length c.deref-next-items.ensures.value in
    let low : c.loop-state.state ≤ length c.deref-next-items.result.now = c.loop-state.auto.state-end in
    let high : length c.deref-next-items.result.now ≤ c.loop-state.state = c.loop-state-test.false in
    let count : length c.loop-state.states.items ≡ c.loop-state.state = c.loop-state.invariant.count in
    record { count = omega arith; states = c.loop-state.invariant.states }
