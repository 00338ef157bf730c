use Rattle.std.proofs.Common.{◌≡◌, ◌<◌, ◌+◌, ◌++◌, List, Bool, map, sym, ap, ◌∙◌, subst, arith}
use Rattle.std.specs.List.{All}
use Rattle.digit_tuple.specs.Automaton.{Branch}
use Rattle.digit_tuple.specs.Deterministic.{accepting_of, letters_of, state_of, states_of, transitions_of}
use Rattle.digit_tuple.specs.Rows.{branches_in}
use Rattle.digit_tuple.specs.declared.transitions.Transition.{Transition}
use Rattle.digit_tuple.specs.declared.transitions.NfaState.{NfaState}
use Rattle.lang_ops.specs.ShiftedRows.{shifted_state, shifted_transition}
use Rattle.lang_ops.proofs.ShiftedRowLemmas.{shifted_all, shifted_more, shifted_to}
use Rattle.lang_ops.proofs.shifted_rows.add_shifted.Goals as goal

pub shifted-requires : goal.shifted-requires
shifted-requires c k z inside =
    let d = c.args.d.now in
    let range : All (λ (t : Transition). (t.letter < letters_of d) × (t.target < states_of d)) c.deref.result.now =
    subst (All (λ (t : Transition). (t.letter < letters_of d) × (t.target < states_of d))) (sym c.deref.ensures.value) c.in_ok-transitions_into.ensures.row.in_range in
    omega (arith, (range k z inside).1, c.requires)

pub loop-state-preserved : goal.loop-state-preserved
loop-state-preserved c =
    let d = c.args.d.now in
    let before = c.args.before in
    let state = c.loop-state.state in
    let row : NfaState = record { accepting = c.accepting.result; transitions = c.in_ok-shifted.field-0 } in
    let moved : c.in_ok-shifted.field-0.items ≡ map (shifted_transition before) (transitions_of d state) = c.in_ok-shifted.ensures ∙ ap (map (shifted_transition before)) (c.deref.ensures.value ∙ c.in_ok-transitions_into.ensures.transitions) in
    let same : (let b : Branch = record { accepting = c.accepting.result; transitions = c.in_ok-shifted.field-0.items } in b) ≡ shifted_state before (state_of d state) =
    ap (λ (x : Bool). let b : Branch = record { accepting = x; transitions = c.in_ok-shifted.field-0.items } in b) c.accepting.ensures.accepting
    ∙ ap (λ (es : List Transition). let b : Branch = record { accepting = accepting_of d state; transitions = es } in b) moved in
    ap branches_in c.in_ok-push.ensures.items
    ∙ shifted_more d before (branches_in c.args.rows.now.items) c.loop-state.rows.items state row same c.loop-state.invariant

pub returns-clause-rows : goal.returns-clause-rows
returns-clause-rows c =
    let d = c.args.d.now in
    let before = c.args.before in
    let all : c.loop-state.state ≡ states_of d = omega (arith, c.loop-state-test.false, c.states-states.ensures.value) in
    subst (λ (bs : List Branch). branches_in c.loop-state.rows.items ≡ branches_in c.args.rows.now.items ++ bs) (ap (shifted_to d before) all ∙ shifted_all d before) c.loop-state.invariant
