use Rattle.std.proofs.Common.{◌≡◌, List, length, get_or, arith, ap, subst, sym, ◌∙◌, refl}
use Rattle.std.proofs.lemmas.Bool.{false≢true, eqb-false}
use Rattle.std.proofs.lemmas.List.Elements.{AllWithin-more, at_read}
use Rattle.digit_tuple.specs.Automaton.{IsRow}
use Rattle.digit_tuple.specs.declared.transitions.Transition.{Transition}
use Rattle.digit_tuple.specs.declared.transitions.NfaState.{NfaState}
use Rattle.digit_tuple.proofs.TableLemmas.{table_from_rows, row_from_table}
use Rattle.digit_tuple.proofs.nfa.is_table.Goals as goal

pub returns-then-not-is_row : goal.returns-then-not-is_row
returns-then-not-is_row c = (
  λ h. absurd (false≢true h),
  λ table.
      let row = row_from_table c.args.letters c.args.states.now c.loop-state.state-index c.state-item.result table c.loop-state-test.true in
      let same : c.deref.result.now ≡ (get_or c.args.states.now c.loop-state.state-index c.state-item.result).transitions.items =
      c.deref.ensures.value ∙ ap (λ (s : NfaState). s.transitions.items) c.state-item.is in
      c.if-not-is_row.ensures.1 (subst (λ (es : List Transition). IsRow c.args.letters (length c.args.states.now) es) (sym same) row),
)

pub loop-state-preserved : goal.loop-state-preserved
loop-state-preserved c =
    let row = c.if-not-is_row.ensures.0 refl in
    let here : IsRow c.args.letters (length c.args.states.now) c.state-item.result.transitions.items =
    subst (λ (es : List Transition). IsRow c.args.letters (length c.args.states.now) es) c.deref.ensures.value row in
    let holds = λ (s : NfaState). IsRow c.args.letters (length c.args.states.now) s.transitions.items in
    AllWithin-more holds c.args.states.now 0 c.loop-state.state-index c.loop-state.invariant
    (at_read c.args.states.now holds c.loop-state.state-index c.state-item.result c.loop-state-test.true c.state-item.is here)

pub returns : goal.returns
returns c =
    let nonempty : length c.args.states.now ≡ 0 → ⊥ = eqb-false (length c.args.states.now) 0 (sym c.if-is_empty.ensures) in
    (λ h. table_from_rows c.args.letters c.args.states.now (omega (arith, nonempty)) (omega arith) (λ k d below. c.loop-state.invariant k d (omega arith) (omega arith)), λ h. refl)
