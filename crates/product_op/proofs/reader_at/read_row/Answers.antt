use Rattle.std.proofs.Common.{List, sym, ◌∙◌, subst, arith}
use Rattle.digit_tuple.specs.declared.transitions.Transition.{Transition}
use Rattle.digit_tuple.specs.Deterministic.{IsRow, letters_of, states_of}
use Rattle.residual_classes.proofs.SinkLemmas.{no_transitions_past}
use Rattle.product_op.proofs.reader_at.read_row.Goals as goal

pub returns-clause-row : goal.returns-clause-row
returns-clause-row c = c.clear.ensures.items ∙ sym (no_transitions_past c.args.reader.now.dfa.now c.args.state (omega (arith, c.if-state-states.false, c.states.ensures.value)))

pub returns-clause-transitions : goal.returns-clause-transitions
returns-clause-transitions c =
    let d = c.args.reader.now.dfa.now in
    subst (λ (es : List Transition). IsRow (letters_of d) (states_of d) es) (sym c.clear.ensures.items) (record { in_range = λ k z within. absurd (omega arith); ascending = λ i j z before within. absurd (omega arith) })
