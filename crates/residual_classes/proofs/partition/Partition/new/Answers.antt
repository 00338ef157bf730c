use Rattle.std.proofs.Common.{◌≡◌, ◌+◌, ℕ, List, length, replicate, ap, sym, ◌∙◌, subst, refl, arith}
use Rattle.std.proofs.lemmas.List.{get_or-replicate}
use Rattle.digit_tuple.specs.TransitionCounts.{transition_count}
use Rattle.residual_classes.specs.Classes.{class_of}
use Rattle.residual_classes.specs.Paid.{IsPaid}
use Rattle.residual_classes.specs.ReversedTransitions.{in_degree}
use Rattle.residual_classes.proofs.PaidLemmas.{IsPaid-none}
use Rattle.std.specs.List.{range_with_len}
use Rattle.digit_tuple.specs.Deterministic.{states_of}
use Rattle.residual_classes.proofs.PartitionLemmas.{AreParted-one}
use Rattle.residual_classes.proofs.partition.Partition.new.Goals as goal

pub returns-clause-partition : goal.returns-clause-partition
returns-clause-partition c =
    let d = c.args.machine.now.dfa.now in
    let outputs = c.args.machine.now.outputs.now in
    let count : c.states-states.result ≡ states_of d = c.states-states.ensures.value in
    let classes : c.in_ok-vec.field-0.items ≡ replicate (states_of d + 1) 0 = c.in_ok-vec.ensures.items_if_clones_equal (λ y is. is) ∙ ap (λ (n : ℕ). replicate (n + 1) 0) count in
    let states : c.in_ok-numbered_states.field-0.items ≡ range_with_len 0 (states_of d) = c.in_ok-numbered_states.ensures ∙ ap (range_with_len 0) count in
    let places : c.in_ok-numbered_states-2.field-0.items ≡ range_with_len 0 (states_of d) = c.in_ok-numbered_states-2.ensures ∙ ap (range_with_len 0) count in
    let one = AreParted-one d outputs (record { start = 0; end = c.states-states.result; transitions = 0 }) c.states-states.ensures.table refl count in
    record {
      reversed = c.in_ok-reversed.ensures.reversed;
      parted = simp (classes, states, places, c.in_ok-vec-2.ensures.items, c.in_ok-new.ensures) one;
    }

pub returns-clause-paid : goal.returns-clause-paid
returns-clause-paid c largest some =
    let d = c.args.machine.now.dfa.now in
    let reversed = c.in_ok-reversed.reversed in
    let classes : c.in_ok-vec.field-0.items ≡ replicate (states_of d + 1) 0 = c.in_ok-vec.ensures.items_if_clones_equal (λ y is. is) ∙ ap (λ (n : ℕ). replicate (n + 1) 0) c.states-states.ensures.value in
    record {
      few = c.in_ok-reversed.ensures.few;
      small = c.in_ok-reversed.ensures.small;
      counted = λ class above small. absurd (omega (arith, above, small, ap length c.in_ok-vec-2.ensures.items));
      paid = subst (λ (xs : List ℕ). IsPaid (states_of d) (in_degree reversed) (transition_count d) largest c.in_ok-vec.field-0.items xs 0) (sym c.in_ok-new.ensures)
          (IsPaid-none (states_of d) (in_degree reversed) (transition_count d) largest c.in_ok-vec.field-0.items some c.in_ok-reversed.ensures.few
          (λ q small. ap (λ (xs : List ℕ). class_of xs q) classes ∙ get_or-replicate (states_of d + 1) q 0 0 (omega (arith, small))));
    }

pub returns-clause-one : goal.returns-clause-one
returns-clause-one c = ap length c.in_ok-vec-2.ensures.items
