use Rattle.std.proofs.Common.{◌≡◌, ℕ, ◌+◌, ◌<◌, List, [], ◌∷◌, ◌++◌, length, sym, ap, ◌∙◌, subst, arith}
use Rattle.std.proofs.lemmas.List.{length_push}
use Rattle.std.specs.List.{Contains}
use Rattle.digit_tuple.specs.Deterministic.{states_of}
use Rattle.digit_tuple.specs.TransitionCounts.{transition_count}
use Rattle.residual_classes.specs.Classes.{class_of}
use Rattle.residual_classes.specs.Paid.{IsPaid}
use Rattle.residual_classes.specs.PaidPartition.{AreAtMost, IsPaidFor}
use Rattle.residual_classes.specs.ReversedTransitions.{in_degree}
use Rattle.residual_classes.specs.Weights.{class_sum}
use Rattle.residual_classes.specs.declared.partition.Partition.{Partition}
use Rattle.residual_classes.specs.declared.machine.Machine.{Machine}
use Rattle.residual_classes.proofs.ClassSumLemmas.{class_sum-has, class_sum-within}
use Rattle.residual_classes.proofs.FewLemmas.{AreFew-part, sink_size}
use Rattle.residual_classes.proofs.PaidLemmas.{IsPaid-taken, few_looks}
use Rattle.residual_classes.specs.CoarseClasses.{HaveOneOutput}
use Rattle.residual_classes.specs.Settled.{IsSettled}
use Rattle.residual_classes.proofs.PartitionLemmas.{AreParted-rest, pending_live, pending_made}
use Rattle.residual_classes.proofs.SettledLemmas.{AreResidualClasses-settled, IsSettled-begin}
use Rattle.residual_classes.proofs.partition.parted.Goals as goal

pub part-init : goal.part-init
part-init g c =
    let p = c.part_by_class.new.self in
    let m = c.args.machine.now in
    let n = states_of m.dfa.now in
    let before = c.deref.result.now in
    let made = c.in_ok-part_by_class.ensures in
    let live = c.in_ok-parts.ensures.parts in
    record {
      partition = made.partition;
      settled = IsSettled-begin m.dfa.now m.outputs.now p.classes.items p.states.items p.places.items p.spans.items p.pending made.partition.parted before made.pending
          (subst (HaveOneOutput m.dfa.now m.outputs.now) (sym c.deref.ensures.value) c.requires.one_output) (made.parted before live);
      paid = λ largest most.
          let most_before = subst (λ (xs : List ℕ). AreAtMost n xs largest) (sym c.deref.ensures.value) most in
          let some : 0 < largest = omega (arith, class_sum-has n (λ q. 1) before 0 made.partition.parted.table.initial, most_before (class_of before 0)) in (
            0,
            omega arith,
            made.paid (transition_count m.dfa.now) largest 0 (c.in_ok-partition.ensures.paid largest some) (λ place within. AreFew-part m before c.in_ok-partition.partition.classes.items c.in_ok-parts.parts largest live most_before place within),
            omega (
              arith,
              most_before (class_of before n),
              class_sum-within n (λ q. 1) p.classes.items before 0 (class_of before n) (λ q small is. made.parted before live q n (omega (arith, small)) (omega arith) (is ∙ sym made.partition.parted.sink)),
            ),
          );
    }

pub part_by_letters-requires-clause-partition : goal.part_by_letters-requires-clause-partition
part_by_letters-requires-clause-partition g c =
    let p = c.part.partition in
    let m = c.args.machine.now in
    record {
      reversed = c.part.invariant.partition.reversed;
      parted = AreParted-rest m.dfa.now m.outputs.now p.classes.items p.states.items p.places.items p.spans.items p.pending c.pop.new.self c.in-Some.class c.part.invariant.partition.parted c.in-Some.ensures.taken;
    }

pub part_by_letters-requires-clause-live : goal.part_by_letters-requires-clause-live
part_by_letters-requires-clause-live g c =
    let p = c.part.partition in
    let m = c.args.machine.now in
    pending_live m.dfa.now m.outputs.now p.classes.items p.states.items p.places.items p.spans.items p.pending c.pop.new.self c.in-Some.class c.part.invariant.partition.parted c.in-Some.ensures.taken

pub part_by_letters-requires-clause-class : goal.part_by_letters-requires-clause-class
part_by_letters-requires-clause-class g c =
    let p = c.part.partition in
    let m = c.args.machine.now in
    pending_made m.dfa.now m.outputs.now p.classes.items p.states.items p.places.items p.spans.items p.pending c.pop.new.self c.in-Some.class c.part.invariant.partition.parted c.in-Some.ensures.taken

pub part_by_letters-requires-clause-settled : goal.part_by_letters-requires-clause-settled
part_by_letters-requires-clause-settled g c =
    let p = c.part.partition in
    let m = c.args.machine.now in
    subst (IsSettled m.dfa.now m.outputs.now p.classes.items) c.in-Some.ensures.taken c.part.invariant.settled

pub returns-clause-residuals : goal.returns-clause-residuals
returns-clause-residuals g c =
    let p = c.part.partition in
    let m = c.args.machine.now in
    AreResidualClasses-settled m.dfa.now m.outputs.now p.classes.items p.states.items p.places.items p.spans.items p.pending c.part.invariant.partition.parted c.requires.outputs
    (sym c.in_default.ensures.taken ∙ c.in_default.ensures.once) c.part.invariant.settled

-- a pending class is taken, and its looks are paid for
taken : (m : Machine) (p : Partition) (rest : List ℕ) (class largest spent : ℕ) → p.pending ≡ rest ++ class ∷ [] → (Contains rest class → ⊥) → 0 < class → IsPaidFor m (transition_count m.dfa.now) largest spent p
    → IsPaid (states_of m.dfa.now) (in_degree p.reversed) (transition_count m.dfa.now) largest p.classes.items rest (spent + class_sum (states_of m.dfa.now) (in_degree p.reversed) p.classes.items class)
taken m p rest class largest spent last once above before = IsPaid-taken (states_of m.dfa.now) (in_degree p.reversed) (transition_count m.dfa.now) largest p.classes.items p.pending rest class spent last once above before.paid

-- a class has a state
some_largest : (n : ℕ) (classes : List ℕ) (largest : ℕ) → 0 < n → AreAtMost n classes largest → 0 < largest
some_largest n classes largest some most = omega (arith, class_sum-has n (λ q. 1) classes 0 some, most (class_of classes 0))

pub returns-clause-looks : goal.returns-clause-looks
returns-clause-looks g c largest digits most below =
    let p = c.part.partition in
    let m = c.args.machine.now in
    let paid = c.part.invariant.paid largest most in
    let some = some_largest (states_of m.dfa.now) c.args.classes.items largest c.part.invariant.partition.parted.table.initial most in
    omega (arith, paid.1, few_looks (states_of m.dfa.now) (in_degree p.reversed) (transition_count m.dfa.now) largest p.classes.items p.pending paid.0 digits some below paid.2.paid)

pub returns-in_err-part_by_letters-clause-looks : goal.returns-in_err-part_by_letters-clause-looks
returns-in_err-part_by_letters-clause-looks g c largest digits most below =
    let p = c.part.partition in
    let m = c.args.machine.now in
    let class = c.in-Some.class in
    let rest = c.pop.new.self in
    let paid = c.part.invariant.paid largest most in
    let some = some_largest (states_of m.dfa.now) c.args.classes.items largest c.part.invariant.partition.parted.table.initial most in
    let above = pending_live m.dfa.now m.outputs.now p.classes.items p.states.items p.places.items p.spans.items p.pending rest class c.part.invariant.partition.parted c.in-Some.ensures.taken in
    let looks = paid.0 + class_sum (states_of m.dfa.now) (in_degree p.reversed) p.classes.items class in
    omega (arith, paid.1, c.part_by_letters.ensures.looks, few_looks (states_of m.dfa.now) (in_degree p.reversed) (transition_count m.dfa.now) largest p.classes.items rest looks digits some below (taken m p rest class largest paid.0 c.in-Some.ensures.taken c.in-Some.ensures.once above paid.2))

pub part-preserved : goal.part-preserved
part-preserved g c =
    let p = c.part.partition in
    let m = c.args.machine.now in
    let class = c.in-Some.class in
    let rest = c.pop.new.self in
    let new = c.part_by_letters.new.self in
    let above = pending_live m.dfa.now m.outputs.now p.classes.items p.states.items p.places.items p.spans.items p.pending rest class c.part.invariant.partition.parted c.in-Some.ensures.taken in
    let made = c.in_ok-part_by_letters.ensures in
    record {
      partition = made.partition;
      settled = made.settled;
      paid = λ largest most.
          let paid = c.part.invariant.paid largest most in
          let looks = paid.0 + class_sum (states_of m.dfa.now) (in_degree p.reversed) p.classes.items class in
          let old : Partition = record { reversed = p.reversed; classes = p.classes; states = p.states; places = p.places; spans = p.spans; pending = rest } in (
            looks,
            omega (arith, paid.1, made.looks),
            made.paid (transition_count m.dfa.now) largest looks (record { few = paid.2.few; small = paid.2.small; counted = paid.2.counted; paid = taken m p rest class largest paid.0 c.in-Some.ensures.taken c.in-Some.ensures.once above paid.2 }) paid.3,
            sink_size m old new largest made.grown c.part.invariant.partition.parted.sink made.partition.parted.sink paid.3,
          );
    }

pub part_by_class-requires-clause-parts : goal.part_by_class-requires-clause-parts
part_by_class-requires-clause-parts g c = c.in_ok-parts.ensures.unions

pub part-smaller : goal.part-smaller
part-smaller g c =
    let made = c.in_ok-part_by_letters.ensures in
    omega (arith, made.grown.pending, ap length c.in-Some.ensures.taken, length_push c.pop.new.self c.in-Some.class, c.part.invariant.partition.parted.few, made.partition.parted.few)
