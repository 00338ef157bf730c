-- How many looks at transitions have been paid for while classes are parted.
use Rattle.std.specs.Prelude.{◌≡◌, ℕ, ◌-◌, ◌<◌, ◌≤◌, ◌^◌, List, length}
use Rattle.std.specs.List.{Contains}
use Rattle.digit_tuple.specs.Deterministic.{states_of}
use Rattle.residual_classes.specs.declared.machine.Machine.{Machine}
use Rattle.residual_classes.specs.declared.partition.ClassSpan.{ClassSpan}
use Rattle.residual_classes.specs.declared.partition.Partition.{Partition}
use Rattle.residual_classes.specs.Classes.{class_of}
use Rattle.residual_classes.specs.Paid.{IsPaid}
use Rattle.residual_classes.specs.Partition.{span_of}
use Rattle.residual_classes.specs.ReversedTransitions.{in_degree}
use Rattle.residual_classes.specs.Weights.{class_size, class_sum, sum_below}

-- the transitions that lead to a class are parted into those that lead to a new one, and the rest
pub record IsCountCut (old new : List ClassSpan) (class transitions rest : ℕ) : Type 0 where
  pub left : rest ≡ (span_of old class).transitions - transitions
  pub kept : (span_of new class).transitions ≡ rest
  pub gone : (span_of new (length old)).transitions ≡ transitions

-- the transitions that lead to each class but the sink's are counted, and so many looks are paid for
pub record IsPaidFor (m : Machine) (transitions largest looks : ℕ) (p : Partition) : Type 0 where
  pub few : sum_below (states_of m.dfa.now) (in_degree p.reversed) ≤ transitions
  pub small : transitions < 2 ^ 32
  pub counted : (class : ℕ) → 0 < class → class < length p.spans.items → (span_of p.spans.items class).transitions ≡ class_sum (states_of m.dfa.now) (in_degree p.reversed) p.classes.items class
  pub paid : IsPaid (states_of m.dfa.now) (in_degree p.reversed) transitions largest p.classes.items p.pending looks

-- no class of states that are all in the set and in the sink's class is larger
abbrev pub AreFew : Machine → ℕ → List ℕ → List ℕ → Type 0
AreFew m largest classes set = (others : List ℕ) (class : ℕ) → ((q : ℕ) → q < states_of m.dfa.now → class_of others q ≡ class → Contains set q × (class_of classes q ≡ 0)) → class_size (states_of m.dfa.now) others class ≤ largest

-- no class is larger
abbrev pub AreAtMost : ℕ → List ℕ → ℕ → Type 0
AreAtMost states classes largest = (class : ℕ) → class_size states classes class ≤ largest
