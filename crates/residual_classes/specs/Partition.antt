-- Classes of states that are being parted.
use Rattle.std.specs.Prelude.{◌≡◌, ℕ, ◌+◌, ◌<◌, ◌≤◌, List, length, slice_index, slice_index_or}
use Rattle.std.specs.List.{All, Contains}
use Rattle.digit_tuple.specs.Deterministic.{Automaton, IsTable, letters_of, states_of}
use Rattle.residual_classes.specs.Outputs.{SameOutputs}
use Rattle.residual_classes.specs.Classes.{class_of}
use Rattle.residual_classes.specs.CoarseClasses.{IsCoarse}
use Rattle.residual_classes.specs.Settled.{AreAllPending, AreSettled}
use Rattle.residual_classes.specs.StateOrder.{AreInverse}
use Rattle.residual_classes.specs.ReversedTransitions.{AreReversed}
use Rattle.residual_classes.specs.declared.machine.Machine.{Machine}
use Rattle.residual_classes.specs.declared.partition.ClassSpan.{ClassSpan}
use Rattle.residual_classes.specs.declared.partition.Partition.{Partition}

-- with a state, the set has all states from which words lead to the same outputs; the sink is none of them
pub record IsUnion (d : Automaton) (outputs set : List ℕ) : Type 0 where
  pub within : All (λ q. q < states_of d) set
  pub whole : (p q : ℕ) → p ≤ states_of d → q ≤ states_of d → SameOutputs d outputs p q → Contains set p → Contains set q

-- the states of the list have got the class, and all others have their old ones
pub record IsGiven (old new states : List ℕ) (class : ℕ) : Type 0 where
  pub width : length new ≡ length old
  pub there : (q : ℕ) → Contains states q → class_of new q ≡ class
  pub elsewhere : (q : ℕ) → ¬ Contains states q → class_of new q ≡ class_of old q

-- where no class is, no states are
abbrev pub no_span : ClassSpan
no_span = record { start = 0; end = 0; transitions = 0 }

-- where the states of a class are
abbrev pub span_of : List ClassSpan → ℕ → ClassSpan
span_of spans class = slice_index_or spans class no_span

-- the span of a class ends at a place, where that of one more class begins, up to the end that the former had; others stay
pub record IsCut (old new : List ClassSpan) (class middle : ℕ) : Type 0 where
  pub width : length new ≡ length old + 1
  pub start : (span_of new class).start ≡ (span_of old class).start
  pub end : (span_of new class).end ≡ middle
  pub next_start : (span_of new (length old)).start ≡ middle
  pub next_end : (span_of new (length old)).end ≡ (span_of old class).end
  pub others : (other : ℕ) → other < length old → ¬ (other ≡ class) → span_of new other ≡ span_of old other

-- the states in the span of a class are those of the class
pub record AreSpans (classes states : List ℕ) (spans : List ClassSpan) : Type 0 where
  pub ordered : (class : ℕ) → class < length spans → (span_of spans class).start ≤ (span_of spans class).end
  pub within : (class : ℕ) → class < length spans → (span_of spans class).end ≤ length states
  pub inside : (class place : ℕ) → class < length spans → (span_of spans class).start ≤ place → place < (span_of spans class).end → class_of classes (slice_index states place) ≡ class
  pub from_start : (place : ℕ) → place < length states → (span_of spans (class_of classes (slice_index states place))).start ≤ place
  pub to_end : (place : ℕ) → place < length states → place < (span_of spans (class_of classes (slice_index states place))).end

-- the states of each class are in its span, each class but the sink's has one, the sink's class is 0 and not pending, and states from which words lead to
-- the same outputs are never parted
pub record AreParted (d : Automaton) (outputs classes states places : List ℕ) (spans : List ClassSpan) (pending : List ℕ) : Type 0 where
  pub table : IsTable (letters_of d) d.states
  pub width : length classes ≡ states_of d + 1
  pub count : length states ≡ states_of d
  pub few : length spans ≤ states_of d + 1
  pub below : (q : ℕ) → q ≤ states_of d → class_of classes q < length spans
  pub sink : class_of classes (states_of d) ≡ 0
  pub coarse : IsCoarse d outputs classes
  pub order : AreInverse states places
  pub spanned : AreSpans classes states spans
  pub filled : (class : ℕ) → 0 < class → class < length spans → (span_of spans class).start < (span_of spans class).end
  pub live : All (λ class. 0 < class) pending
  pub made : All (λ class. class < length spans) pending

-- the classes are parted, and the transitions are the automaton's
pub record IsPartition (m : Machine) (p : Partition) : Type 0 where
  pub reversed : AreReversed m.dfa.now p.reversed
  pub parted : AreParted m.dfa.now m.outputs.now p.classes.items p.states.items p.places.items p.spans.items p.pending

-- there are as many classes as before, or more, and each that is new has made one pending at most; no states have come into
-- one class, and those that were settled still are
pub record HasGrown (old new : Partition) : Type 0 where
  pub classes : length old.spans.items ≤ length new.spans.items
  pub pending : length new.pending + length old.spans.items ≤ length old.pending + length new.spans.items
  pub parted : (p q : ℕ) → class_of new.classes.items p ≡ class_of new.classes.items q → class_of old.classes.items p ≡ class_of old.classes.items q
  pub settled : (p q : ℕ) → AreSettled old.classes.items old.pending p q → AreSettled new.classes.items new.pending p q

-- the states of a class are apart from those of the set, all others have their old classes, and parts of the sink's class are pending
pub record IsSplit (old new : Partition) (class : ℕ) (set : List ℕ) : Type 0 where
  pub apart : (p q : ℕ) → class_of old.classes.items p ≡ class → class_of new.classes.items p ≡ class_of new.classes.items q → Contains set p → Contains set q
  pub others : (q : ℕ) → ¬ (class_of old.classes.items q ≡ class) → class_of new.classes.items q ≡ class_of old.classes.items q
  pub outside : (q : ℕ) → ¬ Contains set q → class_of new.classes.items q ≡ class_of old.classes.items q
  pub waiting : class ≡ 0 → AreAllPending (length old.spans.items) old.pending → AreAllPending (length new.spans.items) new.pending
