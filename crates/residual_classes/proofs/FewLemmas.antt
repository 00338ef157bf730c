-- States that leave the sink's class.
use Rattle.std.proofs.Common.{◌≡◌, ℕ, ◌<◌, ◌≤◌, List, length, sym, ◌∙◌, arith}
use Rattle.digit_tuple.specs.Deterministic.{states_of}
use Rattle.digit_tuple.specs.Keys.{KeyTransition, transition_at, no_transition}
use Rattle.residual_classes.specs.declared.machine.Machine.{Machine}
use Rattle.residual_classes.specs.declared.partition.Partition.{Partition}
use Rattle.residual_classes.specs.Classes.{class_of}
use Rattle.residual_classes.specs.PaidPartition.{AreAtMost, AreFew}
use Rattle.residual_classes.specs.Partition.{HasGrown}
use Rattle.residual_classes.specs.Settled.{AreLiveParts}
use Rattle.residual_classes.specs.Weights.{class_size}
use Rattle.residual_classes.proofs.ClassSumLemmas.{class_sum-within}

-- the sink's class only loses states
pub sink_stays : (m : Machine) (old mid : Partition) → HasGrown old mid → class_of old.classes.items (states_of m.dfa.now) ≡ 0 → class_of mid.classes.items (states_of m.dfa.now) ≡ 0 → (q : ℕ) → class_of mid.classes.items q ≡ 0 → class_of old.classes.items q ≡ 0
sink_stays m old mid grown sink now q is = grown.parted q (states_of m.dfa.now) (is ∙ sym now) ∙ sink

pub sink_size : (m : Machine) (old mid : Partition) (largest : ℕ) → HasGrown old mid → class_of old.classes.items (states_of m.dfa.now) ≡ 0 → class_of mid.classes.items (states_of m.dfa.now) ≡ 0
    → class_size (states_of m.dfa.now) old.classes.items 0 ≤ largest → class_size (states_of m.dfa.now) mid.classes.items 0 ≤ largest
sink_size m old mid largest grown sink now low = omega (arith, low, class_sum-within (states_of m.dfa.now) (λ p. 1) mid.classes.items old.classes.items 0 0 (λ q small is. sink_stays m old mid grown sink now q is))

pub AreFew-grown : (m : Machine) (old mid : Partition) (set : List ℕ) (largest : ℕ) → HasGrown old mid → class_of old.classes.items (states_of m.dfa.now) ≡ 0 → class_of mid.classes.items (states_of m.dfa.now) ≡ 0
    → class_size (states_of m.dfa.now) old.classes.items 0 ≤ largest → AreFew m largest mid.classes.items set
AreFew-grown m old mid set largest grown sink now low others class to = omega (arith, low, class_sum-within (states_of m.dfa.now) (λ p. 1) others old.classes.items class 0 (λ q small is. sink_stays m old mid grown sink now q (to q small is).1))

-- where all states were in the sink's class
pub AreFew-all : (m : Machine) (old mid set : List ℕ) (largest : ℕ) → ((q : ℕ) → class_of old q ≡ 0) → AreFew m largest old set → AreFew m largest mid set
AreFew-all m old mid set largest sink few others class to = few others class (λ q small is. ((to q small is).0, sink q))

-- the states of a class
pub AreFew-part : (m : Machine) (before zeros : List ℕ) (parts : List KeyTransition) (largest : ℕ) → AreLiveParts m.dfa.now before parts → AreAtMost (states_of m.dfa.now) before largest → (place : ℕ) → place < length parts → AreFew m largest zeros (transition_at parts place).key
AreFew-part m before zeros parts largest live most place within others class to =
    let part = transition_at parts place in
    omega (arith, most part.letter, class_sum-within (states_of m.dfa.now) (λ p. 1) others before class part.letter (λ q small is. ((live.of place no_transition within q).0 (to q small is).0).2))
