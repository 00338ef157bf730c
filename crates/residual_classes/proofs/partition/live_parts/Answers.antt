use Rattle.std.proofs.Common.{◌<◌, ◌-◌, ◌↔◌, ◌≢◌, List, ℕ, length, sym, subst}
use Rattle.std.specs.List.{Contains}
use Rattle.std.proofs.lemmas.List.{get_or_default}
use Rattle.std.proofs.lemmas.List.Elements.{Contains-get_or}
use Rattle.digit_tuple.specs.Keys.{transition_at, no_transition}
use Rattle.residual_classes.specs.Classes.{class_of}
use Rattle.residual_classes.specs.Partition.{IsUnion}
use Rattle.residual_classes.proofs.PartedLemmas.{AreLiveParts-gathered}
use Rattle.residual_classes.proofs.PartitionLemmas.{IsUnion-live, IsUnion-class}
use Rattle.residual_classes.proofs.partition.live_parts.Goals as goal

pub states_by_class-requires : goal.states_by_class-requires
states_by_class-requires c k d within =
    let classes = c.args.classes.now in
    let are = subst (λ (set : List ℕ). (q : ℕ) → Contains set q ↔ ((q < length classes) × (class_of classes q ≢ class_of classes (length classes - 1)))) (sym c.deref.ensures.value) c.in_ok-states.ensures in
    ((are _).0 (Contains-get_or c.deref.result.now k d within)).0

pub returns-clause-unions : goal.returns-clause-unions
returns-clause-unions c place z within =
    let classes = c.args.classes.now in
    let parts = c.states_by_class.new.out in
    let are = subst (λ (set : List ℕ). (q : ℕ) → Contains set q ↔ ((q < length classes) × (class_of classes q ≢ class_of classes (length classes - 1)))) (sym c.deref.ensures.value) c.in_ok-states.ensures in
    let union = IsUnion-live c.args.machine.now.dfa.now c.args.machine.now.outputs.now classes c.deref.result.now c.requires are in
    let same = get_or_default parts place z no_transition within in
    subst (λ part. IsUnion c.args.machine.now.dfa.now c.args.machine.now.outputs.now part.key) (sym same)
    (IsUnion-class c.args.machine.now.dfa.now c.args.machine.now.outputs.now classes c.requires.coarse c.deref.result.now union (transition_at parts place).letter (transition_at parts place).key (c.in_ok-states_by_class.ensures.gathered place no_transition within))

pub returns-clause-parts : goal.returns-clause-parts
returns-clause-parts c =
    let classes = c.args.classes.now in
    let are = subst (λ (set : List ℕ). (q : ℕ) → Contains set q ↔ ((q < length classes) × (class_of classes q ≢ class_of classes (length classes - 1)))) (sym c.deref.ensures.value) c.in_ok-states.ensures in
    let union = IsUnion-live c.args.machine.now.dfa.now c.args.machine.now.outputs.now classes c.deref.result.now c.requires are in
    AreLiveParts-gathered c.args.machine.now.dfa.now c.args.machine.now.outputs.now classes c.deref.result.now c.states_by_class.new.out c.requires union are c.in_ok-states_by_class.ensures.gathered c.in_ok-states_by_class.ensures.letters
