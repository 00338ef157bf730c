use Rattle.std.proofs.Common.{List, ℕ, subst, arith}
use Rattle.std.proofs.lemmas.List.{take_all}
use Rattle.residual_classes.specs.Partition.{IsGiven}
use Rattle.residual_classes.proofs.PartitionLemmas.{IsGiven-none, IsGiven-more}
use Rattle.residual_classes.proofs.partition.give.Goals as goal

pub loop-state-init : goal.loop-state-init
loop-state-init c = IsGiven-none c.args.classes.now.items c.args.class

pub index_mut-requires : goal.index_mut-requires
index_mut-requires c =
    let inside = c.requires c.loop-state.state-index 0 (omega arith) in
    omega (arith, inside, c.loop-state.invariant.width)

pub loop-state-preserved : goal.loop-state-preserved
loop-state-preserved c =
    IsGiven-more c.args.classes.now.items c.loop-state.classes.items c.args.states.now c.args.class c.loop-state.state-index (omega arith) (c.requires c.loop-state.state-index 0 (omega arith)) c.loop-state.invariant

pub returns : goal.returns
returns c =
    subst (λ (xs : List ℕ). IsGiven c.args.classes.now.items c.loop-state.classes.items xs c.args.class) (take_all c.loop-state.state-index c.args.states.now (omega arith)) c.loop-state.invariant
