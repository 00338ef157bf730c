use Rattle.std.proofs.Common.{◌⊎◌, List, ℕ, sym, subst}
use Rattle.std.specs.List.{Contains}
use Rattle.number_relations.proofs.track_systems.joint_systems.Goals as goal

pub joint_system-requires : goal.joint_system-requires
joint_system-requires c =
    subst (λ (n : List ℕ). Contains c.args.a.now.names n ⊎ Contains c.args.b.now.names n) (sym c.name-item.is) (c.requires c.loop-name.name-index c.name-item.result c.loop-name-test.true)
