use Rattle.std.proofs.Common.{◌≡◌, take, map}
use Rattle.product_op.specs.Tracks.{joint_size}
use Rattle.product_op.proofs.joint_tracks.sizes_of_names.Given as goal

abbrev pub invariant-loop-name : goal.invariant-loop-name
invariant-loop-name l = l.sizes.items ≡ map (joint_size l.a l.b) (take l.name-index l.names)
