use Rattle.std.proofs.Common.{◌≡◌, ℕ, ◌<◌, List, get_or}
use Rattle.std.specs.List.{Contains}
use Rattle.minimise.specs.Tracked.{size_of}
use Rattle.product_op.proofs.joint_tracks.agree_on_shared.Given as goal

abbrev pub invariant-loop-name : goal.invariant-loop-name
invariant-loop-name l = (k : ℕ) (d : List ℕ) → k < l.name-index → Contains l.b.names (get_or l.names k d) → size_of l.a (get_or l.names k d) ≡ size_of l.b (get_or l.names k d)
