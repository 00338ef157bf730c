-- How many signs a tree has.
use Rattle.std.proofs.Common.{ℕ, ◌+◌}
use Rattle.reference.specs.declared.tree.Tree.{Tree}
use Rattle.reference.specs.declared.tree.Tree.TheVariants.{Empty, Letter, Any, Either', Follow', Star', Plus', Optional'}

abbrev pub weight : Tree → ℕ
weight Empty = 0
weight (Letter x) = 0
weight Any = 0
weight (Either' p e q f) = weight e + weight f + 1
weight (Follow' p e q f) = weight e + weight f + 1
weight (Star' p e) = weight e + 1
weight (Plus' p e) = weight e + 1
weight (Optional' p e) = weight e + 1
