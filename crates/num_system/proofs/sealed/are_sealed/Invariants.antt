use Rattle.std.proofs.Common.{take, map}
use Rattle.std.specs.List.{All}
use Rattle.std.specs.Rc.{rc_value}
use Rattle.num_system.specs.Sealed.{IsSealed}
use Rattle.num_system.proofs.sealed.are_sealed.Given as goal

abbrev pub invariant-loop-system : goal.invariant-loop-system
invariant-loop-system l = All IsSealed (take l.system-index (map rc_value l.systems))
