use Rattle.std.proofs.Common.{take}
use Rattle.std.specs.List.{AllByRecursion}
use Rattle.named_systems.specs.SealedSystems.{HasBuiltIn, Extends}
use Rattle.named_systems.proofs.sealed_systems.SealedSystems.add_all.Given as goal

-- the built-in systems of the names before it are there
abbrev pub invariant-loop-name : goal.invariant-loop-name
invariant-loop-name l = Extends l.initial.systems l.systems × AllByRecursion (HasBuiltIn l.systems) (take l.name-index l.names)
