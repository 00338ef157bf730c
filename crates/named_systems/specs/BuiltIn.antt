-- Which system a name means, of those that are built in.
use Rattle.std.specs.Prelude.{◌≡◌, ℕ, List}
use Rattle.digit_tuple.specs.declared.direction.Direction.{Direction}
use Rattle.numeration.specs.Systems.{System}
use Rattle.base_k.specs.Positional.{base}
use Rattle.fib_system.specs.Fibonacci.{fibonacci}
use Rattle.system_names.specs.declared.system_kind.SystemKind.{SystemKind}
use Rattle.system_names.specs.declared.system_kind.SystemKind.TheVariants.{Base, Fibonacci}
use Rattle.system_names.specs.Names.{IsBuiltIn}

-- the systems that are built in: base k, and the Fibonacci system
abbrev pub built_in_system : SystemKind → System
built_in_system (Base k) = base k
built_in_system Fibonacci = fibonacci

-- the name is that of a system that is built in
abbrev pub IsBuiltInSystem : List ℕ → Direction → System → Type 0
IsBuiltInSystem name direction s = (kind : SystemKind) × IsBuiltIn direction kind name × (s ≡ built_in_system kind)
