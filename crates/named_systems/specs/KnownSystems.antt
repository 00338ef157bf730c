-- Systems that are known.
use Rattle.std.specs.Prelude.{ℕ, List}
use Rattle.digit_tuple.specs.declared.direction.Direction.{Direction}
use Rattle.numeration.specs.Systems.{System, IsSystem}
use Rattle.base_k.specs.Positional.{base}
use Rattle.base_k.specs.BaseLaws.{base_is_system}
use Rattle.fib_system.specs.Fibonacci.{fibonacci}
use Rattle.fib_system.specs.FibonacciLaws.{fibonacci_is_system}
use Rattle.system_names.specs.declared.system_kind.SystemKind.TheVariants as kinds
use Rattle.system_names.specs.Names.{system_name}
use Rattle.named_systems.specs.declared.known_system.KnownSystem.{KnownSystem}
use Rattle.named_systems.specs.declared.known_system.KnownSystem.TheVariants.{Base, Fibonacci}

-- what the system is
abbrev pub system_of : KnownSystem → System
system_of (Base s) = base s.base
system_of (Fibonacci s) = fibonacci

-- the direction in which its words are read
abbrev pub direction_of : KnownSystem → Direction
direction_of (Base s) = s.direction
direction_of (Fibonacci s) = s.direction

pub known_is_system : (s : KnownSystem) → IsSystem (system_of s)
known_is_system (Base s) = base_is_system s.base s.at_least
known_is_system (Fibonacci s) = fibonacci_is_system

-- its name
abbrev pub name_of : KnownSystem → List ℕ
name_of (Base s) = system_name s.direction (kinds.Base s.base)
name_of (Fibonacci s) = system_name s.direction kinds.Fibonacci
