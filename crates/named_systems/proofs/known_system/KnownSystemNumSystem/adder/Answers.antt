use Rattle.std.proofs.Common.{sym, subst, IfOk}
use Rattle.numeration.specs.Relations.{IsAdderOf}
use Rattle.named_systems.specs.declared.known_system.KnownSystem.{KnownSystem}
use Rattle.named_systems.specs.KnownSystems.{system_of, direction_of}
use Rattle.named_systems.proofs.known_system.KnownSystemNumSystem.adder.Goals as goal

pub returns-in-Base : goal.returns-in-Base
returns-in-Base c = subst (λ (s : KnownSystem). IfOk c.adder.result (λ dfa. IsAdderOf (direction_of s) (system_of s) dfa)) (sym c.in-Base.is) c.adder.ensures
