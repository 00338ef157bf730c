-- What contracts see of a sealed system.
use Rattle.std.specs.Prelude.{ℕ}
use Rattle.digit_tuple.specs.Deterministic.{Automaton, accepts_of}
use Rattle.digit_tuple.specs.Paddings.{in_order}
use Rattle.digit_tuple.specs.declared.direction.Direction.{Direction}
use Rattle.minimise.specs.Canonical.{IsCanonical}
use Rattle.numeration.specs.Systems.{System, IsSystem}
use Rattle.numeration.specs.Relations.{IsLanguageOf, IsAdderOf, IsEqualityOf, IsOrderOf, IsZeroOf}
use Rattle.num_system.specs.Successor.{IsSuccessorOf}
use Rattle.num_system.specs.declared.relations.Relations.{Relations}

-- the number of digits, the direction, and the automata of a system
pub record SystemValue : Type 0 where
  pub digits : ℕ
  pub direction : Direction
  pub language : Automaton
  pub adder : Automaton
  pub equal : Automaton
  pub less : Automaton
  pub successor : Automaton
  pub zero : Automaton

-- the system whose language the automaton accepts
abbrev pub system_of : SystemValue → System
system_of v = record { digits = v.digits; test = λ w. accepts_of v.language (in_order v.direction w) }

-- the automata are canonical, and hold of equal numbers, of numbers in order, of a number and the next, and of 0
pub record AreRelationsOf (direction : Direction) (s : System) (equal less successor zero : Automaton) : Type 0 where
  pub equality : IsEqualityOf direction s equal
  pub equality_canonical : IsCanonical equal
  pub order : IsOrderOf direction s less
  pub order_canonical : IsCanonical less
  pub next : IsSuccessorOf direction s successor
  pub next_canonical : IsCanonical successor
  pub zeros : IsZeroOf direction s zero
  pub zeros_canonical : IsCanonical zero

-- the automata but that of the next number
pub record AreOrderRelationsOf (direction : Direction) (s : System) (equal less zero : Automaton) : Type 0 where
  pub equality : IsEqualityOf direction s equal
  pub equality_canonical : IsCanonical equal
  pub order : IsOrderOf direction s less
  pub order_canonical : IsCanonical less
  pub zeros : IsZeroOf direction s zero
  pub zeros_canonical : IsCanonical zero

-- what is sealed of these parts
abbrev pub sealed_of : ℕ → Direction → Automaton → Automaton → Relations → SystemValue
sealed_of digits direction language adder relations = record {
  digits = digits;
  direction = direction;
  language = language;
  adder = adder;
  equal = relations.equal;
  less = relations.less;
  successor = relations.successor;
  zero = relations.zero;
}

-- each automaton is canonical and does what it is there for, and the language is that of a numeration system
pub record IsSealed (v : SystemValue) : Type 0 where
  pub laws : IsSystem (system_of v)
  pub language : IsLanguageOf v.direction (system_of v) v.language
  pub language_canonical : IsCanonical v.language
  pub adder : IsAdderOf v.direction (system_of v) v.adder
  pub adder_canonical : IsCanonical v.adder
  pub relations : AreRelationsOf v.direction (system_of v) v.equal v.less v.successor v.zero
