-- The built-in systems that are kept, and how they are added to others.
use Rattle.std.specs.Prelude.{◌≡◌, ℕ, List, ◌++◌, codes, Result, OnOk}
use Rattle.std.specs.List.{AllByRecursion}
use Rattle.digit_tuple.specs.declared.faults.OutOfMemory.{OutOfMemory}
use Rattle.num_system.specs.Sealed.{system_of}
use Rattle.system_names.specs.Names.{IsBuiltInName}
use Rattle.named_systems.specs.BuiltIn.{IsBuiltInSystem}
use Rattle.named_systems.specs.NamedSystems.{NamedSystem, HasSystemIn}

-- each is the built-in system of its name
abbrev pub AreBuiltIn : List NamedSystem → Type 0
AreBuiltIn systems = AllByRecursion (λ (s : NamedSystem). IsBuiltInSystem s.name s.system.direction (system_of s.system)) systems

-- if the name is that of a built-in system, one is under it
abbrev pub HasBuiltIn : List NamedSystem → List ℕ → Type 0
HasBuiltIn systems name = IsBuiltInName name → HasSystemIn systems name

-- those from before, and after them some that are built in
pub record Extends (before after : List NamedSystem) : Type 0 where
  pub more : List NamedSystem
  pub after_is : after ≡ before ++ more
  pub built_in : AreBuiltIn more

-- the system of a name is among them, if it is built in
pub record AddsSystem (name : List ℕ) (before : List NamedSystem) (result : Result (Unit {0}) OutOfMemory) (after : List NamedSystem) : Type 0 where
  pub extends : Extends before after
  pub there : OnOk result (HasBuiltIn after name)

-- and those of these names, and `msd_2`
pub record AddsBuiltIn (names : List (List ℕ)) (before : List NamedSystem) (result : Result (Unit {0}) OutOfMemory) (after : List NamedSystem) : Type 0 where
  pub extends : Extends before after
  pub there : OnOk result (AllByRecursion (HasBuiltIn after) names)
  pub default : OnOk result (HasSystemIn after (codes "msd_2"))
