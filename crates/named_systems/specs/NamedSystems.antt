-- Sealed systems, each under a name.
use Rattle.std.specs.Prelude.{◌≡◌, ◌⊎◌, ℕ, List, [], ◌∷◌, ◌++◌, Option, None, Some, if◌then◌else◌}
use Rattle.std.specs.List.{AllByRecursion}
use Rattle.std.specs.Str.{bytes_eq}
use Rattle.num_system.specs.Sealed.{SystemValue, IsSealed}
use Rattle.system_names.specs.Names.{IsBuiltInName}

pub record NamedSystem : Type 0 where
  pub name : List ℕ
  pub system : SystemValue

-- with one more after the others
abbrev pub with_system : List NamedSystem → List ℕ → SystemValue → List NamedSystem
with_system ss name s = ss ++ record { name = name; system = s } ∷ []

-- the first of a name
abbrev pub system_named : List NamedSystem → List ℕ → Option SystemValue
system_named [] name = None
system_named (s ∷ ss) name = if bytes_eq s.name name then Some s.system else system_named ss name

abbrev pub AreSealed : List NamedSystem → Type 0
AreSealed ss = AllByRecursion (λ (s : NamedSystem). IsSealed s.system) ss

-- one of the systems is under this name
abbrev pub HasSystemIn : List NamedSystem → List ℕ → Type 0
HasSystemIn systems name = (s : SystemValue) × (system_named systems name ≡ Some s)

-- the name is that of a system that is built in, or of one of these
abbrev pub IsThere : List NamedSystem → List ℕ → Type 0
IsThere systems name = IsBuiltInName name ⊎ HasSystemIn systems name
