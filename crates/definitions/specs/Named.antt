-- Which numeration system a name means.
use Rattle.std.specs.Prelude.{◌≡◌, ◌⊎◌, ℕ, List, [], ◌∷◌}
use Rattle.std.specs.List.{AllByRecursion}
use Rattle.digit_tuple.specs.declared.direction.Direction.{Direction}
use Rattle.numeration.specs.Systems.{System}
use Rattle.named_systems.specs.BuiltIn.{IsBuiltInSystem}
use Rattle.system_files.specs.SystemFiles.{Custom}
use Rattle.system_files.specs.UserSystems.{IsUserSystem}
use Rattle.definitions.specs.Tracks.{NamedSystem}

-- The name means this system, read in this direction: one that is built in, or the one that the files of a user define.
abbrev pub IsSystemNamed : Custom → List ℕ → Direction → System → Type 0
IsSystemNamed custom name direction s = IsBuiltInSystem name direction s ⊎ IsUserSystem custom name direction s

-- the name means a system that is read in this direction
abbrev pub IsOf : Custom → Direction → List ℕ → Type 0
IsOf custom direction name = (s : System) × IsSystemNamed custom name direction s

-- the name means a system
abbrev pub IsKnown : Custom → List ℕ → Type 0
IsKnown custom name = (direction : Direction) × IsOf custom direction name

abbrev pub AreKnown : Custom → List (List ℕ) → Type 0
AreKnown custom names = AllByRecursion (IsKnown custom) names

-- the first of the names that has not the property is this one
abbrev pub IsFirstWithout : (List ℕ → Type 0) → List (List ℕ) → List ℕ → Type 0
IsFirstWithout P [] first = ⊥
IsFirstWithout P (name ∷ names) first = ((¬ P name) × (first ≡ name)) ⊎ (P name × IsFirstWithout P names first)

-- each name means the system beside it, read in this direction
abbrev pub AreNamed : Custom → Direction → List NamedSystem → Type 0
AreNamed custom direction named = AllByRecursion (λ (s : NamedSystem). IsSystemNamed custom s.name direction s.system) named
