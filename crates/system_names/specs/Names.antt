-- The names of the numeration systems that are built in, each in either direction: base k, k from 2 to 40, and the Fibonacci system.
use Rattle.std.specs.Prelude.{◌≡◌, ℕ, ◌≤◌, List, ◌++◌, codes, decimal, ⊤}
use Rattle.digit_tuple.specs.declared.direction.Direction.{Direction}
use Rattle.digit_tuple.specs.declared.direction.Direction.TheVariants.{Msd, Lsd}
use Rattle.system_names.specs.declared.system_kind.SystemKind.{SystemKind}
use Rattle.system_names.specs.declared.system_kind.SystemKind.TheVariants.{Base, Fibonacci}

-- how a name says the direction
abbrev pub direction_part : Direction → List ℕ
direction_part Msd = codes "msd_"
direction_part Lsd = codes "lsd_"

-- and how it says the kind after that
abbrev pub kind_part : SystemKind → List ℕ
kind_part (Base k) = decimal k
kind_part Fibonacci = codes "fib"

-- the name of a system in a direction
abbrev pub system_name : Direction → SystemKind → List ℕ
system_name direction kind = direction_part direction ++ kind_part kind

-- there is such a base
pub record IsBase (k : ℕ) : Type 0 where
  pub least : 2 ≤ k
  pub most : k ≤ 40

-- there is such a system
abbrev pub IsSystemKind : SystemKind → Type 0
IsSystemKind (Base k) = IsBase k
IsSystemKind Fibonacci = ⊤

-- how many digits it has
abbrev pub digit_count : SystemKind → ℕ
digit_count (Base k) = k
digit_count Fibonacci = 2

-- the name is that of a system in a direction
abbrev pub IsBuiltIn : Direction → SystemKind → List ℕ → Type 0
IsBuiltIn direction kind name = IsSystemKind kind × (name ≡ system_name direction kind)

-- the name is that of a system that is built in
abbrev pub IsBuiltInName : List ℕ → Type 0
IsBuiltInName name = (direction : Direction) × (kind : SystemKind) × IsBuiltIn direction kind name

-- a name has one direction and one kind, at most
abbrev pub NamesDetermineSystems : Type 0
NamesDetermineSystems = (direction other : Direction) (kind another : SystemKind) (name : List ℕ) → IsBuiltIn direction kind name → IsBuiltIn other another name → (direction ≡ other) × (kind ≡ another)
