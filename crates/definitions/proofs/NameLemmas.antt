-- Names determine their systems.
use Rattle.std.proofs.Common.{◌≡◌, ℕ, suc, ◌<◌, List, [], ◌∷◌, length, drop, get_or, inl, inr, refl, sym, ap, ◌∙◌, subst, arith}
use Rattle.std.specs.List.{AllByRecursion}
use Rattle.digit_tuple.specs.declared.direction.Direction.{Direction}
use Rattle.numeration.specs.Systems.{System, IsSystem, AreSystems}
use Rattle.base_k.specs.BaseLaws.{base_is_system}
use Rattle.fib_system.specs.FibonacciLaws.{fibonacci_is_system}
use Rattle.system_names.specs.declared.system_kind.SystemKind.{SystemKind}
use Rattle.system_names.specs.declared.system_kind.SystemKind.TheVariants.{Base, Fibonacci}
use Rattle.system_names.specs.Names.{IsSystemKind}
use Rattle.system_names.proofs.OneSystem.{one_system}
use Rattle.system_names.proofs.UserSystems.{none_is_built_in}
use Rattle.system_files.proofs.OneSystem.{names_mean_one_system}
use Rattle.definitions.specs.Tracks.{NamedSystem, names_of, systems_of}
use Rattle.system_files.specs.SystemFiles.{Custom}
use Rattle.definitions.specs.Named.{IsSystemNamed, IsOf, IsFirstWithout, AreNamed}
use Rattle.named_systems.specs.BuiltIn.{built_in_system}

-- what a name means: one direction and one system
pub one_meaning : (custom : Custom) (name : List ℕ) (direction other : Direction) (s r : System) → IsSystemNamed custom name direction s → IsSystemNamed custom name other r → (direction ≡ other) × (s ≡ r)
one_meaning custom name direction other s r (inl (kind, named, is)) (inl (another, named', is')) =
    let same = one_system direction other kind another name named named' in
    (same.0, is ∙ (ap built_in_system same.1 ∙ sym is'))
one_meaning custom name direction other s r (inl (kind, named, is)) (inr user) = absurd (none_is_built_in name (other, user.part, user.is_name) (direction, kind, named))
one_meaning custom name direction other s r (inr user) (inl (kind, named, is)) = absurd (none_is_built_in name (direction, user.part, user.is_name) (other, kind, named))
one_meaning custom name direction other s r (inr user) (inr another) = names_mean_one_system custom name direction other s r user another

pub one_direction : (custom : Custom) (direction other : Direction) (name : List ℕ) → IsOf custom direction name → IsOf custom other name → direction ≡ other
one_direction custom direction other name (s, named) (r, named') = (one_meaning custom name direction other s r named named').0

-- what a name means is a system
pub kind_is_system : (kind : SystemKind) → IsSystemKind kind → IsSystem (built_in_system kind)
kind_is_system (Base k) base = base_is_system k base.least
kind_is_system Fibonacci fib = fibonacci_is_system

pub named_is_system : (custom : Custom) (name : List ℕ) (direction : Direction) (s : System) → IsSystemNamed custom name direction s → IsSystem s
named_is_system custom name direction s (inl (kind, named, is)) = subst IsSystem (sym is) (kind_is_system kind named.0)
named_is_system custom name direction s (inr user) = user.defined.system

pub named_are_systems : (custom : Custom) (direction : Direction) (named : List NamedSystem) → AreNamed custom direction named → AreSystems (systems_of named)
named_are_systems custom direction [] are = tt
named_are_systems custom direction (s ∷ named) are = (named_is_system custom s.name direction s.system are.0, named_are_systems custom direction named are.1)

-- checks of names have one first fault
pub one_first : (P : List ℕ → Type 0) (names : List (List ℕ)) (a b : List ℕ) → IsFirstWithout P names a → IsFirstWithout P names b → a ≡ b
one_first P [] a b one other = absurd one
one_first P (name ∷ names) a b (inl (without, is)) (inl (without', is')) = is ∙ sym is'
one_first P (name ∷ names) a b (inl (without, is)) (inr (with, rest)) = absurd (without with)
one_first P (name ∷ names) a b (inr (with, rest)) (inl (without, is)) = absurd (without with)
one_first P (name ∷ names) a b (inr (with, rest)) (inr (with', rest')) = one_first P names a b rest rest'

-- where all have the property there is no first one without
pub no_first : (P : List ℕ → Type 0) (names : List (List ℕ)) (a : List ℕ) → AllByRecursion P names → IsFirstWithout P names a → ⊥
no_first P [] a all first = first
no_first P (name ∷ names) a all (inl (without, is)) = without all.0
no_first P (name ∷ names) a all (inr (with, rest)) = no_first P names a all.1 rest

-- names that mean systems in one direction are of that direction
pub named_of_direction : (custom : Custom) (direction : Direction) (named : List NamedSystem) → AreNamed custom direction named → AllByRecursion (IsOf custom direction) (names_of named)
named_of_direction custom direction [] are = tt
named_of_direction custom direction (s ∷ named) are = ((s.system, are.0), named_of_direction custom direction named are.1)

same_named : (s r : NamedSystem) → s.name ≡ r.name → s.system ≡ r.system → s ≡ r
same_named s r names systems = λ i. record { name = names i; system = systems i }

-- names determine systems, and their direction
pub same_list : (custom : Custom) (direction other : Direction) (named also : List NamedSystem) → AreNamed custom direction named → AreNamed custom other also → names_of named ≡ names_of also → named ≡ also
same_list custom direction other [] [] one two same = refl
same_list custom direction other [] (r ∷ also) one two same = let none : 0 ≡ suc (length (names_of also)) = ap (λ (xs : List (List ℕ)). length xs) same in absurd (omega (arith, none))
same_list custom direction other (s ∷ named) [] one two same = let none : suc (length (names_of named)) ≡ 0 = ap (λ (xs : List (List ℕ)). length xs) same in absurd (omega (arith, none))
same_list custom direction other (s ∷ named) (r ∷ also) one two same =
    let names : s.name ≡ r.name = ap (λ (xs : List (List ℕ)). get_or xs 0 []) same in
    let P : List ℕ → Type 0 = λ n. IsSystemNamed custom n direction s.system in
    let systems : s.system ≡ r.system = (one_meaning custom r.name direction other s.system r.system (subst P names one.0) two.0).1 in
    ap (λ (x : NamedSystem). x ∷ named) (same_named s r names systems)
    ∙ ap (λ (xs : List NamedSystem). r ∷ xs) (same_list custom direction other named also one.1 two.1 (ap (λ (xs : List (List ℕ)). drop 1 xs) same))

pub same_direction : (custom : Custom) (direction other : Direction) (named also : List NamedSystem) → 0 < length named → AreNamed custom direction named → AreNamed custom other also → names_of named ≡ names_of also → direction ≡ other
same_direction custom direction other [] also some one two same = absurd (omega (arith, some))
same_direction custom direction other (s ∷ named) [] some one two same = let none : suc (length (names_of named)) ≡ 0 = ap (λ (xs : List (List ℕ)). length xs) same in absurd (omega (arith, none))
same_direction custom direction other (s ∷ named) (r ∷ also) some one two same =
    let names : s.name ≡ r.name = ap (λ (xs : List (List ℕ)). get_or xs 0 []) same in
    let P : List ℕ → Type 0 = λ n. IsSystemNamed custom n direction s.system in
    (one_meaning custom r.name direction other s.system r.system (subst P names one.0) two.0).0
