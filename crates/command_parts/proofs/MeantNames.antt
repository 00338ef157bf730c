-- Systems under the names that mean them: each has the direction that its name says, and no more digits than a track may have.
use Rattle.std.proofs.Common.{◌≡◌, ℕ, Bool, true, false, List, [], ◌∷◌, ◌++◌, Some, if◌then◌else◌, refl, sym, ap, ◌∙◌, subst, inl, inr, arith}
use Rattle.std.specs.Str.{bytes_eq}
use Rattle.std.proofs.lemmas.Option.{none-some}
use Rattle.std.proofs.lemmas.Slice.Eq.{bytes_eq-Decides}
use Rattle.digit_tuple.specs.declared.direction.Direction.{Direction}
use Rattle.digit_tuple.specs.declared.direction.Direction.TheVariants.{Msd, Lsd}
use Rattle.digit_tuple.specs.Systems.{IsDigitCount}
use Rattle.numeration.specs.Systems.{System}
use Rattle.system_names.specs.Names.{IsSystemKind, system_name}
use Rattle.system_names.specs.UserNames.{user_name}
use Rattle.system_names.specs.declared.system_kind.SystemKind.{SystemKind}
use Rattle.system_names.specs.declared.system_kind.SystemKind.TheVariants.{Base, Fibonacci}
use Rattle.num_system.specs.Sealed.{SystemValue, system_of}
use Rattle.named_systems.specs.NamedSystems.{NamedSystem, system_named}
use Rattle.formula_build.specs.Solutions.{direction_named}
use Rattle.system_files.specs.SystemFiles.{Custom}
use Rattle.definitions.specs.Named.{IsSystemNamed}
use Rattle.named_systems.specs.BuiltIn.{built_in_system}
use Rattle.definitions.proofs.UserDigits.{user_digits}
use Rattle.named_systems.specs.SealedSystems.{AreBuiltIn, Extends}
use Rattle.system_admission.specs.UserSystems.{AreUsers}
use Rattle.command_parts.specs.FormulaSteps.{AreMeant}

-- a system that is found is what its name means
pub found_meant : (custom : Custom) (systems : List NamedSystem) (name : List ℕ) (s : SystemValue) → AreMeant custom systems → system_named systems name ≡ Some s → IsSystemNamed custom name s.direction (system_of s)
found_meant custom [] name s are found = absurd (none-some s found)
found_meant custom (x ∷ systems) name s are found = by (bytes_eq x.name name) refl (λ (there : system_named systems name ≡ Some s). found_meant custom systems name s are.1 there) found
  where
    by : (b : Bool) → bytes_eq x.name name ≡ b → (system_named systems name ≡ Some s → IsSystemNamed custom name s.direction (system_of s)) → (if b then Some x.system else system_named systems name) ≡ Some s → IsSystemNamed custom name s.direction (system_of s)
    by true same rest is =
        let names : x.name ≡ name = (bytes_eq-Decides x.name name).0 same in
        let systems_same : x.system ≡ s = cc in
        subst (λ (t : SystemValue). IsSystemNamed custom name t.direction (system_of t)) systems_same (subst (λ (n : List ℕ). IsSystemNamed custom n x.system.direction (system_of x.system)) names are.0)
    by false apart rest is = rest is

-- systems of users are what their names mean
pub users_meant : (custom : Custom) (systems : List NamedSystem) → AreUsers custom systems → AreMeant custom systems
users_meant custom [] users = tt
users_meant custom (s ∷ systems) users = (inr users.0, users_meant custom systems users.1)

-- and so are those that are built in
built_in_meant : (custom : Custom) (systems : List NamedSystem) → AreBuiltIn systems → AreMeant custom systems
built_in_meant custom [] built = tt
built_in_meant custom (s ∷ systems) built = (inl built.0, built_in_meant custom systems built.1)

both_meant : (custom : Custom) (systems more : List NamedSystem) → AreMeant custom systems → AreMeant custom more → AreMeant custom (systems ++ more)
both_meant custom [] more one two = two
both_meant custom (s ∷ systems) more one two = (one.0, both_meant custom systems more one.1 two)

-- where built-in systems are added to those of users, all are what their names mean
pub extended_meant : (custom : Custom) (systems more : List NamedSystem) → Extends systems more → AreUsers custom systems → AreMeant custom more
extended_meant custom systems more extends users = subst (AreMeant custom) (sym extends.after_is) (both_meant custom systems extends.more (users_meant custom systems users) (built_in_meant custom extends.more extends.built_in))

direction_of_name : (direction : Direction) (kind : SystemKind) → direction_named (system_name direction kind) ≡ direction
direction_of_name Msd kind = refl
direction_of_name Lsd kind = refl

-- a name determines the direction of its system
direction_of_part : (direction : Direction) (part : List ℕ) → direction_named (user_name direction part) ≡ direction
direction_of_part Msd part = refl
direction_of_part Lsd part = refl

pub meant_direction : (custom : Custom) (name : List ℕ) (s : SystemValue) → IsSystemNamed custom name s.direction (system_of s) → s.direction ≡ direction_named name
meant_direction custom name s (inl (kind, named, is)) = sym (ap direction_named named.1 ∙ direction_of_name s.direction kind)
meant_direction custom name s (inr user) = sym (ap direction_named user.is_name.1 ∙ direction_of_part s.direction user.part)

-- and of the system that is found under it
pub found_direction : (custom : Custom) (systems : List NamedSystem) (name : List ℕ) (s : SystemValue) → AreMeant custom systems → system_named systems name ≡ Some s → s.direction ≡ direction_named name
found_direction custom systems name s are found = meant_direction custom name s (found_meant custom systems name s are found)

-- what a name means has as many digits as a track may have
pub named_digits : (custom : Custom) (name : List ℕ) (direction : Direction) (s : System) → IsSystemNamed custom name direction s → IsDigitCount s.digits
named_digits custom name direction s (inl (kind, named, is)) = subst IsDigitCount (sym (ap (λ (x : System). x.digits) is)) (by_kind kind named.0)
  where
    by_kind : (k : SystemKind) → IsSystemKind k → IsDigitCount (built_in_system k).digits
    by_kind (Base k) base = record { some = omega (arith, base.least); small = omega (arith, base.most) }
    by_kind Fibonacci fib = record { some = omega arith; small = omega arith }
named_digits custom name direction s (inr user) = user_digits custom name direction s user
