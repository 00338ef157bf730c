-- Built-in systems that are sealed, one after another.
use Rattle.std.proofs.Common.{◌≡◌, ℕ, ◌≤◌, Bool, true, false, List, [], ◌∷◌, ◌++◌, length, take, Some, Result, Ok, Err, codes, if◌then◌else◌, inl, inr, refl, sym, ap, ◌∙◌, subst, arith}
use Rattle.std.specs.List.{AllByRecursion}
use Rattle.std.specs.Str.{bytes_eq}
use Rattle.std.proofs.lemmas.Fmt.{decimal_digit}
use Rattle.std.proofs.lemmas.List.{append-nil, append_assoc, take_all}
use Rattle.std.proofs.lemmas.Option.{none-some}
use Rattle.std.proofs.lemmas.Slice.Eq.{bytes_eq-Decides}
use Rattle.digit_tuple.specs.Letters.{IsAlphabet}
use Rattle.digit_tuple.specs.declared.direction.Direction.TheVariants.{Msd}
use Rattle.digit_tuple.specs.declared.faults.OutOfMemory.{OutOfMemory}
use Rattle.num_system.specs.Sealed.{SystemValue}
use Rattle.num_system.specs.Sealed as sealed
use Rattle.system_names.specs.Names.{IsBuiltInName}
use Rattle.system_names.specs.declared.system_kind.SystemKind.TheVariants as kinds
use Rattle.base_k.proofs.BaseAlphabets.{three_fit}
use Rattle.named_systems.specs.BuiltIn.{IsBuiltInSystem}
use Rattle.named_systems.specs.declared.known_system.KnownSystem.{KnownSystem}
use Rattle.named_systems.specs.declared.known_system.KnownSystem.TheVariants.{Base, Fibonacci}
use Rattle.named_systems.specs.KnownSystems.{system_of, direction_of, name_of}
use Rattle.named_systems.specs.NamedSystems.{NamedSystem, HasSystemIn, IsThere, system_named, with_system}
use Rattle.named_systems.specs.SealedSystems.{AreBuiltIn, HasBuiltIn, Extends, AddsSystem, AddsBuiltIn}
use Rattle.named_systems.proofs.KnownSteps.{its_name_means}
use Rattle.named_systems.proofs.NamedLemmas.{stays}

-- three tracks over a built-in system have an alphabet
pub system_fits : (s : KnownSystem) → IsAlphabet ((system_of s).digits ∷ (system_of s).digits ∷ (system_of s).digits ∷ [])
system_fits (Base s) = three_fit s.base s.at_most
system_fits (Fibonacci s) = record { tracks = omega arith; letters = omega arith }

-- a built-in system that is sealed is what its name means
pub sealed_built_in : (known : KnownSystem) (name : List ℕ) (s : SystemValue) → name ≡ name_of known → sealed.system_of s ≡ system_of known → s.direction ≡ direction_of known → IsBuiltInSystem name s.direction (sealed.system_of s)
sealed_built_in known name s named is direction = rw (named, is, direction) (its_name_means known)

-- one more that is built in
pub built_in_push : (systems : List NamedSystem) (name : List ℕ) (s : SystemValue) → AreBuiltIn systems → IsBuiltInSystem name s.direction (sealed.system_of s) → AreBuiltIn (with_system systems name s)
built_in_push [] name s are is = (is, tt)
built_in_push (x ∷ systems) name s are is = (are.0, built_in_push systems name s are.1 is)

-- what is among built-in systems under a name is the one of the name
pub built_in_found : (systems : List NamedSystem) (name : List ℕ) (s : SystemValue) → AreBuiltIn systems → system_named systems name ≡ Some s → IsBuiltInSystem name s.direction (sealed.system_of s)
built_in_found [] name s are found = absurd (none-some s found)
built_in_found (x ∷ systems) name s are found = by (bytes_eq x.name name) refl (λ (there : system_named systems name ≡ Some s). built_in_found systems name s are.1 there) found
  where
    by : (b : Bool) → bytes_eq x.name name ≡ b → (system_named systems name ≡ Some s → IsBuiltInSystem name s.direction (sealed.system_of s)) → (if b then Some x.system else system_named systems name) ≡ Some s → IsBuiltInSystem name s.direction (sealed.system_of s)
    by true same rest is =
        let names : x.name ≡ name = (bytes_eq-Decides x.name name).0 same in
        let systems_same : x.system ≡ s = cc in
        subst (λ (t : SystemValue). IsBuiltInSystem name t.direction (sealed.system_of t)) systems_same (subst (λ (n : List ℕ). IsBuiltInSystem n x.system.direction (sealed.system_of x.system)) names are.0)
    by false apart rest is = rest is

-- nothing is added
pub extends_none : (systems : List NamedSystem) → Extends systems systems
extends_none systems = record { more = []; after_is = sym (append-nil systems); built_in = tt }

-- what is added by one after another
built_in_both : (systems more : List NamedSystem) → AreBuiltIn systems → AreBuiltIn more → AreBuiltIn (systems ++ more)
built_in_both [] more one two = two
built_in_both (s ∷ systems) more one two = (one.0, built_in_both systems more one.1 two)

pub extends_both : (systems more most : List NamedSystem) → Extends systems more → Extends more most → Extends systems most
extends_both systems more most one two = record {
  more = one.more ++ two.more;
  after_is = two.after_is ∙ ap (λ (ss : List NamedSystem). ss ++ two.more) one.after_is ∙ append_assoc systems one.more two.more;
  built_in = built_in_both one.more two.more one.built_in two.built_in;
}

-- and by one that is built in
pub extends_one : (systems : List NamedSystem) (name : List ℕ) (s : SystemValue) → IsBuiltInSystem name s.direction (sealed.system_of s) → Extends systems (with_system systems name s)
extends_one systems name s is = record { more = record { name = name; system = s } ∷ []; after_is = refl; built_in = (is, tt) }

-- what is under a name is under it still
pub kept : (systems more : List NamedSystem) (name : List ℕ) → Extends systems more → HasSystemIn systems name → HasSystemIn more name
kept systems more name extends has = subst (λ (ss : List NamedSystem). HasSystemIn ss name) (sym extends.after_is) (stays systems extends.more name has)

-- those that are there for these names are there still
pub all_stay : (systems more : List NamedSystem) (names : List (List ℕ)) → Extends systems more → AllByRecursion (HasBuiltIn systems) names → AllByRecursion (HasBuiltIn more) names
all_stay systems more [] extends all = tt
all_stay systems more (name ∷ names) extends all = ((λ built. kept systems more name extends (all.0 built)), all_stay systems more names extends all.1)

pub all_have : (systems : List NamedSystem) (names : List (List ℕ)) (name : List ℕ) → AllByRecursion (HasBuiltIn systems) names → HasBuiltIn systems name → AllByRecursion (HasBuiltIn systems) (names ++ name ∷ [])
all_have systems [] name all has = (has, tt)
all_have systems (x ∷ names) name all has = (all.0, all_have systems names name all.1 has)

-- the system under no mark is built in
pub default_built_in : IsBuiltInName (codes "msd_2")
default_built_in = (Msd, kinds.Base 2, (record { least = omega arith; most = omega arith }, ap (λ (text : List ℕ). 109 ∷ 115 ∷ 100 ∷ 95 ∷ text) (sym (decimal_digit 2 (omega arith)))))

-- at the end the one under no mark is added
pub default_added : (names : List (List ℕ)) (i : ℕ) (name : List ℕ) (before mid after : List NamedSystem) (result : Result (Unit {0}) OutOfMemory) → length names ≤ i → name ≡ codes "msd_2" → Extends before mid × AllByRecursion (HasBuiltIn mid) (take i names) → AddsSystem name mid result after
    → AddsBuiltIn names before result after
default_added names i name before mid after (Ok done) end is so adds = record {
  extends = extends_both before mid after so.0 adds.extends;
  there = all_stay mid after names adds.extends (subst (AllByRecursion (HasBuiltIn mid)) (take_all i names end) so.1);
  default = (subst (HasBuiltIn after) is adds.there) default_built_in;
}
default_added names i name before mid after (Err fault) end is so adds = record { extends = extends_both before mid after so.0 adds.extends; there = tt; default = tt }

-- each name that is there with the users' systems has a system where the built-in ones are added
pub all_there : (users systems : List NamedSystem) (names : List (List ℕ)) → Extends users systems → AllByRecursion (IsThere users) names → AllByRecursion (HasBuiltIn systems) names → AllByRecursion (HasSystemIn systems) names
all_there users systems [] extends there has = tt
all_there users systems (name ∷ names) extends there has = (by there.0, all_there users systems names extends there.1 has.1)
  where
    by : IsThere users name → HasSystemIn systems name
    by (inl built) = has.0 built
    by (inr extended) = kept users systems name extends extended
