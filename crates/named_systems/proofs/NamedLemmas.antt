-- What is under a name among systems.
use Rattle.std.proofs.Common.{◌≡◌, ℕ, Bool, true, false, List, [], ◌∷◌, ◌++◌, Some, if◌then◌else◌, refl}
use Rattle.std.specs.Str.{bytes_eq}
use Rattle.std.proofs.lemmas.Option.{none-some}
use Rattle.std.proofs.lemmas.Slice.Eq.{bytes_eq-Decides}
use Rattle.num_system.specs.Sealed.{SystemValue}
use Rattle.named_systems.specs.NamedSystems.{NamedSystem, HasSystemIn, system_named, with_system}

-- the first of a name stays so where more come after
pub named_first : (ss ts : List NamedSystem) (name : List ℕ) (s : SystemValue) → system_named ss name ≡ Some s → system_named (ss ++ ts) name ≡ Some s
named_first [] ts name s is = absurd (none-some s is)
named_first (n ∷ ss) ts name s is = by (bytes_eq n.name name) (named_first ss ts name s) is
  where
    by : (b : Bool) → (system_named ss name ≡ Some s → system_named (ss ++ ts) name ≡ Some s) → (if b then Some n.system else system_named ss name) ≡ Some s
        → (if b then Some n.system else system_named (ss ++ ts) name) ≡ Some s
    by true rest is = is
    by false rest is = rest is

-- what is under a name stays there where more come after
pub stays : (systems more : List NamedSystem) (name : List ℕ) → HasSystemIn systems name → HasSystemIn (systems ++ more) name
stays systems more name has = (has.0, named_first systems more name has.0 has.1)

-- something is under the last name
pub last_is_found : (systems : List NamedSystem) (name : List ℕ) (s : SystemValue) → HasSystemIn (with_system systems name s) name
last_is_found [] name s = let same : bytes_eq name name ≡ true = (bytes_eq-Decides name name).1 refl in rw same (s, refl)
last_is_found (x ∷ systems) name s = by (bytes_eq x.name name) (last_is_found systems name s)
  where
    by : (b : Bool) → (t : SystemValue) × (system_named (with_system systems name s) name ≡ Some t) → (t : SystemValue) × ((if b then Some x.system else system_named (with_system systems name s) name) ≡ Some t)
    by true rest = (x.system, refl)
    by false rest = rest
