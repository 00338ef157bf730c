-- Canonical automata that hold of one relation are one, and so a system of numbers is sealed in one way.
use Rattle.std.proofs.Common.{◌≡◌, ℕ, Bool, true, false, List, [], ◌∷◌, Some, if◌then◌else◌, refl, subst}
use Rattle.std.specs.Str.{bytes_eq}
use Rattle.std.proofs.lemmas.Slice.Eq.{bytes_eq-Decides}
use Rattle.num_system.specs.Sealed.{SystemValue, system_of, IsSealed}
use Rattle.num_system.proofs.OneSystem.{one_sealed}
use Rattle.named_systems.specs.NamedSystems.{NamedSystem, system_named, AreSealed}
use Rattle.formula_build.specs.OneBuilding.{Agree}
use Rattle.system_files.specs.SystemFiles.{Custom}
use Rattle.definitions.specs.Named.{IsSystemNamed}
use Rattle.command_parts.specs.FormulaSteps.{AreMeant, library_of}
use Rattle.definitions.proofs.NameLemmas.{one_meaning}

-- a system that is under a name is sealed, and means what the name means
record IsFound (custom : Custom) (name : List ℕ) (s : SystemValue) : Type 0 where
  sealed : IsSealed s
  meant : IsSystemNamed custom name s.direction (system_of s)

found : (custom : Custom) (systems : List NamedSystem) (name : List ℕ) (s : SystemValue) → AreSealed systems → AreMeant custom systems → system_named systems name ≡ Some s → IsFound custom name s
found custom [] name s sealed meant is = absurd cc
found custom (r ∷ rs) name s sealed meant is = by (bytes_eq r.name name) refl (λ later. found custom rs name s sealed.1 meant.1 later) is
  where
    by : (v : Bool) → bytes_eq r.name name ≡ v → (system_named rs name ≡ Some s → IsFound custom name s) → (if v then Some r.system else system_named rs name) ≡ Some s → IsFound custom name s
    by true same rest is =
        let one : r.system ≡ s = cc in
        let names : r.name ≡ name = (bytes_eq-Decides r.name name).0 same in
        let here : IsSystemNamed custom name r.system.direction (system_of r.system) = subst (λ (n : List ℕ). IsSystemNamed custom n r.system.direction (system_of r.system)) names meant.0 in
        subst (IsFound custom name) one (record { sealed = sealed.0; meant = here })
    by false other rest is = rest is

-- and so two libraries of systems that names mean agree
pub meant_agree : (custom : Custom) (systems others : List NamedSystem) → AreSealed systems → AreMeant custom systems → AreSealed others → AreMeant custom others → Agree (library_of systems) (library_of others)
meant_agree custom systems others sealed meant sealed' meant' = record {
  relations = refl;
  words = refl;
  systems = λ name s t is is'.
      let one : IsFound custom name s = found custom systems name s sealed meant is in
      let other : IsFound custom name t = found custom others name t sealed' meant' is' in
      let same : (s.direction ≡ t.direction) × (system_of s ≡ system_of t) = one_meaning custom name s.direction t.direction (system_of s) (system_of t) one.meant other.meant in
      one_sealed s t one.sealed other.sealed same.0 same.1;
}
