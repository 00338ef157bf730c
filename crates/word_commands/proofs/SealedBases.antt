-- A base that is sealed and added to no other system is found under its name.
use Rattle.std.proofs.Common.{◌≡◌, ℕ, List, [], ◌∷◌, None, Some, inl, sym, ◌∙◌, subst}
use Rattle.std.specs.List.{AllByRecursion}
use Rattle.std.proofs.lemmas.Option.{none-some}
use Rattle.named_systems.specs.NamedSystems.{AreSealed, NamedSystem, system_named}
use Rattle.named_systems.specs.SealedSystems.{AreBuiltIn, Extends, HasBuiltIn}
use Rattle.named_systems.proofs.SealedLemmas.{built_in_found}
use Rattle.num_system.specs.Sealed.{SystemValue, system_of}
use Rattle.system_names.specs.declared.system_kind.SystemKind.TheVariants.{Base}
use Rattle.word_commands.specs.declared.base_system.BaseSystem.{BaseSystem}
use Rattle.word_commands.specs.BaseWords.{IsNameOfBase}
use Rattle.word_commands.specs.ConvertSteps.{IsSealedBase}
use Rattle.word_commands.proofs.BaseNames.{base_meant}
use Rattle.command_parts.proofs.TableRelations.{found_sealed}
use Rattle.command_parts.proofs.TextReads.{no_texts}

module _ (name : List ℕ) (s : BaseSystem) (is : IsNameOfBase s name) (before systems : List NamedSystem) (none_before : before ≡ []) where
  -- what is found is the base
  pub sealed_base_is : (system : SystemValue) → Extends before systems → AreSealed systems → system_named systems name ≡ Some system → IsSealedBase s system
  sealed_base_is system extends sealed found =
      let none : Extends [] systems = subst (λ (b : List NamedSystem). Extends b systems) none_before extends in
      let built = built_in_found systems name system (subst AreBuiltIn (sym none.after_is) none.built_in) found in
      let meant = base_meant no_texts name s system.direction (system_of system) is (inl built) in
      record { sealed = found_sealed systems name system sealed found; direction_is = meant.0; base_is = meant.1 }

  -- and it is found
  pub sealed_base_there : (names : List (List ℕ)) → names ≡ name ∷ [] → AllByRecursion (HasBuiltIn systems) names → system_named systems name ≡ None → ⊥
  sealed_base_there names names_are there none =
      let one : AllByRecursion (HasBuiltIn systems) (name ∷ []) = subst (AllByRecursion (HasBuiltIn systems)) names_are there in
      let found = one.0 (s.direction, Base s.base, is) in
      none-some found.0 (sym none ∙ found.1)
