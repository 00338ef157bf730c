-- Lists of sealed systems: their languages and their one direction.
use Rattle.std.proofs.Common.{◌≡◌, ℕ, zero, suc, ◌<◌, List, [], ◌∷◌, length, get_or, sym, ◌∙◌, subst, arith}
use Rattle.std.specs.List.{AllByRecursion}
use Rattle.std.proofs.lemmas.List.{length-map}
use Rattle.digit_tuple.specs.declared.direction.Direction.{Direction}
use Rattle.minimise.specs.Canonical.{IsCanonical}
use Rattle.product_op.specs.Validity.{AreLanguages, language_at}
use Rattle.numeration.specs.Systems.{System, AreSystems}
use Rattle.numeration.specs.Relations.{IsLanguageOf}
use Rattle.numeration.specs.Representation.{sizes_of}
use Rattle.numeration.specs.SomeTracks.{system_at}
use Rattle.num_system.specs.Joined.{AreLanguagesOf}
use Rattle.num_system.specs.Sealed.{SystemValue, system_of, IsSealed}
use Rattle.num_system.specs.Tracks.{systems_of, ShareDirection, languages_of}

-- each has this direction
abbrev pub AreAllDirected : Direction → List SystemValue → Type 0
AreAllDirected w systems = AllByRecursion (λ (s : SystemValue). s.direction ≡ w) systems

-- what is true of each is true of each where it follows for one
pub each_weaker : (P Q : SystemValue → Type 0) → ((s : SystemValue) → P s → Q s) → (systems : List SystemValue) → AllByRecursion P systems → AllByRecursion Q systems
each_weaker P Q follows [] all = tt
each_weaker P Q follows (s ∷ systems) all = (follows s all.0, each_weaker P Q follows systems all.1)

-- sealed systems have the laws of systems
pub are_systems : (systems : List SystemValue) → AllByRecursion IsSealed systems → AreSystems (systems_of systems)
are_systems [] sealed = tt
are_systems (s ∷ ss) sealed = (sealed.0.laws, are_systems ss sealed.1)

-- the languages are those of the systems
language_each : (w : Direction) (systems : List SystemValue) → AllByRecursion IsSealed systems → AreAllDirected w systems → (i : ℕ) → i < length (systems_of systems)
    → IsLanguageOf w (system_at (systems_of systems) i) (language_at (languages_of systems) i)
language_each w [] sealed directions i within = absurd (omega (arith, within))
language_each w (s ∷ systems) sealed directions zero within = subst (λ direction. IsLanguageOf direction (system_of s) s.language) directions.0 sealed.0.language
language_each w (s ∷ systems) sealed directions (suc i) within = language_each w systems sealed.1 directions.1 i (omega (arith, within))

pub languages_are : (w : Direction) (systems : List SystemValue) → AllByRecursion IsSealed systems → AreAllDirected w systems → AreLanguagesOf w (systems_of systems) (languages_of systems)
languages_are w systems sealed directions = record {
  count = length-map systems (λ (s : SystemValue). s.language) ∙ sym (length-map systems system_of);
  each = language_each w systems sealed directions;
}

-- and canonical, over the digits of the systems
language_fits : (systems : List SystemValue) → AllByRecursion IsSealed systems → (i : ℕ) → i < length (sizes_of (systems_of systems))
    → IsCanonical (language_at (languages_of systems) i) × ((language_at (languages_of systems) i).sizes ≡ get_or (sizes_of (systems_of systems)) i 0 ∷ [])
language_fits [] sealed i within = absurd (omega (arith, within))
language_fits (s ∷ systems) sealed zero within = (sealed.0.language_canonical, sealed.0.language.sizes)
language_fits (s ∷ systems) sealed (suc i) within = language_fits systems sealed.1 i (omega (arith, within))

pub languages_fit : (systems : List SystemValue) → AllByRecursion IsSealed systems → AreLanguages (sizes_of (systems_of systems)) (languages_of systems)
languages_fit systems sealed = record {
  count = length-map systems (λ (s : SystemValue). s.language) ∙ sym (length-map (systems_of systems) (λ (s : System). s.digits) ∙ length-map systems system_of);
  each = language_fits systems sealed;
}

-- systems that all have a direction have one
pub shared_direction_from : (w : Direction) (systems : List SystemValue) → AreAllDirected w systems → ShareDirection systems
shared_direction_from w [] directions = tt
shared_direction_from w (s ∷ systems) directions = each_weaker (λ (t : SystemValue). t.direction ≡ w) (λ (t : SystemValue). t.direction ≡ s.direction) (λ t is. is ∙ sym directions.0) (s ∷ systems) directions
