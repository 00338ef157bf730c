-- Systems that are known, and systems of tracks, one after another.
use Rattle.std.proofs.Common.{◌≡◌, ℕ, ◌+◌, ◌<◌, List, [], ◌∷◌, ◌++◌, length, take, get_or, refl, sym, ap, ◌∙◌, subst}
use Rattle.std.specs.List.{AllByRecursion}
use Rattle.std.proofs.lemmas.List.{take_more}
use Rattle.digit_tuple.specs.Deterministic.{Automaton}
use Rattle.minimise.specs.Canonical.{IsCanonical}
use Rattle.minimise.specs.Residuals.{SameLanguage}
use Rattle.numeration.specs.Relations.{IsLanguageOf}
use Rattle.number_order.proofs.KeptLemmas.{language_kept}
use Rattle.system_names.specs.declared.system_kind.SystemKind.TheVariants as kinds
use Rattle.named_systems.specs.BuiltIn.{IsBuiltInSystem}
use Rattle.named_systems.specs.declared.known_system.KnownSystem.{KnownSystem}
use Rattle.named_systems.specs.declared.known_system.KnownSystem.TheVariants.{Base, Fibonacci}
use Rattle.named_systems.specs.declared.track_system.Meaning.{Meaning}
use Rattle.named_systems.specs.declared.track_system.TrackSystem.{TrackSystem}
use Rattle.named_systems.specs.KnownSystems as known
use Rattle.named_systems.specs.KnownSystems.{known_is_system, name_of}
use Rattle.named_systems.specs.NamedSystems.{NamedSystem}
use Rattle.named_systems.specs.TrackSystems.{names_in, AreNamesOf, IsNameOf}

-- what the name of a system that is known means
pub its_name_means : (s : KnownSystem) → IsBuiltInSystem (name_of s) (known.direction_of s) (known.system_of s)
its_name_means (Base s) = (kinds.Base s.base, (record { least = s.at_least; most = s.at_most }, refl), refl)
its_name_means (Fibonacci s) = (kinds.Fibonacci, (tt, refl), refl)

-- the canonical automaton of the language of a system that is known is one of its language
pub known_language : (s : KnownSystem) (d e : Automaton) → IsLanguageOf (known.direction_of s) (known.system_of s) d → e.sizes ≡ d.sizes → SameLanguage d e → IsCanonical e → IsLanguageOf (known.direction_of s) (known.system_of s) e
known_language s d e language sizes same canonical = language_kept (known.direction_of s) (known.system_of s) d e (known_is_system s) language sizes same canonical

-- one system more of these names
pub names_push : (systems : List TrackSystem) (s : TrackSystem) → names_in (systems ++ s ∷ []) ≡ names_in systems ++ s.name ∷ []
names_push [] s = refl
names_push (x ∷ systems) s = ap (λ (ns : List (List ℕ)). x.name ∷ ns) (names_push systems s)

are_push : (users : List NamedSystem) (systems : List TrackSystem) (s : TrackSystem) → AllByRecursion (λ (t : TrackSystem). IsNameOf users t.name t.meaning) systems → IsNameOf users s.name s.meaning → AllByRecursion (λ (t : TrackSystem). IsNameOf users t.name t.meaning) (systems ++ s ∷ [])
are_push users [] s are is = (is, tt)
are_push users (x ∷ systems) s are is = (are.0, are_push users systems s are.1 is)

-- the system of one name more
pub names_more : (users : List NamedSystem) (names : List (List ℕ)) (i : ℕ) (name copy : List ℕ) (meaning : Meaning) (systems more : List TrackSystem) → i < length names → name ≡ get_or names i name → copy ≡ name → AreNamesOf users (take i names) systems → IsNameOf users name meaning
    → more ≡ systems ++ (record { name = copy; meaning = meaning }) ∷ [] → AreNamesOf users (take (i + 1) names) more
names_more users names i name copy meaning systems more within is same are means more_is =
    let s : TrackSystem = record { name = copy; meaning = meaning } in
    let prefix : take (i + 1) names ≡ take i names ++ name ∷ [] = take_more names i name within ∙ ap (λ (n : List ℕ). take i names ++ n ∷ []) (sym is) in
    let named : AreNamesOf users (take (i + 1) names) (systems ++ s ∷ []) = record {
      names_are = prefix ∙ ((λ j. are.names_are j ++ sym same j ∷ []) ∙ sym (names_push systems s));
      are = are_push users systems s are.are (subst (λ (n : List ℕ). IsNameOf users n meaning) (sym same) means);
    } in
    subst (AreNamesOf users (take (i + 1) names)) (sym more_is) named
