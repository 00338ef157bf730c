use Rattle.std.proofs.Common.{sym, subst}
use Rattle.digit_tuple.specs.Deterministic.{Automaton}
use Rattle.minimise.specs.Canonical.{IsCanonical}
use Rattle.numeration.specs.Relations.{IsLanguageOf}
use Rattle.named_systems.specs.KnownSystems as known
use Rattle.named_systems.specs.TrackSystems.{meant_system, meant_direction}
use Rattle.named_systems.specs.declared.track_system.Meaning.{Meaning}
use Rattle.named_systems.proofs.KnownSteps.{known_language}
use Rattle.named_systems.proofs.track_system.TrackSystem.language.Goals as goal

pub returns-in_ok-new-in-BuiltIn-clause-of_system : goal.returns-in_ok-new-in-BuiltIn-clause-of_system
returns-in_ok-new-in-BuiltIn-clause-of_system c =
    let s = c.in-BuiltIn.system in
    let made = c.in_ok-canonical-in-BuiltIn in
    let language = known_language s c.in_ok-language-in-BuiltIn.language made.field-0 c.in_ok-language-in-BuiltIn.ensures made.ensures.sizes made.ensures.language made.ensures.canonical in
    subst (λ (m : Meaning). IsLanguageOf (meant_direction m) (meant_system m) c.in_ok-new-in-BuiltIn.field-0.value) (sym c.in-BuiltIn.is)
    (subst (λ (d : Automaton). IsLanguageOf (known.direction_of s) (known.system_of s) d) (sym c.in_ok-new-in-BuiltIn.ensures.ok) language)

pub returns-in_ok-new-in-BuiltIn-clause-canonical : goal.returns-in_ok-new-in-BuiltIn-clause-canonical
returns-in_ok-new-in-BuiltIn-clause-canonical c = subst IsCanonical (sym c.in_ok-new-in-BuiltIn.ensures.ok) c.in_ok-canonical-in-BuiltIn.ensures.canonical
