-- Words that are alike to valid parts: this is an equivalence.
use Rattle.std.proofs.Common.{List, sym, ◌∙◌, refl}
use Rattle.digit_tuple.specs.Deterministic.{Automaton}
use Rattle.digit_tuple.specs.Width.{IsEquivalence}
use Rattle.minimise.specs.Tracked.{NamedAutomaton}
use Rattle.validity.specs.ValidParts.{ValidityAlike}

pub IsEquivalence-validity : (a : NamedAutomaton) (languages : List Automaton) → IsEquivalence (ValidityAlike a languages)
IsEquivalence-validity a languages = record {
  reflexive = λ w. record { argument = λ t more. refl; tracks = λ track less t more. refl };
  symmetric = λ w v alike. record { argument = λ t more. sym (alike.argument t more); tracks = λ track less t more. sym (alike.tracks track less t more) };
  transitive = λ u v w one two. record {
    argument = λ t more. one.argument t more ∙ two.argument t more;
    tracks = λ track less t more. one.tracks track less t more ∙ two.tracks track less t more;
  };
}
