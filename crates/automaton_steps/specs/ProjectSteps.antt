-- The step that drops a track: some value of it.
use Rattle.std.specs.Prelude.{◌≡◌, ◌↔◌, ℕ, List, IsTrue}
use Rattle.digit_tuple.specs.Deterministic.{accepts_of}
use Rattle.digit_tuple.specs.Letters.{product, IsWord}
use Rattle.digit_tuple.specs.Names.{names_without}
use Rattle.digit_tuple.specs.declared.direction.Direction.{Direction}
use Rattle.digit_tuple.specs.declared.kind.Kind.TheVariants as kinds
use Rattle.minimise.specs.Canonical.{IsCanonical}
use Rattle.minimise.specs.Tracked.{NamedAutomaton}
use Rattle.pad_rename.specs.StayingTracks.{staying_places, staying_sizes}
use Rattle.project_close.specs.Projection.{InProjection, ProjectionAlike}
use Rattle.automaton_steps.specs.Makings.{Making}

-- the canonical automaton, on the other tracks, that accepts the words which are in the projection
pub record IsProjection (direction : Direction) (track : List ℕ) (argument projected : NamedAutomaton) : Type 0 where
  pub names : projected.names ≡ names_without argument.names track
  pub sizes : projected.automaton.sizes ≡ staying_sizes argument track
  pub canonical : IsCanonical projected.automaton
  pub language : (w : List ℕ) → IsWord (product (staying_sizes argument track)) w
      → IsTrue (accepts_of projected.automaton w) ↔ InProjection argument.automaton (staying_places argument track) direction w

-- The step: words are alike that have the same set of residuals. It may have too many letters where the dropped track has no digit.
abbrev pub project_step : Direction → List ℕ → NamedAutomaton → Making NamedAutomaton
project_step direction track argument = record {
  step = record {
    kind = kinds.Project;
    sizes = staying_sizes argument track;
    alike = ProjectionAlike argument.automaton (staying_places argument track) direction;
  };
  automaton_of = λ projected. projected.automaton;
  IsMade = IsProjection direction track argument;
}
