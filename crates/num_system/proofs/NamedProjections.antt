-- Projections of automata with named tracks hold of what some number completes.
use Rattle.std.proofs.Common.{◌≡◌, ℕ, ◌<◌, List, length, ap, sym, ◌∙◌, subst, IsTrue}
use Rattle.std.specs.List.{All}
use Rattle.digit_tuple.specs.Letters.{product, IsWord}
use Rattle.digit_tuple.specs.Names.{names_without}
use Rattle.digit_tuple.specs.Parts.{picked, part}
use Rattle.digit_tuple.specs.Paddings.{padded}
use Rattle.digit_tuple.specs.Deterministic.{accepts_of}
use Rattle.digit_tuple.specs.declared.direction.Direction.{Direction}
use Rattle.digit_tuple.proofs.NameLemmas.{places_of-within}
use Rattle.minimise.specs.Tracked.{NamedAutomaton}
use Rattle.pad_rename.specs.StayingTracks.{staying_places}
use Rattle.project_close.proofs.ProjectionLemmas.{names_without-there}
use Rattle.numeration.specs.Systems.{System, AreSystems}
use Rattle.numeration.specs.Relations.{HoldsOf}
use Rattle.numeration.specs.SomeTracks.{systems_at, completed}
use Rattle.numeration.proofs.ProjectionLinks.{projection_holds}
use Rattle.num_system.specs.Operations.{IsProjection}

module _ (direction : Direction) (ss : List System) (are : AreSystems ss) (a : NamedAutomaton) (track : List ℕ) (count : length a.names ≡ length ss)
    (P : List ℕ → Type 0) (holds : HoldsOf direction ss P a.automaton) where
  abbrev places : List ℕ
  places = staying_places a track

  within : All (λ place. place < length ss) places
  within = subst (λ n. All (λ place. place < n) places) count (places_of-within a.names (names_without a.names track) (names_without-there a.names track))

  -- the words whose image the projection accepts, over tracks of these sizes
  abbrev ImageOver : List ℕ → List ℕ → Type 0
  ImageOver sizes w = (k : ℕ) × ((x : List ℕ) × IsWord (product sizes) x × (part sizes places x ≡ padded direction k w) × IsTrue (accepts_of a.automaton x))

  pub named_projection_holds : (c : NamedAutomaton) → IsProjection direction a track c → HoldsOf direction (systems_at places ss) (completed ss places P) c.automaton
  named_projection_holds c made =
      projection_holds direction ss are places within P a.automaton holds c.automaton
      (made.sizes ∙ ap (λ (ns : List ℕ). picked places ns) holds.sizes)
      (λ w over.
      let says = made.language w (subst (λ (ns : List ℕ). IsWord (product (picked places ns)) w) (sym holds.sizes) over) in (
        λ accepted. subst (λ (ns : List ℕ). ImageOver ns w) holds.sizes (says.0 accepted),
        λ image. says.1 (subst (λ (ns : List ℕ). ImageOver ns w) (sym holds.sizes) image),
      ))
