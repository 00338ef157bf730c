-- Over no tracks the direction makes no difference.
use Rattle.std.proofs.Common.{◌≡◌, ℕ, List, [], ◌∷◌, sym, subst, IsTrue}
use Rattle.std.specs.List.{AllByRecursion}
use Rattle.digit_tuple.specs.Letters.{IsWord}
use Rattle.digit_tuple.specs.Paddings.{in_order}
use Rattle.digit_tuple.specs.Deterministic.{Automaton, accepts_of}
use Rattle.digit_tuple.specs.declared.direction.Direction.{Direction}
use Rattle.digit_tuple.specs.declared.direction.Direction.TheVariants.{Msd}
use Rattle.numeration.specs.Representation.{Represents, letters_in}
use Rattle.numeration.specs.Relations.{HoldsOf}
use Rattle.num_system.specs.Sealed.{SystemValue}
use Rattle.num_system.specs.Tracks.{direction_of, systems_of}

-- over no tracks each word represents what any word represents
no_tracks : (v w ns : List ℕ) → Represents [] v ns → Represents [] w ns
no_tracks v w [] represented = tt
no_tracks v w (n ∷ ns) represented = absurd represented

-- so an automaton that holds of a relation in one direction holds of it in each
either_way : (v w : Direction) (P : List ℕ → Type 0) (d : Automaton) → HoldsOf v [] P d → HoldsOf w [] P d
either_way v w P d holds = record { sizes = holds.sizes; accepts = λ u over. (there u over, back u over) }
  where
    there : (u : List ℕ) → IsWord (letters_in []) u → IsTrue (accepts_of d u) → (ns : List ℕ) × Represents [] (in_order w u) ns × P ns
    there u over accepted =
        let found = (holds.accepts u over).0 accepted in
        (found.0, no_tracks (in_order v u) (in_order w u) found.0 found.1, found.2)

    back : (u : List ℕ) → IsWord (letters_in []) u → (ns : List ℕ) × Represents [] (in_order w u) ns × P ns → IsTrue (accepts_of d u)
    back u over (ns, represented, p) = (holds.accepts u over).1 (ns, no_tracks (in_order w u) (in_order v u) ns represented, p)

-- where all tracks have this direction, theirs is this one or there is no track
pub direction_to : (w : Direction) (systems : List SystemValue) (P : List ℕ → Type 0) (d : Automaton) → AllByRecursion (λ (s : SystemValue). s.direction ≡ w) systems
    → HoldsOf (direction_of systems) (systems_of systems) P d → HoldsOf w (systems_of systems) P d
direction_to w [] P d directions holds = either_way Msd w P d holds
direction_to w (s ∷ systems) P d directions holds = subst (λ direction. HoldsOf direction (systems_of (s ∷ systems)) P d) directions.0 holds

pub direction_from : (w : Direction) (systems : List SystemValue) (P : List ℕ → Type 0) (d : Automaton) → AllByRecursion (λ (s : SystemValue). s.direction ≡ w) systems
    → HoldsOf w (systems_of systems) P d → HoldsOf (direction_of systems) (systems_of systems) P d
direction_from w [] P d directions holds = either_way w Msd P d holds
direction_from w (s ∷ systems) P d directions holds = subst (λ direction. HoldsOf direction (systems_of (s ∷ systems)) P d) (sym directions.0) holds
