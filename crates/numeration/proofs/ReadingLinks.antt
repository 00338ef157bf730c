-- Automata that read the tracks at some places, and what a language on each track says.
use Rattle.std.proofs.Common.{◌≡◌, ℕ, ◌<◌, List, length, sym, ◌∙◌, subst, IsTrue}
use Rattle.std.specs.List.{All, Contains}
use Rattle.std.proofs.lemmas.List.{get_or_default}
use Rattle.digit_tuple.specs.Letters.{IsWord}
use Rattle.digit_tuple.specs.Parts.{picked, part}
use Rattle.digit_tuple.specs.Paddings.{in_order}
use Rattle.digit_tuple.specs.Deterministic.{Automaton, accepts_of}
use Rattle.digit_tuple.specs.declared.direction.Direction.{Direction}
use Rattle.numeration.specs.Systems.{System}
use Rattle.numeration.specs.Representation.{sizes_of, letters_in, Represents}
use Rattle.numeration.specs.Relations.{HoldsOf}
use Rattle.numeration.specs.SomeTracks.{system_at, systems_at}
use Rattle.digit_tuple.proofs.PaddingLemmas.{IsWord-in_order}
use Rattle.numeration.proofs.TrackLemmas.{track, tracks_represent, represents_from_tracks}
use Rattle.numeration.proofs.PartRepresentation.{AreValid, ranks, valid_represented, holds_at, valid_at}

module _ (direction : Direction) (ss : List System) (places : List ℕ) (inside : All (λ place. place < length ss) places)
    (P : List ℕ → Type 0) (a : Automaton) (holds : HoldsOf direction (systems_at places ss) P a) where
  -- a track that is read is valid where the part is accepted
  pub valid_read : (w : List ℕ) → IsWord (letters_in ss) w → IsTrue (accepts_of a (part (sizes_of ss) places w))
      → (i : ℕ) → Contains places i → IsTrue ((system_at ss i).test (track ss i (in_order direction w)))
  valid_read w over accepted i found =
      subst (λ (p : ℕ). IsTrue ((system_at ss p).test (track ss p (in_order direction w))))
      (get_or_default places found.0 0 i found.1 ∙ found.2)
      (valid_at ss places inside direction P a holds w over (IsWord-in_order direction (letters_in ss) w over) accepted found.0 found.1)

  -- where each track is read, an automaton that accepts if and only if the part is accepted holds of the numbers there
  pub reading_holds : (e : Automaton) → e.sizes ≡ sizes_of ss → ((i : ℕ) → i < length ss → Contains places i)
      → ((w : List ℕ) → IsWord (letters_in ss) w → accepts_of e w ≡ accepts_of a (part (sizes_of ss) places w))
      → HoldsOf direction ss (λ ns. P (picked places ns)) e
  reading_holds e sizes all says = record { sizes = sizes; accepts = λ w over. (there w over, back w over) }
    where
      there : (w : List ℕ) → IsWord (letters_in ss) w → IsTrue (accepts_of e w) → (ns : List ℕ) × Represents ss (in_order direction w) ns × P (picked places ns)
      there w over accepted =
          let read : IsTrue (accepts_of a (part (sizes_of ss) places w)) = sym (says w over) ∙ accepted in
          let valid : AreValid ss (in_order direction w) = λ i within. valid_read w over read i (all i within) in
          let represented = valid_represented ss (in_order direction w) valid in (
            ranks ss (in_order direction w),
            represents_from_tracks ss (in_order direction w) (ranks ss (in_order direction w)) represented,
            (holds_at ss places inside direction P a holds w (ranks ss (in_order direction w)) over (IsWord-in_order direction (letters_in ss) w over) represented).0 read,
          )

      back : (w : List ℕ) → IsWord (letters_in ss) w → (ns : List ℕ) × Represents ss (in_order direction w) ns × P (picked places ns) → IsTrue (accepts_of e w)
      back w over found =
          let represented = tracks_represent ss (in_order direction w) found.0 found.1 in
          says w over ∙ (holds_at ss places inside direction P a holds w found.0 over (IsWord-in_order direction (letters_in ss) w over) represented).1 found.2
