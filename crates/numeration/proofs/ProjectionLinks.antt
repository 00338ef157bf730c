-- Projections of automata that hold of relations hold of the numbers that some numbers complete.
use Rattle.std.proofs.Common.{◌≡◌, ℕ, ◌<◌, List, ◌++◌, reverse, length, refl, ap, sym, ◌∙◌, subst, arith, ◌↔◌, IsTrue}
use Rattle.std.specs.List.{All}
use Rattle.std.proofs.lemmas.List.{reverse-append}
use Rattle.digit_tuple.specs.Letters.{product, IsWord}
use Rattle.digit_tuple.specs.Parts.{picked, letter_part, part}
use Rattle.digit_tuple.specs.Paddings.{zeros, in_order, padded}
use Rattle.digit_tuple.specs.Deterministic.{Automaton, accepts_of}
use Rattle.digit_tuple.specs.declared.direction.Direction.{Direction}
use Rattle.digit_tuple.specs.declared.direction.Direction.TheVariants.{Msd, Lsd}
use Rattle.digit_tuple.proofs.PartLemmas.{length-part}
use Rattle.numeration.specs.Systems.{System, AreSystems}
use Rattle.numeration.specs.Representation.{sizes_of, letters_in, Represents}
use Rattle.numeration.specs.Relations.{HoldsOf}
use Rattle.numeration.specs.SomeTracks.{systems_at, completed}
use Rattle.digit_tuple.proofs.PaddingLemmas.{in_order-map, reverse-zeros}
use Rattle.digit_tuple.proofs.PaddingLemmas.{length-zeros, IsWord-zeros_before, IsWord-in_order, in_order-twice}
use Rattle.numeration.proofs.RepresentLemmas.{letters_positive, represents-apart, represents-pad, representation}
use Rattle.numeration.proofs.TrackLemmas.{tracks_represent, represents_from_tracks}
use Rattle.numeration.proofs.PartRepresentation.{sizes_at, IsWord-at, AreSystems-picked, represented_at}

-- zeros at the end of the most significant letters are leading zeros
pub in_order-padded : (direction : Direction) (k : ℕ) (w : List ℕ) → in_order direction (padded direction k w) ≡ zeros k ++ in_order direction w
in_order-padded Msd k w = refl
in_order-padded Lsd k w = reverse-append w (zeros k) ∙ ap (λ v. v ++ reverse w) (reverse-zeros k)

padded-in_order : (direction : Direction) (k : ℕ) (w v : List ℕ) → v ≡ zeros k ++ in_order direction w → in_order direction v ≡ padded direction k w
padded-in_order direction k w v same = ap (in_order direction) (same ∙ sym (in_order-padded direction k w)) ∙ in_order-twice direction (padded direction k w)

-- an automaton that holds of a relation, and some of its tracks
module _ (direction : Direction) (ss : List System) (are : AreSystems ss) (places : List ℕ) (inside : All (λ place. place < length ss) places)
    (P : List ℕ → Type 0) (d : Automaton) (holds : HoldsOf direction ss P d) where
  -- a word that some word over all tracks, accepted by the automaton, has as its part there, zeros put on
  abbrev pub IsImage : List ℕ → Type 0
  IsImage w = (k : ℕ) × ((x : List ℕ) × IsWord (letters_in ss) x × (part (sizes_of ss) places x ≡ padded direction k w) × IsTrue (accepts_of d x))

  abbrev part_of : List ℕ → List ℕ
  part_of x = part (sizes_of ss) places x

  abbrev kept : List System
  kept = systems_at places ss

  in_order-part : (x : List ℕ) → in_order direction (part_of x) ≡ part_of (in_order direction x)
  in_order-part x = in_order-map direction (letter_part (sizes_of ss) places) x

  -- the part of a representation, with its leading zeros, represents the numbers there
  represents_part : (x ns : List ℕ) → IsWord (letters_in ss) x → Represents ss x ns → Represents kept (part_of x) (picked places ns)
  represents_part x ns over represented =
      represents_from_tracks kept (part_of x) (picked places ns) (represented_at ss places inside x ns over (tracks_represent ss x ns represented))

  pub completed_from : (w : List ℕ) → IsImage w → (ms : List ℕ) × Represents kept (in_order direction w) ms × completed ss places P ms
  completed_from w found =
      let k = found.0 in
      let x = found.1.0 in
      let over : IsWord (letters_in ss) x = found.1.1 in
      let there = (holds.accepts x over).0 found.1.3 in
      let ns : List ℕ = there.0 in
      let turned : IsWord (letters_in ss) (in_order direction x) = IsWord-in_order direction (letters_in ss) x over in
      let same : part_of (in_order direction x) ≡ zeros k ++ in_order direction w = sym (in_order-part x) ∙ ap (in_order direction) found.1.2 ∙ in_order-padded direction k w in
      let represented : Represents kept (zeros k ++ in_order direction w) (picked places ns) = subst (λ (v : List ℕ). Represents kept v (picked places ns)) same (represents_part (in_order direction x) ns turned there.1) in (
        picked places ns,
        (represents-pad kept k (in_order direction w) (picked places ns) (AreSystems-picked ss places inside are)).0 represented,
        (ns, (tracks_represent ss (in_order direction x) ns there.1).count, refl, there.2),
      )

  pub image_from : (w ms : List ℕ) → IsWord (letters_in kept) w → Represents kept (in_order direction w) ms → completed ss places P ms → IsImage w
  image_from w ms over represented all =
      let ns = all.0 in
      let found = representation ss ns are all.1 in
      let z = found.0 in
      let u : List ℕ = in_order direction w in
      let m = length u in
      let k = length z in
      let those : AreSystems kept = AreSystems-picked ss places inside are in
      let full : IsWord (letters_in ss) (zeros m ++ z) = IsWord-zeros_before (letters_in ss) m z (letters_positive ss are) found.1 in
      let represents_all : Represents ss (zeros m ++ z) ns = (represents-pad ss m z ns are).1 found.2 in
      let first : Represents kept (part_of (zeros m ++ z)) ms = subst (λ (xs : List ℕ). Represents kept (part_of (zeros m ++ z)) xs) all.2 (represents_part (zeros m ++ z) ns full represents_all) in
      let second : Represents kept (zeros k ++ u) ms = (represents-pad kept k u ms those).1 represented in
      let long : length (part_of (zeros m ++ z)) ≡ length (zeros k ++ u) =
      omega (arith, length-part (sizes_of ss) places (zeros m ++ z), length-zeros m z, length-zeros k u) in
      let over_u : IsWord (letters_in kept) (zeros k ++ u) = IsWord-zeros_before (letters_in kept) k u (letters_positive kept those) (IsWord-in_order direction (letters_in kept) w over) in
      let same : part_of (zeros m ++ z) ≡ zeros k ++ u =
      represents-apart kept (part_of (zeros m ++ z)) (zeros k ++ u) ms those (IsWord-at ss places inside (zeros m ++ z) full) over_u long first second in
      let x : List ℕ = in_order direction (zeros m ++ z) in
      let part_is : part_of x ≡ padded direction k w = sym (in_order-part (zeros m ++ z)) ∙ padded-in_order direction k w (part_of (zeros m ++ z)) same in
      let over_x : IsWord (letters_in ss) x = IsWord-in_order direction (letters_in ss) (zeros m ++ z) full in
      let back : Represents ss (in_order direction x) ns = subst (λ (v : List ℕ). Represents ss v ns) (sym (in_order-twice direction (zeros m ++ z))) represents_all in
      (k, (x, over_x, part_is, (holds.accepts x over_x).1 (ns, back, all.3)))

  -- so an automaton that accepts these words holds of the numbers that some numbers complete
  pub projection_holds : (e : Automaton) → e.sizes ≡ picked places (sizes_of ss)
      → ((w : List ℕ) → IsWord (product (picked places (sizes_of ss))) w → IsTrue (accepts_of e w) ↔ IsImage w)
      → HoldsOf direction kept (completed ss places P) e
  projection_holds e sizes accepts = record {
    sizes = sizes ∙ sym (sizes_at ss places inside);
    accepts = λ w over.
        let says = accepts w (subst (λ (ns : List ℕ). IsWord (product ns) w) (sizes_at ss places inside) over) in (
          λ accepted. completed_from w (says.0 accepted),
          λ found. says.1 (image_from w found.0 over found.1 found.2),
        );
  }
