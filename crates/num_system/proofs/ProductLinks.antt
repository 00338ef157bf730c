-- Products of automata that hold of relations hold of the joined relation.
use Rattle.std.proofs.Common.{◌≡◌, ℕ, ◌<◌, Bool, true, false, List, length, inl, inr, refl, sym, ◌∙◌, ◌↔◌, IsTrue}
use Rattle.std.specs.List.{All}
use Rattle.std.proofs.lemmas.Bool.{false≢true}
use Rattle.digit_tuple.specs.Letters.{IsWord}
use Rattle.digit_tuple.specs.Parts.{picked, part}
use Rattle.digit_tuple.specs.Paddings.{in_order}
use Rattle.digit_tuple.specs.Deterministic.{Automaton, accepts_of}
use Rattle.digit_tuple.specs.declared.direction.Direction.{Direction}
use Rattle.product_op.specs.declared.op.Op.{Op}
use Rattle.product_op.specs.declared.op.Op.TheVariants.{And, AndNot, Or, Xor, Implies, Iff}
use Rattle.product_op.specs.Connectives.{connective}
use Rattle.numeration.specs.Systems.{System}
use Rattle.numeration.specs.Representation.{sizes_of, letters_in, Represents}
use Rattle.numeration.specs.Relations.{HoldsOf}
use Rattle.numeration.specs.SomeTracks.{systems_at}
use Rattle.num_system.specs.Joined.{Joined, joined}
use Rattle.digit_tuple.proofs.PaddingLemmas.{IsWord-in_order}
use Rattle.numeration.proofs.TrackLemmas.{AreRepresentations, tracks_represent, represents_from_tracks}
use Rattle.numeration.proofs.PartRepresentation.{AreValid, ranks, valid_represented, represented_valid, holds_at}

-- the connective of two truth values determines the connective of what they say
pub connective_decides : (op : Op) (b c : Bool) (P Q : Type 0) → IsTrue b ↔ P → IsTrue c ↔ Q → IsTrue (connective op b c) ↔ Joined op P Q
connective_decides And true true P Q p q = (λ yes. (p.0 refl, q.0 refl), λ both. refl)
connective_decides And true false P Q p q = (λ yes. absurd (false≢true yes), λ both. q.1 both.1)
connective_decides And false true P Q p q = (λ yes. absurd (false≢true yes), λ both. p.1 both.0)
connective_decides And false false P Q p q = (λ yes. absurd (false≢true yes), λ both. p.1 both.0)
connective_decides AndNot true true P Q p q = (λ yes. absurd (false≢true yes), λ both. absurd (both.1 (q.0 refl)))
connective_decides AndNot true false P Q p q = (λ yes. (p.0 refl, λ y. false≢true (q.1 y)), λ both. refl)
connective_decides AndNot false true P Q p q = (λ yes. absurd (false≢true yes), λ both. p.1 both.0)
connective_decides AndNot false false P Q p q = (λ yes. absurd (false≢true yes), λ both. p.1 both.0)
connective_decides Or true true P Q p q = (λ yes. inl (p.0 refl), λ one. refl)
connective_decides Or true false P Q p q = (λ yes. inl (p.0 refl), λ one. refl)
connective_decides Or false true P Q p q = (λ yes. inr (q.0 refl), λ one. refl)
connective_decides Or false false P Q p q = (λ yes. absurd (false≢true yes), λ one. elim one [ inl x ↦ p.1 x | inr y ↦ q.1 y ])
connective_decides Xor true true P Q p q = (λ yes. absurd (false≢true yes), λ one. elim one [ inl x ↦ absurd (x.1 (q.0 refl)) | inr y ↦ absurd (y.0 (p.0 refl)) ])
connective_decides Xor true false P Q p q = (λ yes. inl (p.0 refl, λ y. false≢true (q.1 y)), λ one. refl)
connective_decides Xor false true P Q p q = (λ yes. inr (λ x. false≢true (p.1 x), q.0 refl), λ one. refl)
connective_decides Xor false false P Q p q = (λ yes. absurd (false≢true yes), λ one. elim one [ inl x ↦ p.1 x.0 | inr y ↦ q.1 y.1 ])
connective_decides Implies true true P Q p q = (λ yes x. q.0 refl, λ f. refl)
connective_decides Implies true false P Q p q = (λ yes. absurd (false≢true yes), λ f. q.1 (f (p.0 refl)))
connective_decides Implies false true P Q p q = (λ yes x. q.0 refl, λ f. refl)
connective_decides Implies false false P Q p q = (λ yes x. absurd (false≢true (p.1 x)), λ f. refl)
connective_decides Iff true true P Q p q = (λ yes. (λ x. q.0 refl, λ y. p.0 refl), λ f. refl)
connective_decides Iff true false P Q p q = (λ yes. absurd (false≢true yes), λ f. q.1 (f.0 (p.0 refl)))
connective_decides Iff false true P Q p q = (λ yes. absurd (false≢true yes), λ f. p.1 (f.1 (q.0 refl)))
connective_decides Iff false false P Q p q = (λ yes. (λ x. absurd (false≢true (p.1 x)), λ y. absurd (false≢true (q.1 y))), λ f. refl)

-- an automaton on all tracks, two that hold of relations on those at ps and at qs, and a connective
module _ (direction : Direction) (ss : List System) (op : Op) (ps qs : List ℕ) (P Q : List ℕ → Type 0) (a b c : Automaton)
    (first : All (λ place. place < length ss) ps) (second : All (λ place. place < length ss) qs)
    (holds_a : HoldsOf direction (systems_at ps ss) P a) (holds_b : HoldsOf direction (systems_at qs ss) Q b) where
  -- what the connective says of the parts of a word
  abbrev pub parts_say : List ℕ → Bool
  parts_say w = connective op (accepts_of a (part (sizes_of ss) ps w)) (accepts_of b (part (sizes_of ss) qs w))

  -- on valid words it says what it says of the numbers
  pub parts_decide : (w ns : List ℕ) → IsWord (letters_in ss) w → (represented : AreRepresentations ss (in_order direction w) ns) → IsTrue (parts_say w) ↔ joined op ps P qs Q ns
  parts_decide w ns over are =
      let turned = IsWord-in_order direction (letters_in ss) w over in
      connective_decides op (accepts_of a (part (sizes_of ss) ps w)) (accepts_of b (part (sizes_of ss) qs w)) (P (picked ps ns)) (Q (picked qs ns))
      (holds_at ss ps first direction P a holds_a w ns over turned are) (holds_at ss qs second direction Q b holds_b w ns over turned are)

  -- so an automaton that accepts the valid words of which the connective says so holds of the joined relation
  pub product_holds : c.sizes ≡ sizes_of ss
      → ((w : List ℕ) → IsWord (letters_in ss) w → IsTrue (accepts_of c w) → AreValid ss (in_order direction w))
      → ((w : List ℕ) → IsWord (letters_in ss) w → AreValid ss (in_order direction w) → accepts_of c w ≡ parts_say w)
      → HoldsOf direction ss (joined op ps P qs Q) c
  product_holds sizes valid says = record { sizes = sizes; accepts = λ w over. (there w over, back w over) }
    where
      there : (w : List ℕ) → IsWord (letters_in ss) w → IsTrue (accepts_of c w) → (ns : List ℕ) × Represents ss (in_order direction w) ns × joined op ps P qs Q ns
      there w over accepted =
          let is_valid = valid w over accepted in
          let tracks = valid_represented ss (in_order direction w) is_valid in (
            ranks ss (in_order direction w),
            represents_from_tracks ss (in_order direction w) (ranks ss (in_order direction w)) tracks,
            (parts_decide w (ranks ss (in_order direction w)) over tracks).0 (sym (says w over is_valid) ∙ accepted),
          )

      back : (w : List ℕ) → IsWord (letters_in ss) w → (ns : List ℕ) × Represents ss (in_order direction w) ns × joined op ps P qs Q ns → IsTrue (accepts_of c w)
      back w over found =
          let tracks = tracks_represent ss (in_order direction w) found.0 found.1 in
          says w over (represented_valid ss (in_order direction w) found.0 tracks) ∙ (parts_decide w found.0 over tracks).1 found.2
