-- Automata that accept the paddings of the word of one number.
use Rattle.std.proofs.Common.{◌≡◌, ℕ, List, [], ◌∷◌, refl, ap, sym, ◌∙◌, subst, ◌↔◌, IsTrue, div-one}
use Rattle.digit_tuple.specs.Paddings.{without_zeros, in_order}
use Rattle.digit_tuple.specs.Deterministic.{Automaton, accepts_of}
use Rattle.digit_tuple.specs.declared.direction.Direction.{Direction}
use Rattle.numeration.specs.Words.{rank}
use Rattle.numeration.specs.Systems.{System, IsSystem, IsRepresentation, IsRep}
use Rattle.numeration.specs.Representation.{first_track, Represents}
use Rattle.numeration.specs.Relations.{HoldsOf}
use Rattle.numeration.proofs.PlainLemmas.{plain_is}
use Rattle.numeration.proofs.RankLemmas.{strip_from_rank, valid-without_zeros, rank-without_zeros}

-- the representations of a number are the paddings of its word
pub represented_word : (s : System) (c : ℕ) (r w : List ℕ) → IsSystem s → IsRep s.digits s.test c r → IsRepresentation s w c ↔ (without_zeros w ≡ r)
represented_word s c r w is rep = (there, back)
  where
    there : IsRepresentation s w c → without_zeros w ≡ r
    there representation = strip_from_rank s.digits s.test w r is representation.0 rep.valid (representation.1 ∙ sym rep.ranked) ∙ plain_is r rep.plain

    back : without_zeros w ≡ r → IsRepresentation s w c
    back same = (
      (valid-without_zeros s.digits s.test w is).1 (subst (λ v. IsTrue (s.test v)) (sym same) rep.valid),
      sym (rank-without_zeros s.digits s.test w) ∙ ap (rank s.digits s.test) same ∙ rep.ranked,
    )

-- one track is the whole word
pub one_track : (w : List ℕ) → first_track [] w ≡ w
one_track [] = refl
one_track (a ∷ w) = ap (λ b. b ∷ first_track [] w) (div-one a) ∙ ap (λ v. a ∷ v) (one_track w)

pub constant_holds : (direction : Direction) (s : System) (c : ℕ) (r : List ℕ) (d : Automaton) → IsSystem s → IsRep s.digits s.test c r → d.sizes ≡ s.digits ∷ []
    → ((w : List ℕ) → IsTrue (accepts_of d w) ↔ (without_zeros (in_order direction w) ≡ r)) → HoldsOf direction (s ∷ []) (λ ns. ns ≡ c ∷ []) d
constant_holds direction s c r d is rep sizes accepts = record { sizes = sizes; accepts = λ w over. (there w, back w) }
  where
    there : (w : List ℕ) → IsTrue (accepts_of d w) → (ns : List ℕ) × Represents (s ∷ []) (in_order direction w) ns × (ns ≡ c ∷ [])
    there w accepted =
        let representation : IsRepresentation s (in_order direction w) c = (represented_word s c r (in_order direction w) is rep).1 ((accepts w).0 accepted) in
        (c ∷ [], (subst (λ v. IsRepresentation s v c) (sym (one_track (in_order direction w))) representation, tt), refl)

    back : (w : List ℕ) → ((ns : List ℕ) × Represents (s ∷ []) (in_order direction w) ns × (ns ≡ c ∷ [])) → IsTrue (accepts_of d w)
    back w represented =
        let only : Represents (s ∷ []) (in_order direction w) (c ∷ []) = subst (Represents (s ∷ []) (in_order direction w)) represented.2 represented.1 in
        let representation : IsRepresentation s (in_order direction w) c = subst (λ v. IsRepresentation s v c) (one_track (in_order direction w)) only.0 in
        (accepts w).1 ((represented_word s c r (in_order direction w) is rep).0 representation)
