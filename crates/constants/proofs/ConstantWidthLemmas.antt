-- A number has one width, which its canonical automaton does not pass.
use Rattle.std.proofs.Common.{◌≡◌, ℕ, ◌≤◌, List, [], ◌∷◌, ◌++◌, refl, ap, sym, ◌∙◌, subst, ◌↔◌, IsTrue, mul-one}
use Rattle.digit_tuple.specs.Deterministic.{Automaton, letters_of, states_of, accepts_of}
use Rattle.digit_tuple.specs.Letters.{IsWord, product}
use Rattle.digit_tuple.specs.Paddings.{in_order}
use Rattle.digit_tuple.specs.Width.{HasApart, HasWidth}
use Rattle.digit_tuple.specs.declared.direction.Direction.{Direction}
use Rattle.digit_tuple.proofs.WidthLemmas.{HasApart-within, HasWidth-unique, HasWidth-excludes}
use Rattle.digit_tuple.proofs.WordLemmas.{IsWord-append}
use Rattle.digit_tuple.proofs.TruthLemmas.{same_tests}
use Rattle.minimise.specs.Canonical.{IsCanonical}
use Rattle.minimise.proofs.ApartLemmas.{canonical_apart}
use Rattle.numeration.specs.Systems.{System, IsRepresentation}
use Rattle.numeration.specs.Representation.{Represents}
use Rattle.numeration.proofs.ConstantLemmas.{one_track}
use Rattle.constants.specs.Constants.{IsConstantOf, ConstantAlike}
use Rattle.constants.specs.ConstantWidth.{ConstantAlikeIsEquivalence, OneConstantWidth, ConstantWidthExcludes}

pub IsEquivalence-constant : ConstantAlikeIsEquivalence
IsEquivalence-constant direction s n = record {
  reflexive = λ w u over. ((λ is. is), (λ is. is));
  symmetric = λ w v one u over. let both = one u over in (both.1, both.0);
  transitive = λ u v w one two x over. let first = one x over in let second = two x over in ((λ is. second.0 (first.0 is)), (λ is. first.1 (second.1 is)));
}

pub one_constant_width : OneConstantWidth
one_constant_width direction s n = HasWidth-unique (ConstantAlike direction s n) s.digits (IsEquivalence-constant direction s n)

pub constant_width_excludes : ConstantWidthExcludes
constant_width_excludes direction s n = HasWidth-excludes (ConstantAlike direction s n) s.digits (IsEquivalence-constant direction s n)

module _ (direction : Direction) (s : System) (n : ℕ) (d : Automaton) (holds : IsConstantOf direction s n d) where
  letters_are : letters_of d ≡ s.digits
  letters_are = ap product holds.sizes ∙ mul-one s.digits

  -- a word is accepted if and only if it represents the number
  accepts_representations : (w : List ℕ) → IsWord (letters_of d) w → IsTrue (accepts_of d w) ↔ IsRepresentation s (in_order direction w) n
  accepts_representations w over = (there, back)
    where
      both : IsTrue (accepts_of d w) ↔ ((ns : List ℕ) × Represents (s ∷ []) (in_order direction w) ns × (ns ≡ n ∷ []))
      both = holds.accepts w (subst (λ (ns : List ℕ). IsWord (product ns) w) holds.sizes over)

      there : IsTrue (accepts_of d w) → IsRepresentation s (in_order direction w) n
      there accepted =
          let found = both.0 accepted in
          let represented : Represents (s ∷ []) (in_order direction w) (n ∷ []) = subst (Represents (s ∷ []) (in_order direction w)) found.2 found.1 in
          subst (λ (v : List ℕ). IsRepresentation s v n) (one_track (in_order direction w)) represented.0

      back : IsRepresentation s (in_order direction w) n → IsTrue (accepts_of d w)
      back representation = both.1 (n ∷ [], (subst (λ (v : List ℕ). IsRepresentation s v n) (sym (one_track (in_order direction w))) representation, tt), refl)

  -- words that are alike are both accepted or both refused
  accepts_alike : (w v u : List ℕ) → IsWord (letters_of d) w → IsWord (letters_of d) v → IsWord (letters_of d) u → ConstantAlike direction s n w v → accepts_of d (w ++ u) ≡ accepts_of d (v ++ u)
  accepts_alike w v u one two more alike =
      let first = accepts_representations (w ++ u) (IsWord-append (letters_of d) w u one more) in
      let second = accepts_representations (v ++ u) (IsWord-append (letters_of d) v u two more) in
      let middle = alike u (subst (λ m. IsWord m u) letters_are more) in
      same_tests (accepts_of d (w ++ u)) (accepts_of d (v ++ u)) (λ a. second.1 (middle.0 (first.0 a)), λ a. first.1 (middle.1 (second.0 a)))

  -- so a canonical automaton of the number has no more states than the width
  pub constant_size : (k : ℕ) → IsCanonical d → HasWidth (ConstantAlike direction s n) s.digits k → states_of d ≤ k
  constant_size k canonical width =
      HasApart-within (ConstantAlike direction s n) s.digits (IsEquivalence-constant direction s n) (states_of d) k
      (subst (λ m. HasApart (ConstantAlike direction s n) m (states_of d)) letters_are (canonical_apart d canonical (ConstantAlike direction s n) accepts_alike)) width
