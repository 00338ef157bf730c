-- What complements and valid parts hold of.
use Rattle.std.proofs.Common.{◌≡◌, ℕ, Bool, true, false, not, ◌&&◌, List, refl, sym, ap, ◌∙◌, subst, IsTrue}
use Rattle.std.proofs.lemmas.Bool.{and_parts, and_from, false≢true}
use Rattle.digit_tuple.specs.Letters.{product, IsWord}
use Rattle.digit_tuple.specs.Paddings.{in_order, without_zeros}
use Rattle.digit_tuple.specs.Deterministic.{Automaton, letters_of, accepts_of}
use Rattle.digit_tuple.specs.declared.direction.Direction.{Direction}
use Rattle.digit_tuple.proofs.PaddingLemmas.{IsWord-in_order}
use Rattle.minimise.specs.Tracked.{NamedAutomaton}
use Rattle.product_op.specs.Validity.{is_valid}
use Rattle.validity.specs.ValidParts.{in_complement, in_valid_part}
use Rattle.numeration.specs.Systems.{System, AreSystems}
use Rattle.numeration.specs.Representation.{sizes_of, letters_in, Represents}
use Rattle.numeration.specs.Relations.{HoldsOf}
use Rattle.numeration.proofs.RepresentLemmas.{representations}
use Rattle.num_system.specs.Joined.{AreLanguagesOf}
use Rattle.num_system.specs.Representations.{HasRepresentation, IgnoresZeros}
use Rattle.num_system.proofs.ValidWords.{represented_from, represented_to}
use Rattle.num_system.proofs.HoldLemmas.{one_tuple}

module _ (direction : Direction) (ss : List System) (languages : List Automaton) (are : AreLanguagesOf direction ss languages)
    (a : NamedAutomaton) (c : Automaton) (same : c.sizes ≡ a.automaton.sizes) where
  over_argument : a.automaton.sizes ≡ sizes_of ss → (w : List ℕ) → IsWord (letters_in ss) w → IsWord (letters_of a.automaton) w
  over_argument sizes w over = subst (λ (ns : List ℕ). IsWord (product ns) w) (sym sizes) over

  -- the complement of an automaton that holds of a relation holds of all other tuples
  module _ (P : List ℕ → Type 0) (holds : HoldsOf direction ss P a.automaton) (says : (w : List ℕ) → IsWord (letters_of a.automaton) w → accepts_of c w ≡ in_complement a languages w) where
    complement_says : (w : List ℕ) → IsWord (letters_in ss) w → accepts_of c w ≡ (not (accepts_of a.automaton w) && is_valid (sizes_of ss) languages w)
    complement_says w over =
        says w (over_argument holds.sizes w over) ∙ ap (λ (ns : List ℕ). not (accepts_of a.automaton w) && is_valid ns languages w) holds.sizes

    refused : (w ns : List ℕ) → IsWord (letters_in ss) w → Represents ss (in_order direction w) ns → not (accepts_of a.automaton w) ≡ true → ¬ P ns
    refused w ns over represented none p =
        let accepted : accepts_of a.automaton w ≡ true = (holds.accepts w over).1 (ns, represented, p) in
        false≢true (sym (ap not accepted) ∙ none)

    not_accepted : (w ns : List ℕ) → IsWord (letters_in ss) w → Represents ss (in_order direction w) ns → ¬ P ns → (b : Bool) → accepts_of a.automaton w ≡ b → not b ≡ true
    not_accepted w ns over represented fails false is = refl
    not_accepted w ns over represented fails true is =
        let found = (holds.accepts w over).0 is in
        absurd (fails (subst P (one_tuple ss (in_order direction w) found.0 ns found.1 represented) found.2))

    pub complement_holds : HoldsOf direction ss (λ ns. ¬ P ns) c
    complement_holds = record { sizes = same ∙ holds.sizes; accepts = λ w over. (there w over, back w over) }
      where
        there : (w : List ℕ) → IsWord (letters_in ss) w → IsTrue (accepts_of c w) → (ns : List ℕ) × Represents ss (in_order direction w) ns × (P ns → ⊥)
        there w over accepted =
            let both = and_parts (not (accepts_of a.automaton w)) (is_valid (sizes_of ss) languages w) (sym (complement_says w over) ∙ accepted) in
            let found = represented_from direction ss languages are w both.1 in
            (found.0, found.1, refused w found.0 over found.1 both.0)

        back : (w : List ℕ) → IsWord (letters_in ss) w → (ns : List ℕ) × Represents ss (in_order direction w) ns × (P ns → ⊥) → IsTrue (accepts_of c w)
        back w over (ns, represented, fails) =
            complement_says w over
            ∙ and_from (not (accepts_of a.automaton w)) (is_valid (sizes_of ss) languages w)
            (not_accepted w ns over represented fails (accepts_of a.automaton w) refl) (represented_to direction ss languages are w ns represented)

  module _ (says : (w : List ℕ) → IsWord (letters_of a.automaton) w → accepts_of c w ≡ in_valid_part a languages w) where
    valid_says : a.automaton.sizes ≡ sizes_of ss → (w : List ℕ) → IsWord (letters_in ss) w → accepts_of c w ≡ (accepts_of a.automaton w && is_valid (sizes_of ss) languages w)
    valid_says sizes w over =
        says w (over_argument sizes w over) ∙ ap (λ (ns : List ℕ). accepts_of a.automaton w && is_valid ns languages w) sizes

    -- the valid part of an automaton that holds of a relation holds of it
    pub valid_part_holds : (P : List ℕ → Type 0) → HoldsOf direction ss P a.automaton → HoldsOf direction ss P c
    valid_part_holds P holds = record { sizes = same ∙ holds.sizes; accepts = λ w over. (there w over, back w over) }
      where
        there : (w : List ℕ) → IsWord (letters_in ss) w → IsTrue (accepts_of c w) → (ns : List ℕ) × Represents ss (in_order direction w) ns × P ns
        there w over accepted =
            (holds.accepts w over).0 (and_parts (accepts_of a.automaton w) (is_valid (sizes_of ss) languages w) (sym (valid_says holds.sizes w over) ∙ accepted)).0

        back : (w : List ℕ) → IsWord (letters_in ss) w → (ns : List ℕ) × Represents ss (in_order direction w) ns × P ns → IsTrue (accepts_of c w)
        back w over (ns, represented, p) =
            valid_says holds.sizes w over
            ∙ and_from (accepts_of a.automaton w) (is_valid (sizes_of ss) languages w) ((holds.accepts w over).1 (ns, represented, p)) (represented_to direction ss languages are w ns represented)

    -- the valid part of an automaton for which leading zeros change nothing holds of the tuples of which it accepts a representation
    pub valid_part_represents : AreSystems ss → a.automaton.sizes ≡ sizes_of ss → IgnoresZeros direction a.automaton → HoldsOf direction ss (HasRepresentation direction ss a.automaton) c
    valid_part_represents systems sizes ignores = record { sizes = same ∙ sizes; accepts = λ w over. (there w over, back w over) }
      where
        there : (w : List ℕ) → IsWord (letters_in ss) w → IsTrue (accepts_of c w) → (ns : List ℕ) × Represents ss (in_order direction w) ns × HasRepresentation direction ss a.automaton ns
        there w over accepted =
            let both = and_parts (accepts_of a.automaton w) (is_valid (sizes_of ss) languages w) (sym (valid_says sizes w over) ∙ accepted) in
            let found = represented_from direction ss languages are w both.1 in
            (found.0, found.1, (w, over, found.1, both.0))

        back : (w : List ℕ) → IsWord (letters_in ss) w → (ns : List ℕ) × Represents ss (in_order direction w) ns × HasRepresentation direction ss a.automaton ns → IsTrue (accepts_of c w)
        back w over (ns, represented, (v, inside, also, accepted)) =
            let alike : without_zeros (in_order direction v) ≡ without_zeros (in_order direction w) =
            (representations ss (in_order direction w) (in_order direction v) ns systems (IsWord-in_order direction (letters_in ss) w over) (IsWord-in_order direction (letters_in ss) v inside) represented).0 also in
            let here : accepts_of a.automaton w ≡ true = sym (ignores v w (over_argument sizes v inside) (over_argument sizes w over) alike) ∙ accepted in
            valid_says sizes w over ∙ and_from (accepts_of a.automaton w) (is_valid (sizes_of ss) languages w) here (represented_to direction ss languages are w ns represented)
