-- Automata of one language over the same tracks hold of the same.
use Rattle.std.proofs.Common.{◌≡◌, ℕ, List, [], ◌∷◌, ap, sym, ◌∙◌, subst, arith, IsTrue}
use Rattle.digit_tuple.specs.Letters.{IsWord, product}
use Rattle.digit_tuple.specs.Paddings.{in_order}
use Rattle.digit_tuple.specs.Deterministic.{Automaton, letters_of, accepts_of}
use Rattle.digit_tuple.specs.declared.direction.Direction.{Direction}
use Rattle.digit_tuple.proofs.PaddingLemmas.{in_order-twice, IsWord-in_order}
use Rattle.digit_tuple.proofs.AcceptedLemmas.{accepted_over}
use Rattle.digit_tuple.proofs.TruthLemmas.{same_tests}
use Rattle.minimise.specs.Residuals.{SameLanguage}
use Rattle.minimise.specs.Canonical.{IsCanonical}
use Rattle.numeration.specs.Systems.{System, IsSystem}
use Rattle.numeration.specs.Representation.{Represents, letters_in}
use Rattle.numeration.specs.Relations.{IsLanguageOf, HoldsOf}

-- the canonical automaton of the language
pub language_kept : (direction : Direction) (s : System) (d e : Automaton) → IsSystem s → IsLanguageOf direction s d → e.sizes ≡ d.sizes → SameLanguage d e → IsCanonical e → IsLanguageOf direction s e
language_kept direction s d e is language sizes same canonical =
    record { sizes = sizes ∙ language.sizes; accepts = λ w. same_tests (accepts_of e w) (s.test (in_order direction w)) (there w, back w) }
  where
    there : (w : List ℕ) → IsTrue (accepts_of e w) → IsTrue (s.test (in_order direction w))
    there w accepted =
        let over : IsWord (letters_of d) w = subst (λ ss. IsWord (product ss) w) sizes (accepted_over e w canonical.table accepted) in
        sym (language.accepts w) ∙ same w over ∙ accepted

    back : (w : List ℕ) → IsTrue (s.test (in_order direction w)) → IsTrue (accepts_of e w)
    back w valid =
        let turned : IsWord s.digits (in_order direction w) = is.over (in_order direction w) valid in
        let straight : IsWord s.digits w = subst (IsWord s.digits) (in_order-twice direction w) (IsWord-in_order direction s.digits (in_order direction w) turned) in
        let letters : s.digits ≡ letters_of d = (let one : s.digits ≡ product (s.digits ∷ []) = omega arith in one) ∙ ap product (sym language.sizes) in
        let over : IsWord (letters_of d) w = subst (λ n. IsWord n w) letters straight in
        sym (same w over) ∙ language.accepts w ∙ valid

-- the canonical automaton of a relation
pub relation_kept : (direction : Direction) (ss : List System) (holds : List ℕ → Type 0) (d e : Automaton) → HoldsOf direction ss holds d → e.sizes ≡ d.sizes → SameLanguage d e → HoldsOf direction ss holds e
relation_kept direction ss holds d e relation sizes same = record { sizes = sizes ∙ relation.sizes; accepts = λ w over. (there w over, back w over) }
  where
    equal : (w : List ℕ) → IsWord (letters_in ss) w → accepts_of d w ≡ accepts_of e w
    equal w over = same w (subst (λ sizes_are. IsWord (product sizes_are) w) (sym relation.sizes) over)

    there : (w : List ℕ) → IsWord (letters_in ss) w → IsTrue (accepts_of e w) → (ns : List ℕ) × Represents ss (in_order direction w) ns × holds ns
    there w over accepted = (relation.accepts w over).0 (equal w over ∙ accepted)

    back : (w : List ℕ) → IsWord (letters_in ss) w → ((ns : List ℕ) × Represents ss (in_order direction w) ns × holds ns) → IsTrue (accepts_of e w)
    back w over represented = sym (equal w over) ∙ (relation.accepts w over).1 represented
