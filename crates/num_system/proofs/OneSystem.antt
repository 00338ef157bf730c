-- A system of numbers is sealed in one way, since canonical automata that hold of one relation are one.
use Rattle.std.proofs.Common.{◌≡◌, ℕ, List, [], ◌∷◌, sym, ap, ◌∙◌, subst}
use Rattle.digit_tuple.specs.Deterministic.{Automaton, accepts_of}
use Rattle.digit_tuple.specs.Letters.{IsWord, product}
use Rattle.digit_tuple.specs.declared.direction.Direction.{Direction}
use Rattle.digit_tuple.proofs.TruthLemmas.{same_tests}
use Rattle.minimise.specs.Canonical.{IsCanonical}
use Rattle.minimise.proofs.CanonicalLemmas.{canonical_forms}
use Rattle.numeration.specs.Systems.{System}
use Rattle.numeration.specs.Representation.{letters_in}
use Rattle.numeration.specs.Relations.{HoldsOf, IsLanguageOf, IsAdderOf, IsEqualityOf, IsOrderOf, IsZeroOf, IsSum, IsEqual, IsLess, IsZero}
use Rattle.num_system.specs.Sealed.{SystemValue, system_of, IsSealed}
use Rattle.num_system.specs.Successor.{IsSuccessorOf, IsNext}

one_language : (direction : Direction) (s : System) (c d : Automaton) → IsCanonical c → IsCanonical d → IsLanguageOf direction s c → IsLanguageOf direction s d → c ≡ d
one_language direction s c d first second one other = canonical_forms c d first second (one.sizes ∙ sym other.sizes) (λ word over. one.accepts word ∙ sym (other.accepts word))

-- canonical automata that hold of one relation are one
pub one_holding : (direction : Direction) (ss : List System) (holds : List ℕ → Type 0) (c d : Automaton) → IsCanonical c → IsCanonical d → HoldsOf direction ss holds c → HoldsOf direction ss holds d → c ≡ d
one_holding direction ss holds c d first second one other =
    canonical_forms c d first second (one.sizes ∙ sym other.sizes)
    (λ word over.
    let inside : IsWord (letters_in ss) word = subst (λ (s : List ℕ). IsWord (product s) word) one.sizes over in
    let here = one.accepts word inside in
    let there = other.accepts word inside in
    same_tests (accepts_of c word) (accepts_of d word) (λ is. there.1 (here.0 is), λ is. here.1 (there.0 is)))

-- a system that is read in a direction is sealed in one way
pub one_sealed : (s t : SystemValue) → IsSealed s → IsSealed t → s.direction ≡ t.direction → system_of s ≡ system_of t → s ≡ t
one_sealed s t first second directions systems =
    let digits : s.digits ≡ t.digits = ap (λ (v : System). v.digits) systems in
    let language : s.language ≡ t.language = one_language t.direction (system_of t) s.language t.language first.language_canonical second.language_canonical (moved (λ w v. IsLanguageOf w v s.language) first.language) second.language in
    let adder : s.adder ≡ t.adder = one_holding t.direction (system_of t ∷ system_of t ∷ system_of t ∷ []) IsSum s.adder t.adder first.adder_canonical second.adder_canonical (moved (λ w v. IsAdderOf w v s.adder) first.adder) second.adder in
    let equal : s.equal ≡ t.equal =
    one_holding t.direction (system_of t ∷ system_of t ∷ []) IsEqual s.equal t.equal first.relations.equality_canonical second.relations.equality_canonical (moved (λ w v. IsEqualityOf w v s.equal) first.relations.equality) second.relations.equality in
    let less : s.less ≡ t.less =
    one_holding t.direction (system_of t ∷ system_of t ∷ []) IsLess s.less t.less first.relations.order_canonical second.relations.order_canonical (moved (λ w v. IsOrderOf w v s.less) first.relations.order) second.relations.order in
    let successor : s.successor ≡ t.successor =
    one_holding t.direction (system_of t ∷ system_of t ∷ []) IsNext s.successor t.successor first.relations.next_canonical second.relations.next_canonical (moved (λ w v. IsSuccessorOf w v s.successor) first.relations.next) second.relations.next in
    let zero : s.zero ≡ t.zero =
    one_holding t.direction (system_of t ∷ []) IsZero s.zero t.zero first.relations.zeros_canonical second.relations.zeros_canonical (moved (λ w v. IsZeroOf w v s.zero) first.relations.zeros) second.relations.zeros in
    λ i. record {
      digits = digits i;
      direction = directions i;
      language = language i;
      adder = adder i;
      equal = equal i;
      less = less i;
      successor = successor i;
      zero = zero i;
    }
  where
    moved : (P : Direction → System → Type 0) → P s.direction (system_of s) → P t.direction (system_of t)
    moved P p = subst (λ (v : System). P t.direction v) systems (subst (λ (w : Direction). P w (system_of s)) directions p)
