-- Automata that hold of relations have one language if and only if the relations are one.
use Rattle.std.proofs.Common.{◌≡◌, ℕ, List, length, ◌↔◌, sym, ap, ◌∙◌, subst}
use Rattle.digit_tuple.specs.Deterministic.{Automaton, letters_of, accepts_of}
use Rattle.digit_tuple.specs.Letters.{IsWord, product}
use Rattle.digit_tuple.specs.Paddings.{in_order}
use Rattle.digit_tuple.specs.declared.direction.Direction.{Direction}
use Rattle.digit_tuple.proofs.PaddingLemmas.{in_order-twice, IsWord-in_order}
use Rattle.digit_tuple.proofs.TruthLemmas.{same_tests}
use Rattle.minimise.specs.Residuals.{SameLanguage}
use Rattle.numeration.specs.Systems.{System, AreSystems}
use Rattle.numeration.specs.Representation.{Represents, letters_in}
use Rattle.numeration.specs.Relations.{HoldsOf}
use Rattle.numeration.proofs.RepresentLemmas.{representation}
use Rattle.numeration.proofs.TrackLemmas.{tracks_represent}
use Rattle.numeration.proofs.PartRepresentation.{represented_only}

module _ (direction : Direction) (ss : List System) (systems : AreSystems ss) (P Q : List ℕ → Type 0) (d e : Automaton) (one : HoldsOf direction ss P d) (other : HoldsOf direction ss Q e) where
  letters : letters_of d ≡ letters_in ss
  letters = ap product one.sizes

  relations_same : SameLanguage d e → (ns : List ℕ) → length ns ≡ length ss → P ns → Q ns
  relations_same same ns long holds =
      let represented = representation ss ns systems long in
      let w : List ℕ = in_order direction represented.0 in
      let over : IsWord (letters_in ss) w = IsWord-in_order direction (letters_in ss) represented.0 represented.1 in
      let represents : Represents ss (in_order direction w) ns = subst (λ u. Represents ss u ns) (sym (in_order-twice direction represented.0)) represented.2 in
      let accepted = (one.accepts w over).1 (ns, represents, holds) in
      let found = (other.accepts w over).0 (sym (same w (subst (λ n. IsWord n w) (sym letters) over)) ∙ accepted) in
      subst Q (represented_only ss (in_order direction w) found.0 ns (tracks_represent ss (in_order direction w) found.0 found.1) (tracks_represent ss (in_order direction w) ns represents)) found.2

  languages_same : ((ns : List ℕ) → length ns ≡ length ss → P ns ↔ Q ns) → SameLanguage d e
  languages_same same w over =
      let word = subst (λ n. IsWord n w) letters over in
      same_tests (accepts_of d w) (accepts_of e w) (
        (λ t. let found = (one.accepts w word).0 t in (other.accepts w word).1 (found.0, found.1, (same found.0 (tracks_represent ss (in_order direction w) found.0 found.1).count).0 found.2)),
        (λ t. let found = (other.accepts w word).0 t in (one.accepts w word).1 (found.0, found.1, (same found.0 (tracks_represent ss (in_order direction w) found.0 found.1).count).1 found.2)),
      )

-- both ways
pub same_holds : (direction : Direction) (ss : List System) → AreSystems ss → (P Q : List ℕ → Type 0) (d e : Automaton) → HoldsOf direction ss P d → HoldsOf direction ss Q e
    → SameLanguage d e ↔ ((ns : List ℕ) → length ns ≡ length ss → P ns ↔ Q ns)
same_holds direction ss systems P Q d e one other = (
  (λ same ns long. (relations_same direction ss systems P Q d e one other same ns long, relations_same direction ss systems Q P e d other one (λ w over. sym (same w (subst (λ n. IsWord n w) (ap product (other.sizes ∙ sym one.sizes)) over))) ns long)),
  (λ same. languages_same direction ss systems P Q d e one other same),
)
