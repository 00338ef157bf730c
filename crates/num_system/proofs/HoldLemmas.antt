-- What automata say that hold of a relation on numbers.
use Rattle.std.proofs.Common.{◌≡◌, ℕ, Bool, true, false, ◌⊎◌, inl, inr, List, length, refl, sym, ◌∙◌, subst, true≢false, ◌↔◌, IsTrue, ◌==◌}
use Rattle.std.proofs.lemmas.Bool.Decides.{Decides-eqb}
use Rattle.digit_tuple.specs.Letters.{IsWord}
use Rattle.digit_tuple.specs.Paddings.{in_order}
use Rattle.digit_tuple.specs.Deterministic.{Automaton, accepts_of}
use Rattle.digit_tuple.specs.declared.direction.Direction.{Direction}
use Rattle.digit_tuple.proofs.PaddingLemmas.{IsWord-in_order, in_order-twice}
use Rattle.numeration.specs.Systems.{System, AreSystems}
use Rattle.numeration.specs.Representation.{Represents, letters_in}
use Rattle.numeration.specs.Relations.{HoldsOf}
use Rattle.numeration.proofs.RepresentLemmas.{representation}
use Rattle.numeration.proofs.TrackLemmas.{tracks_represent}
use Rattle.numeration.proofs.PartRepresentation.{represented_only}
use Rattle.num_system.specs.Representations.{HasRepresentation}

-- a word represents one tuple alone
pub one_tuple : (ss : List System) (w ns ms : List ℕ) → Represents ss w ns → Represents ss w ms → ns ≡ ms
one_tuple ss w ns ms first second = represented_only ss w ns ms (tracks_represent ss w ns first) (tracks_represent ss w ms second)

-- with a number for each track
pub represented_count : (ss : List System) (w ns : List ℕ) → Represents ss w ns → length ns ≡ length ss
represented_count ss w ns represented = (tracks_represent ss w ns represented).count

-- each tuple has a representation in each direction
pub representation_of : (direction : Direction) (ss : List System) (ns : List ℕ) → AreSystems ss → length ns ≡ length ss → (v : List ℕ) × IsWord (letters_in ss) v × Represents ss (in_order direction v) ns
representation_of direction ss ns are count =
    let found = representation ss ns are count in
    (in_order direction found.0, IsWord-in_order direction (letters_in ss) found.0 found.1, subst (λ (w : List ℕ). Represents ss w ns) (sym (in_order-twice direction found.0)) found.2)

module _ (direction : Direction) (ss : List System) (P : List ℕ → Type 0) (d : Automaton) (holds : HoldsOf direction ss P d) where
  -- the relation holds of numbers of which a representation is accepted
  pub representation_holds : (ns : List ℕ) → HasRepresentation direction ss d ns → P ns
  representation_holds ns (v, over, represented, accepted) =
      let found = (holds.accepts v over).0 accepted in
      subst P (one_tuple ss (in_order direction v) found.0 ns found.1 represented) found.2

  -- and of those that it holds of a representation is accepted
  pub holds_representation : AreSystems ss → (ns : List ℕ) → length ns ≡ length ss → P ns → HasRepresentation direction ss d ns
  holds_representation are ns count p =
      let found = representation_of direction ss ns are count in
      (found.0, found.1, found.2, (holds.accepts found.0 found.1).1 (ns, found.2, p))

  -- so the automaton holds of the numbers of which it accepts a representation
  pub closed_from : HoldsOf direction ss (HasRepresentation direction ss d) d
  closed_from = record { sizes = holds.sizes; accepts = λ w over. (there w over, back w over) }
    where
      there : (w : List ℕ) → IsWord (letters_in ss) w → IsTrue (accepts_of d w) → (ns : List ℕ) × Represents ss (in_order direction w) ns × HasRepresentation direction ss d ns
      there w over accepted =
          let found = (holds.accepts w over).0 accepted in
          (found.0, found.1, (w, over, found.1, accepted))

      back : (w : List ℕ) → IsWord (letters_in ss) w → (ns : List ℕ) × Represents ss (in_order direction w) ns × HasRepresentation direction ss d ns → IsTrue (accepts_of d w)
      back w over (ns, represented, some) = (holds.accepts w over).1 (ns, represented, representation_holds ns some)

-- a relation that says the same of each tuple is held of too
pub holds_same : (direction : Direction) (ss : List System) (P Q : List ℕ → Type 0) (d : Automaton) → ((ns : List ℕ) → length ns ≡ length ss → P ns ↔ Q ns) → HoldsOf direction ss P d → HoldsOf direction ss Q d
holds_same direction ss P Q d same holds = record {
  sizes = holds.sizes;
  accepts = λ w over. (
    λ accepted. let found = (holds.accepts w over).0 accepted in (found.0, found.1, (same found.0 (represented_count ss (in_order direction w) found.0 found.1)).0 found.2),
    λ found. (holds.accepts w over).1 (found.0, found.1, (same found.0 (represented_count ss (in_order direction w) found.0 found.1)).1 found.2),
  );
}

-- whether some representation of a tuple is accepted is decided by any of its representations
module _ (direction : Direction) (ss : List System) (d : Automaton) (are : AreSystems ss) (closed : HoldsOf direction ss (HasRepresentation direction ss d) d) (ns : List ℕ) where
  decided_by : (v : List ℕ) → IsWord (letters_in ss) v → Represents ss (in_order direction v) ns → (b : Bool) → accepts_of d v ≡ b → HasRepresentation direction ss d ns ⊎ (HasRepresentation direction ss d ns → ⊥)
  decided_by v over represented true is = inl (v, over, represented, is)
  decided_by v over represented false is = inr (λ some. true≢false (sym ((closed.accepts v over).1 (ns, represented, some)) ∙ is))

  pub decided : HasRepresentation direction ss d ns ⊎ (HasRepresentation direction ss d ns → ⊥)
  decided = by (length ns == length ss) refl
    where
      by : (b : Bool) → (length ns == length ss) ≡ b → HasRepresentation direction ss d ns ⊎ (HasRepresentation direction ss d ns → ⊥)
      by true is =
          let found = representation_of direction ss ns are ((Decides-eqb (length ns) (length ss)).0 is) in
          decided_by found.0 found.1 found.2 (accepts_of d found.0) refl
      by false is = inr (λ some. true≢false (sym ((Decides-eqb (length ns) (length ss)).1 (represented_count ss (in_order direction some.0) ns some.2)) ∙ is))
