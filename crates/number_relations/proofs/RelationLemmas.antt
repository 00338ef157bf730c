-- What relations say: they are decided, and equal where they hold of the same tuples.
use Rattle.std.proofs.Common.{◌≡◌, ℕ, ◌<◌, List, [], ◌∷◌, map, length, get_or, refl, sym, ap, ◌∙◌, subst, ◌↔◌, IsTrue, arith}
use Rattle.std.specs.List.{AllByRecursion}
use Rattle.std.proofs.lemmas.List.{ext_get_or, get_or-map, length-map}
use Rattle.digit_tuple.specs.Deterministic.{Automaton, accepts_of, letters_of}
use Rattle.digit_tuple.specs.Letters.{product, IsWord}
use Rattle.digit_tuple.specs.Names.{AreDistinct}
use Rattle.digit_tuple.specs.Paddings.{in_order}
use Rattle.digit_tuple.proofs.NameLemmas.{place_of-is}
use Rattle.digit_tuple.proofs.TruthLemmas.{same_tests}
use Rattle.minimise.specs.Canonical.{IsCanonical}
use Rattle.minimise.proofs.CanonicalLemmas.{canonical_forms}
use Rattle.numeration.specs.Systems.{AreSystems}
use Rattle.numeration.specs.Representation.{letters_in}
use Rattle.num_system.specs.Sealed.{SystemValue, system_of, IsSealed}
use Rattle.num_system.specs.Tracks.{systems_of, direction_of, number_under}
use Rattle.number_relations.specs.Relations.{RelationValue, IsRelationOf, IsClosedOver, HoldsOver, RelationHolds}
use Rattle.number_relations.specs.Laws.{RelationsAreDecided, TuplesDetermineRelations}
use Rattle.num_system.proofs.HoldLemmas.{decided, represented_count}
use Rattle.num_system.proofs.SealedLemmas.{are_systems}

pub relations_decided : RelationsAreDecided
relations_decided r ns is = decided (direction_of r.systems) (systems_of r.systems) r.automaton (are_systems r.systems is.sealed) is.closed ns

-- canonical automata over the same systems that hold of the same tuples are equal
pub same_automaton : (systems : List SystemValue) (d e : Automaton) → IsClosedOver systems d → IsClosedOver systems e → IsCanonical d → IsCanonical e
    → ((ns : List ℕ) → length ns ≡ length systems → HoldsOver systems d ns ↔ HoldsOver systems e ns) → d ≡ e
same_automaton systems d e closed also canonical other agree = canonical_forms d e canonical other (closed.sizes ∙ sym also.sizes) language
  where
    language : (w : List ℕ) → IsWord (letters_of d) w → accepts_of d w ≡ accepts_of e w
    language w over = same_tests (accepts_of d w) (accepts_of e w) (there, back)
      where
        inside : IsWord (letters_in (systems_of systems)) w
        inside = subst (λ (ns : List ℕ). IsWord (product ns) w) closed.sizes over

        there : IsTrue (accepts_of d w) → IsTrue (accepts_of e w)
        there accepted =
            let found = (closed.accepts w inside).0 accepted in
            let count = represented_count (systems_of systems) (in_order (direction_of systems) w) found.0 found.1 ∙ length-map systems system_of in
            (also.accepts w inside).1 (found.0, found.1, (agree found.0 count).0 found.2)

        back : IsTrue (accepts_of e w) → IsTrue (accepts_of d w)
        back accepted =
            let found = (also.accepts w inside).0 accepted in
            let count = represented_count (systems_of systems) (in_order (direction_of systems) w) found.0 found.1 ∙ length-map systems system_of in
            (closed.accepts w inside).1 (found.0, found.1, (agree found.0 count).1 found.2)

pub tuples_determine : TuplesDetermineRelations
tuples_determine r s is also names systems same = λ i. record { names = names i; systems = systems i; automaton = automata i }
  where
    closed : IsClosedOver r.systems s.automaton
    closed = subst (λ (ss : List SystemValue). IsClosedOver ss s.automaton) (sym systems) also.closed

    agree : (ns : List ℕ) → length ns ≡ length r.systems → HoldsOver r.systems r.automaton ns ↔ HoldsOver r.systems s.automaton ns
    agree ns count =
        subst (λ (ss : List SystemValue). RelationHolds r ns ↔ HoldsOver ss s.automaton ns) (sym systems) (same ns (count ∙ is.count))

    automata : r.automaton ≡ s.automaton
    automata = same_automaton r.systems r.automaton s.automaton is.closed closed is.tracked.canonical also.tracked.canonical agree

-- the numbers under distinct names, one for each, are the tuple
pub numbers_of_names : (names : List (List ℕ)) (ns : List ℕ) → AreDistinct names → length ns ≡ length names → map (number_under names ns) names ≡ ns
numbers_of_names names ns distinct count =
    ext_get_or 0 (map (number_under names ns) names) ns (length-map names (number_under names ns) ∙ sym count)
    (λ i inside. let within : i < length names = omega (arith, inside, length-map names (number_under names ns)) in
    get_or-map (number_under names ns) names i [] 0 within ∙ ap (λ (p : ℕ). get_or ns p 0) (place_of-is names (get_or names i []) i distinct within refl))

-- a relation that holds of what is true of the numbers under its names
module _ (names : List (List ℕ)) (systems : List SystemValue) (P : (List ℕ → ℕ) → Type 0) where
  pub tuples_hold : (r : RelationValue) (ns : List ℕ) → IsRelationOf names systems P r → length ns ≡ length r.names → RelationHolds r ns ↔ P (number_under r.names ns)
  tuples_hold r ns is count =
      let at = number_under r.names ns in
      subst (λ (ms : List ℕ). RelationHolds r ms ↔ P at) (ap (map at) (sym is.names_are) ∙ numbers_of_names r.names ns is.relation.tracked.distinct count) (is.holds_of at)

  pub one_relation : (r s : RelationValue) → IsRelationOf names systems P r → IsRelationOf names systems P s → r ≡ s
  one_relation r s is also = tuples_determine r s is.relation also.relation same_names (is.systems_are ∙ sym also.systems_are) same
    where
      same_names : r.names ≡ s.names
      same_names = is.names_are ∙ sym also.names_are

      same : (ns : List ℕ) → length ns ≡ length r.names → RelationHolds r ns ↔ RelationHolds s ns
      same ns count =
          let here = tuples_hold r ns is count in
          let there = subst (λ (ms : List (List ℕ)). RelationHolds s ns ↔ P (number_under ms ns)) (sym same_names) (tuples_hold s ns also (count ∙ ap length same_names)) in
          (λ h. there.1 (here.0 h), λ h. here.1 (there.0 h))

  -- it holds of all that is true under the same numbers
  pub same_relation : (Q : (List ℕ → ℕ) → Type 0) → ((at : List ℕ → ℕ) → P at ↔ Q at) → (r : RelationValue) → IsRelationOf names systems P r → IsRelationOf names systems Q r
  same_relation Q same r is = record {
    relation = is.relation;
    names_are = is.names_are;
    systems_are = is.systems_are;
    holds_of = λ at. (λ h. (same at).0 ((is.holds_of at).0 h), λ q. (is.holds_of at).1 ((same at).1 q));
  }
