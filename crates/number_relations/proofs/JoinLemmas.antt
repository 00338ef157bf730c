-- Joins of relations.
use Rattle.std.proofs.Common.{◌≡◌, ℕ, List, ◌++◌, length, ap, sym, ◌∙◌, subst, ◌↔◌}
use Rattle.std.specs.List.{AllByRecursion}
use Rattle.std.proofs.lemmas.List.{length-map}
use Rattle.digit_tuple.specs.Names.{AreDistinct, joint_names, places_of}
use Rattle.digit_tuple.specs.declared.direction.Direction.{Direction}
use Rattle.digit_tuple.proofs.JointNames.{AreJoint-joint_names}
use Rattle.product_op.specs.declared.op.Op.{Op}
use Rattle.product_op.specs.Tracks.{joint_size, joint_sizes}
use Rattle.product_op.specs.Validity.{AreLanguages}
use Rattle.product_op.proofs.SizeLemmas.{AreDistinct-ordered}
use Rattle.numeration.specs.Systems.{System}
use Rattle.numeration.specs.Relations.{HoldsOf}
use Rattle.numeration.specs.SomeTracks.{systems_at}
use Rattle.num_system.specs.Joined.{joined, IsBound}
use Rattle.num_system.specs.Sealed.{SystemValue, system_of, IsSealed}
use Rattle.num_system.proofs.NamedLinks.{in_product_holds}
use Rattle.num_system.specs.Tracks.{ShareDirection, systems_of, direction_of, system_under, languages_of}
use Rattle.number_relations.specs.Relations.{RelationValue, IsRelation, RelationHolds, named_of}
use Rattle.number_relations.specs.Joins.{AgreeOnSystems, HaveOneDirection, IsRelationJoin, joint_systems}
use Rattle.num_system.proofs.HoldLemmas.{closed_from, holds_representation, representation_holds}
use Rattle.number_relations.proofs.DirectionLemmas.{direction_from, direction_to}
use Rattle.num_system.proofs.SealedLemmas.{AreAllDirected, are_systems, languages_are, languages_fit, shared_direction_from}
use Rattle.number_relations.proofs.JointSystems.{first_systems, first_directions, joint_all, joint_sizes_are, second_systems, second_directions}

module _ (a b : RelationValue) (is_a : IsRelation a) (is_b : IsRelation b) (agree : AgreeOnSystems a b) where
  abbrev joint : List (List ℕ)
  joint = joint_names a.names b.names

  abbrev systems : List SystemValue
  systems = joint_systems a b

  sealed : AllByRecursion IsSealed systems
  sealed = joint_all a b is_a is_b agree IsSealed is_a.sealed is_b.sealed

  long : length systems ≡ length joint
  long = length-map joint (system_under (a.names ++ b.names) (a.systems ++ b.systems))

  -- there is a language for each joint track
  pub joint_languages : AreLanguages (joint_sizes (named_of a) (named_of b)) (languages_of systems)
  joint_languages = subst (λ (sizes : List ℕ). AreLanguages sizes (languages_of systems)) (sym (joint_sizes_are a b is_a is_b agree)) (languages_fit systems sealed)

  module _ (direction : HaveOneDirection a b) where
    abbrev read_direction : Direction
    read_direction = direction_of (a.systems ++ b.systems)

    directions_a : AreAllDirected read_direction a.systems
    directions_a = first_directions a.systems b.systems is_a.shared_direction

    directions_b : AreAllDirected read_direction b.systems
    directions_b = second_directions a.systems b.systems is_b.shared_direction direction

    directions : AreAllDirected read_direction systems
    directions = joint_all a b is_a is_b agree (λ (s : SystemValue). s.direction ≡ read_direction) directions_a directions_b

    holds_a : HoldsOf read_direction (systems_at (places_of joint a.names) (systems_of systems)) (RelationHolds a) a.automaton
    holds_a = subst (λ (ss : List System). HoldsOf read_direction ss (RelationHolds a) a.automaton) (sym (first_systems a b is_a is_b agree)) (direction_to read_direction a.systems (RelationHolds a) a.automaton directions_a is_a.closed)

    holds_b : HoldsOf read_direction (systems_at (places_of joint b.names) (systems_of systems)) (RelationHolds b) b.automaton
    holds_b = subst (λ (ss : List System). HoldsOf read_direction ss (RelationHolds b) b.automaton) (sym (second_systems a b is_a is_b agree)) (direction_to read_direction b.systems (RelationHolds b) b.automaton directions_b is_b.closed)

    -- what the connective says of the relations on the joint tracks
    abbrev says : Op → List ℕ → Type 0
    says op = joined op (places_of joint a.names) (RelationHolds a) (places_of joint b.names) (RelationHolds b)

    module _ (op : Op) (c : RelationValue) (bound : IsBound op a.names b.names) (made : IsRelationJoin op a b c) where
      product_says : HoldsOf (direction_of c.systems) (systems_of c.systems) (says op) c.automaton
      product_says = subst (λ (ss : List SystemValue). HoldsOf (direction_of ss) (systems_of ss) (says op) c.automaton) (sym made.systems)
          (direction_from read_direction systems (says op) c.automaton directions
          (in_product_holds read_direction (systems_of systems) (named_of a) (named_of b) (RelationHolds a) (RelationHolds b) (length-map systems system_of ∙ long) (joint_sizes_are a b is_a is_b agree) holds_a holds_b
          op (languages_of systems) bound (λ among. languages_are read_direction systems sealed directions) c.automaton made.join.sizes made.join.language))

      sealed_c : AllByRecursion IsSealed c.systems
      sealed_c = subst (λ (ss : List SystemValue). AllByRecursion IsSealed ss) (sym made.systems) sealed

      count_c : length c.systems ≡ length c.names
      count_c = ap length made.systems ∙ long ∙ sym (ap length made.join.names)

      pub join_is : IsRelation c
      join_is = record {
        tracked = record {
          count = ap length made.join.names ∙ sym (ap length made.join.sizes ∙ length-map joint (joint_size (named_of a) (named_of b)));
          distinct = subst (λ (names : List (List ℕ)). AreDistinct names) (sym made.join.names) (AreDistinct-ordered joint (AreJoint-joint_names a.names b.names).ordered);
          canonical = made.join.canonical;
        };
        count = count_c;
        sealed = sealed_c;
        shared_direction = subst (λ (ss : List SystemValue). ShareDirection ss) (sym made.systems) (shared_direction_from read_direction systems directions);
        closed = closed_from (direction_of c.systems) (systems_of c.systems) (says op) c.automaton product_says;
      }

      pub join_holds : (ns : List ℕ) → length ns ≡ length c.names → RelationHolds c ns ↔ joined op (places_of c.names a.names) (RelationHolds a) (places_of c.names b.names) (RelationHolds b) ns
      join_holds ns count = subst (λ (names : List (List ℕ)). RelationHolds c ns ↔ joined op (places_of names a.names) (RelationHolds a) (places_of names b.names) (RelationHolds b) ns) (sym made.join.names) (
        representation_holds (direction_of c.systems) (systems_of c.systems) (says op) c.automaton product_says ns,
        holds_representation (direction_of c.systems) (systems_of c.systems) (says op) c.automaton product_says (are_systems c.systems sealed_c) ns (count ∙ sym (length-map c.systems system_of ∙ count_c)),
      )
