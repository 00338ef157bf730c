-- What joins and projections hold of, by the numbers under their names.
use Rattle.std.proofs.Common.{◌≡◌, ◌≢◌, ℕ, Bool, true, false, not, List, [], ◌∷◌, map, length, get_or, refl, ap, sym, ◌∙◌, subst, ◌↔◌, true≢false, if◌then◌else◌}
use Rattle.std.specs.List.{All, Contains}
use Rattle.std.specs.Str.{bytes_eq}
use Rattle.std.proofs.lemmas.List.{get_or-map, length-map}
use Rattle.std.proofs.lemmas.List.Elements.{All-contains_itself, All-head, All-tail}
use Rattle.std.proofs.lemmas.Simd.{map-map}
use Rattle.std.proofs.lemmas.Slice.Eq.{bytes_eq-Decides}
use Rattle.digit_tuple.specs.Names.{names_without, place_of, places_of}
use Rattle.digit_tuple.specs.Parts.{picked}
use Rattle.digit_tuple.proofs.JointNames.{AreJoint-joint_names}
use Rattle.digit_tuple.proofs.MemberLemmas.{Contains-filter, Contains-from_filter}
use Rattle.digit_tuple.proofs.NameLemmas.{place_of-contained}
use Rattle.product_op.specs.declared.op.Op.{Op}
use Rattle.project_close.proofs.ProjectionLemmas.{names_without-there}
use Rattle.num_system.specs.Joined.{Joined, IsBound}
use Rattle.num_system.specs.Sealed.{system_of, SystemValue}
use Rattle.num_system.specs.Tracks.{number_under}
use Rattle.number_relations.specs.Relations.{RelationValue, IsRelation, IsRelationOf, RelationHolds}
use Rattle.number_relations.specs.Joins.{AgreeOnSystems, HaveOneDirection, IsRelationJoin}
use Rattle.number_relations.specs.Projections.{IsRelationProjection}
use Rattle.number_relations.proofs.JoinLemmas.{join_holds}
use Rattle.number_relations.proofs.PlacedLemmas.{picked_numbers}
use Rattle.number_relations.proofs.ProjectLemmas.{projection_holds}
use Rattle.number_relations.proofs.RelationLemmas.{numbers_of_names}

-- a relation that holds of what is true of the numbers under some names holds of it under its own
pub own_named : (names : List (List ℕ)) (systems : List SystemValue) (P : (List ℕ → ℕ) → Type 0) (r : RelationValue) → IsRelationOf names systems P r → (f : List ℕ → ℕ) → RelationHolds r (map f r.names) ↔ P f
own_named names systems P r is f = subst (λ (ns : List (List ℕ)). RelationHolds r (map f ns) ↔ P f) (sym is.names_are) (is.holds_of f)

-- a join holds of numbers under its names as the connective says of the relations on those under theirs
module _ (op : Op) (a b c : RelationValue) (is_a : IsRelation a) (is_b : IsRelation b) (agree : AgreeOnSystems a b) (direction : HaveOneDirection a b)
    (bound : IsBound op a.names b.names) (made : IsRelationJoin op a b c) where
  pub first_there : All (Contains c.names) a.names
  first_there = subst (λ (names : List (List ℕ)). All (Contains names) a.names) (sym made.join.names) (AreJoint-joint_names a.names b.names).all_first

  pub second_there : All (Contains c.names) b.names
  second_there = subst (λ (names : List (List ℕ)). All (Contains names) b.names) (sym made.join.names) (AreJoint-joint_names a.names b.names).all_second

  pub join_named : (f : List ℕ → ℕ) → RelationHolds c (map f c.names) ↔ Joined op (RelationHolds a (map f a.names)) (RelationHolds b (map f b.names))
  join_named f =
      subst (λ (ns : List ℕ). RelationHolds c (map f c.names) ↔ Joined op (RelationHolds a ns) (RelationHolds b (map f b.names))) (picked_numbers c.names f a.names first_there)
      (subst (λ (ns : List ℕ). RelationHolds c (map f c.names) ↔ Joined op (RelationHolds a (picked (places_of c.names a.names) (map f c.names))) (RelationHolds b ns)) (picked_numbers c.names f b.names second_there)
      (join_holds a b is_a is_b agree direction op c bound made (map f c.names) (length-map c.names f)))

-- the numbers under names, with another number under one of them
abbrev pub changed : (List ℕ → ℕ) → List ℕ → ℕ → List ℕ → ℕ
changed f track m name = if bytes_eq name track then m else f name

pub changed_there : (f : List ℕ → ℕ) (track : List ℕ) (m : ℕ) → changed f track m track ≡ m
changed_there f track m = ap (λ b. if b then m else f track) ((bytes_eq-Decides track track).1 refl)

pub changed_other : (f : List ℕ → ℕ) (track : List ℕ) (m : ℕ) (name : List ℕ) → name ≢ track → changed f track m name ≡ f name
changed_other f track m name other = by (bytes_eq name track) refl
  where
    by : (b : Bool) → bytes_eq name track ≡ b → (if b then m else f name) ≡ f name
    by true is = absurd (other ((bytes_eq-Decides name track).0 is))
    by false is = refl

map_agree : (f g : List ℕ → ℕ) (names : List (List ℕ)) → ((name : List ℕ) → Contains names name → f name ≡ g name) → (some : List (List ℕ)) → All (Contains names) some → map f some ≡ map g some
map_agree f g names agree [] there = refl
map_agree f g names agree (n ∷ some) there =
    ap (λ m. m ∷ map f some) (agree n (All-head (Contains names) n some there)) ∙ ap (λ ms. g n ∷ ms) (map_agree f g names agree some (All-tail (Contains names) n some there))

-- numbers that are the same at names are so at each
agree_at : (f g : List ℕ → ℕ) (names : List (List ℕ)) → map f names ≡ map g names → (name : List ℕ) → Contains names name → f name ≡ g name
agree_at f g names same name found =
    let spot = place_of-contained names name found in
    let place : ℕ = place_of names name in
    ap f (sym spot.1) ∙ sym (get_or-map f names place [] 0 spot.0) ∙ ap (λ (ns : List ℕ). get_or ns place 0) same ∙ get_or-map g names place [] 0 spot.0 ∙ ap g spot.1

-- a name that stays when one is dropped is another one
pub stays_other : (names : List (List ℕ)) (track name : List ℕ) → Contains (names_without names track) name → name ≢ track
stays_other names track name found same =
    true≢false (sym (Contains-from_filter (λ n. not (bytes_eq n track)) names name found).1 ∙ ap not ((bytes_eq-Decides name track).1 same))

-- and each other name stays
pub other_stays : (names : List (List ℕ)) (track name : List ℕ) → Contains names name → name ≢ track → Contains (names_without names track) name
other_stays names track name found other = Contains-filter (λ n. not (bytes_eq n track)) names name found (by (bytes_eq name track) refl)
  where
    by : (b : Bool) → bytes_eq name track ≡ b → not b ≡ true
    by true is = absurd (other ((bytes_eq-Decides name track).0 is))
    by false is = refl

-- a projection holds of numbers under its names where some number under the dropped one makes the relation hold
module _ (track : List ℕ) (a c : RelationValue) (is_a : IsRelation a) (made : IsRelationProjection track a c) where
  abbrev names : List (List ℕ)
  names = names_without a.names track

  there : All (Contains a.names) names
  there = names_without-there a.names track

  projection_by : (f : List ℕ → ℕ) → (ns : List ℕ) → length ns ≡ length a.names → picked (places_of a.names names) ns ≡ map f names → map (changed f track (number_under a.names ns track)) a.names ≡ ns
  projection_by f ns count same =
      map_agree (changed f track (g track)) g a.names at a.names (All-contains_itself a.names) ∙ numbers_of_names a.names ns is_a.tracked.distinct count
    where
      g : List ℕ → ℕ
      g = number_under a.names ns

      kept : map g names ≡ map f names
      kept = sym (map-map (λ (p : ℕ). get_or ns p 0) (place_of a.names) names) ∙ same

      at : (name : List ℕ) → Contains a.names name → changed f track (g track) name ≡ g name
      at name found = by (bytes_eq name track) refl
        where
          by : (b : Bool) → bytes_eq name track ≡ b → (if b then g track else f name) ≡ g name
          by true is = ap g (sym ((bytes_eq-Decides name track).0 is))
          by false is = sym (agree_at g f names kept name (other_stays a.names track name found (λ same_name. true≢false (sym ((bytes_eq-Decides name track).1 same_name) ∙ is))))

  pub projection_named : (f : List ℕ → ℕ) → RelationHolds c (map f c.names) ↔ ((m : ℕ) × RelationHolds a (map (changed f track m) a.names))
  projection_named f = (forth, back)
    where
      here : List ℕ
      here = map f c.names

      own : map f names ≡ here
      own = ap (map f) (sym made.projection.names)

      forth : RelationHolds c here → (m : ℕ) × RelationHolds a (map (changed f track m) a.names)
      forth holds =
          let found = (projection_holds track a c is_a made here (length-map c.names f)).0 holds in
          let long : length found.0 ≡ length a.names = found.1 ∙ length-map a.systems system_of ∙ is_a.count in
          (number_under a.names found.0 track, subst (RelationHolds a) (sym (projection_by f found.0 long (found.2 ∙ sym own))) found.3)

      back : (m : ℕ) × RelationHolds a (map (changed f track m) a.names) → RelationHolds c here
      back (m, holds) =
          let ns : List ℕ = map (changed f track m) a.names in
          let long : length ns ≡ length (map system_of a.systems) = length-map a.names (changed f track m) ∙ sym (length-map a.systems system_of ∙ is_a.count) in
          let same : picked (places_of a.names names) ns ≡ here =
          picked_numbers a.names (changed f track m) names there
          ∙ map_agree (changed f track m) f names (λ name found. changed_other f track m name (stays_other a.names track name found)) names (All-contains_itself names)
          ∙ own in
          (projection_holds track a c is_a made here (length-map c.names f)).1 (ns, long, same, holds)
