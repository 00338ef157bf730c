-- The systems of the tracks of two relations that agree.
use Rattle.std.proofs.Common.{◌≡◌, ℕ, ◌<◌, List, [], ◌∷◌, ◌++◌, map, get_or, length, inl, inr, ◌⊎◌, refl, ap, sym, ◌∙◌, subst, arith}
use Rattle.std.specs.List.{All, AllByRecursion, Contains}
use Rattle.std.proofs.lemmas.Bool.{cases_lt}
use Rattle.std.proofs.lemmas.List.{get_or-map, length-map}
use Rattle.std.proofs.lemmas.List.Elements.{All-contains_itself, All-head, All-tail, All-weaker, recursion_from_All}
use Rattle.digit_tuple.specs.Names.{AreJoint, joint_names, place_of, places_of}
use Rattle.digit_tuple.proofs.JointNames.{AreJoint-joint_names}
use Rattle.digit_tuple.proofs.NameLemmas.{place_of-contained}
use Rattle.minimise.specs.Tracked.{size_of}
use Rattle.product_op.specs.Tracks.{AgreeOnShared, joint_size, joint_sizes}
use Rattle.product_op.proofs.SizeLemmas.{contained_from_place, joint_size-first, joint_size-second}
use Rattle.numeration.specs.Systems.{System}
use Rattle.numeration.specs.Representation.{sizes_of}
use Rattle.numeration.specs.SomeTracks.{no_system as no_digits, system_at, systems_at}
use Rattle.num_system.specs.Sealed.{SystemValue, system_of}
use Rattle.num_system.proofs.UnderNames.{under_each, under_left, under_own, under_right}
use Rattle.num_system.specs.Tracks.{ShareDirection, systems_of, direction_of, absent_system, system_under, systems_under}
use Rattle.number_relations.specs.Relations.{RelationValue, IsRelation, named_of, system_named}
use Rattle.number_relations.specs.Joins.{AgreeOnSystems, joint_systems}
use Rattle.num_system.proofs.SealedLemmas.{AreAllDirected}

-- the size of a relation's track is the number of digits of its system
size_named : (r : RelationValue) (name : List ℕ) → IsRelation r → Contains r.names name → size_of (named_of r) name ≡ (system_named r name).digits
size_named r name is found =
    let spot = place_of-contained r.names name found in
    let place : ℕ = place_of r.names name in
    let within : place < length r.systems = omega (arith, spot.0, is.count) in
    ap (λ (sizes : List ℕ). get_or sizes place 0) is.closed.sizes
    ∙ get_or-map (λ (s : System). s.digits) (systems_of r.systems) place (system_of absent_system) 0 (omega (arith, within, length-map r.systems system_of))
    ∙ ap (λ (s : System). s.digits) (get_or-map system_of r.systems place absent_system (system_of absent_system) within)

-- the first have the direction of all, and so have the second, where the two have one
pub first_directions : (xs ys : List SystemValue) → ShareDirection xs → AreAllDirected (direction_of (xs ++ ys)) xs
first_directions [] ys one = tt
first_directions (x ∷ xs) ys one = one

pub second_directions : (xs ys : List SystemValue) → ShareDirection ys → ((s t : SystemValue) → Contains xs s → Contains ys t → s.direction ≡ t.direction) → AreAllDirected (direction_of (xs ++ ys)) ys
second_directions [] ys one both = one
second_directions (x ∷ xs) ys one both =
    recursion_from_All (λ (t : SystemValue). t.direction ≡ x.direction) ys
    (All-weaker (Contains ys) (λ (t : SystemValue). t.direction ≡ x.direction) (λ t found. sym (both x t (0, omega arith, refl) found)) ys (All-contains_itself ys))

module _ (a b : RelationValue) (is_a : IsRelation a) (is_b : IsRelation b) (agree : AgreeOnSystems a b) where
  -- the name is one of the one's or of the other's
  abbrev pub IsEither : List ℕ → Type 0
  IsEither name = Contains a.names name ⊎ Contains b.names name

  abbrev pub joint_under : List ℕ → SystemValue
  joint_under name = system_under (a.names ++ b.names) (a.systems ++ b.systems) name

  -- a joint track is over its system in the one, and in the other
  pub joint_first : (name : List ℕ) → Contains a.names name → joint_under name ≡ system_named a name
  joint_first name found = under_left a.names b.names a.systems b.systems name is_a.count found

  pub joint_second : (name : List ℕ) → Contains b.names name → joint_under name ≡ system_named b name
  joint_second name found = elim (cases_lt (place_of a.names name) (length a.names)) [
    | inl less ↦ (let there = contained_from_place a.names name less in joint_first name there ∙ agree name there found)
    | inr past ↦ under_right a.names b.names a.systems b.systems name is_a.count past
  ]

  -- what is true of each system of both is true of those of the joint tracks
  joint_has : (Q : SystemValue → Type 0) → AllByRecursion Q a.systems → AllByRecursion Q b.systems → (name : List ℕ) → IsEither name → Q (joint_under name)
  joint_has Q first second name (inl found) = subst Q (sym (joint_first name found)) (under_each Q a.names a.systems name is_a.count first found)
  joint_has Q first second name (inr found) = subst Q (sym (joint_second name found)) (under_each Q b.names b.systems name is_b.count second found)

  joint_each : (Q : SystemValue → Type 0) → AllByRecursion Q a.systems → AllByRecursion Q b.systems → (names : List (List ℕ)) → All IsEither names
      → AllByRecursion Q (systems_under (a.names ++ b.names) (a.systems ++ b.systems) names)
  joint_each Q first second [] either = tt
  joint_each Q first second (name ∷ names) either = (
    joint_has Q first second name (All-head IsEither name names either),
    joint_each Q first second names (All-tail IsEither name names either),
  )

  are_joint : AreJoint a.names b.names (joint_names a.names b.names)
  are_joint = AreJoint-joint_names a.names b.names

  pub joint_all : (Q : SystemValue → Type 0) → AllByRecursion Q a.systems → AllByRecursion Q b.systems → AllByRecursion Q (joint_systems a b)
  joint_all Q first second = joint_each Q first second (joint_names a.names b.names) are_joint.no_others

  -- tracks of one name have one size
  pub agree_on_sizes : AgreeOnShared (named_of a) (named_of b)
  agree_on_sizes name first second =
      size_named a name is_a first ∙ ap (λ (s : SystemValue). s.digits) (agree name first second) ∙ sym (size_named b name is_b second)

  -- and the joint tracks have the sizes of their systems
  joint_size_is : (name : List ℕ) → IsEither name → joint_size (named_of a) (named_of b) name ≡ (joint_under name).digits
  joint_size_is name (inl found) =
      joint_size-first (named_of a) (named_of b) is_a.tracked.count is_b.tracked.count agree_on_sizes name found
      ∙ size_named a name is_a found ∙ ap (λ (s : SystemValue). s.digits) (sym (joint_first name found))
  joint_size_is name (inr found) =
      joint_size-second (named_of a) (named_of b) is_a.tracked.count is_b.tracked.count agree_on_sizes name found
      ∙ size_named b name is_b found ∙ ap (λ (s : SystemValue). s.digits) (sym (joint_second name found))

  sizes_each : (names : List (List ℕ)) → All IsEither names
      → map (joint_size (named_of a) (named_of b)) names ≡ sizes_of (systems_of (systems_under (a.names ++ b.names) (a.systems ++ b.systems) names))
  sizes_each [] either = refl
  sizes_each (name ∷ names) either =
      ap (λ n. n ∷ map (joint_size (named_of a) (named_of b)) names) (joint_size_is name (All-head IsEither name names either))
      ∙ ap (λ (ns : List ℕ). (joint_under name).digits ∷ ns) (sizes_each names (All-tail IsEither name names either))

  pub joint_sizes_are : joint_sizes (named_of a) (named_of b) ≡ sizes_of (systems_of (joint_systems a b))
  joint_sizes_are = sizes_each (joint_names a.names b.names) are_joint.no_others

  -- the joint track of a name is over the system of that name
  at_name : (name : List ℕ) → Contains (joint_names a.names b.names) name
      → system_at (systems_of (joint_systems a b)) (place_of (joint_names a.names b.names) name) ≡ system_of (joint_under name)
  at_name name found =
      let joint : List (List ℕ) = joint_names a.names b.names in
      let place : ℕ = place_of joint name in
      let spot = place_of-contained joint name found in
      let long : length (joint_systems a b) ≡ length joint = length-map joint joint_under in
      get_or-map system_of (joint_systems a b) place absent_system no_digits (omega (arith, spot.0, long))
      ∙ ap system_of (get_or-map joint_under joint place [] absent_system spot.0)
      ∙ ap (λ (n : List ℕ). system_of (joint_under n)) spot.1

  -- so the places of the one's names have its systems, and those of the other's its
  places_each : (r : RelationValue) → ((name : List ℕ) → Contains r.names name → joint_under name ≡ system_named r name) → (names : List (List ℕ)) → All (Contains r.names) names
      → All (Contains (joint_names a.names b.names)) names
      → systems_at (places_of (joint_names a.names b.names) names) (systems_of (joint_systems a b)) ≡ systems_of (systems_under r.names r.systems names)
  places_each r same [] own there = refl
  places_each r same (name ∷ names) own there =
      ap (λ (s : System). s ∷ systems_at (places_of (joint_names a.names b.names) names) (systems_of (joint_systems a b)))
      (at_name name (All-head (Contains (joint_names a.names b.names)) name names there) ∙ ap system_of (same name (All-head (Contains r.names) name names own)))
      ∙ ap (λ (ss : List System). system_of (system_named r name) ∷ ss)
      (places_each r same names (All-tail (Contains r.names) name names own) (All-tail (Contains (joint_names a.names b.names)) name names there))

  pub first_systems : systems_at (places_of (joint_names a.names b.names) a.names) (systems_of (joint_systems a b)) ≡ systems_of a.systems
  first_systems =
      places_each a joint_first a.names (All-contains_itself a.names) are_joint.all_first
      ∙ ap systems_of (under_own a.names a.systems is_a.tracked.distinct is_a.count)

  pub second_systems : systems_at (places_of (joint_names a.names b.names) b.names) (systems_of (joint_systems a b)) ≡ systems_of b.systems
  second_systems =
      places_each b joint_second b.names (All-contains_itself b.names) are_joint.all_second
      ∙ ap systems_of (under_own b.names b.systems is_b.tracked.distinct is_b.count)
