-- A plan whose tracks are over systems can be made.
use Rattle.std.proofs.Common.{◌≡◌, ◌≢◌, ℕ, ◌<◌, Bool, true, false, List, [], ◌∷◌, ◌++◌, map, length, get_or, inl, inr, ◌⊎◌, refl, sym, ap, ◌∙◌, subst, arith, if◌then◌else◌}
use Rattle.std.specs.List.{Contains}
use Rattle.std.specs.Str.{bytes_eq}
use Rattle.std.proofs.lemmas.Bool.{false≢true}
use Rattle.std.proofs.lemmas.List.{get_or_default, get_or-map, length-map}
use Rattle.std.proofs.lemmas.List.Elements.{Contains-get_or}
use Rattle.std.proofs.lemmas.Option.{same_Some}
use Rattle.std.proofs.lemmas.Slice.Eq.{bytes_eq-Decides}
use Rattle.digit_tuple.specs.Names.{AreJoint, place_of, joint_names, names_without}
use Rattle.digit_tuple.specs.declared.direction.Direction.{Direction}
use Rattle.digit_tuple.proofs.JointNames.{AreJoint-joint_names}
use Rattle.digit_tuple.proofs.MemberLemmas.{Contains-from_map, Contains-map}
use Rattle.digit_tuple.proofs.NameLemmas.{place_of-contained, place_of-is}
use Rattle.product_op.specs.declared.op.Op.{Op}
use Rattle.project_close.proofs.ProjectionLemmas.{names_without-there}
use Rattle.num_system.specs.Sealed.{SystemValue}
use Rattle.num_system.specs.Tracks.{absent_system, system_under, systems_under}
use Rattle.number_relations.specs.Relations.{RelationValue, IsRelation}
use Rattle.number_relations.specs.Relations as relations
use Rattle.number_relations.specs.Placed.{IsRenamed, changed_name, changed_names}
use Rattle.number_relations.specs.Comparisons.{compared_names}
use Rattle.number_relations.specs.Complements.{IsRelationComplement}
use Rattle.number_relations.specs.Joins.{AgreeOnSystems, IsRelationJoin}
use Rattle.number_relations.specs.Joins as joins
use Rattle.number_relations.specs.Projections.{IsRelationProjection}
use Rattle.number_relations.proofs.JointSystems.{joint_first, joint_second}
use Rattle.number_relations.proofs.NamedSteps.{other_stays, stays_other}
use Rattle.formula_parse.specs.Tokens.{Name, Relation, equal, unequal, less, greater, at_most, at_least}
use Rattle.term_plans.specs.Tracks.{Track, same_track, has_track, without}
use Rattle.term_plans.specs.Plans.{Plan, compared, added, number, called, lettered, renamed, constant, joined, paired, complement, projected, tracks}
use Rattle.formula_plan.specs.FactPlans.{Headers}
use Rattle.term_plans.proofs.TrackLemmas.{same_self, same_is, first_is}
use Rattle.term_plans.proofs.AgreementLemmas.{has_first, has_second}
use Rattle.plan_relations.specs.TrackNames.{track_name, IsNamed, AreNamed}
use Rattle.plan_relations.specs.Libraries.{LibraryValue, IsLibrary, IsSystemIn}
use Rattle.plan_relations.specs.Makings.{Makes, IsReady, MayJoin, comparison_of, op_of}
use Rattle.formula_build.specs.TrackSystems.{TrackSystems, with_system, HaveOneDirection, IsOver, IsKnown, Fits}
use Rattle.formula_build.proofs.HasLemmas.{HasTrackNamed, has_cases, has_contains, contains_has, track_named_later, has_either, exchanged, stays_apart, other_track_stays}
use Rattle.plan_relations.proofs.HoldLemmas.{plan_says}
use Rattle.formula_build.proofs.SystemsAtTracks.{systems_agree, systems_count, systems_over}
use Rattle.plan_relations.proofs.TrackNameLemmas.{names_determine, named_track}
use Rattle.formula_build.proofs.UnderTracks.{HasTracks, each_of, found_again, placed_tracks, tracks_over_one}
use Rattle.formula_build.proofs.WordTracks.{pair_may, pair_tracks, word_count}

apart_names : (s t : Track) → IsNamed s → IsNamed t → same_track s t ≡ false → track_name t ≢ track_name s
apart_names s t named also apart same = false≢true (sym apart ∙ ap (same_track s) (names_determine t s also named same) ∙ same_self s)

apart_tracks : (s t : Track) → track_name t ≢ track_name s → same_track s t ≡ false
apart_tracks s t other = by (same_track s t) refl
  where
    by : (b : Bool) → same_track s t ≡ b → b ≡ false
    by true same = absurd (other (ap track_name (sym (same_is s t same))))
    by false apart = refl

-- a comparison has its tracks in one order or the other
compared_there : (r : Relation) (s t u : Track) → has_track (s ∷ t ∷ []) u ≡ true → Contains (compared_names (comparison_of r) (track_name s) (track_name t)) (track_name u)
compared_there equal s t u is = has_contains (s ∷ t ∷ []) u is
compared_there unequal s t u is = has_contains (s ∷ t ∷ []) u is
compared_there less s t u is = has_contains (s ∷ t ∷ []) u is
compared_there greater s t u is = has_contains (t ∷ s ∷ []) u (exchanged s t u is)
compared_there at_most s t u is = has_contains (t ∷ s ∷ []) u (exchanged s t u is)
compared_there at_least s t u is = has_contains (s ∷ t ∷ []) u is

compared_only : (r : Relation) (s t : Track) (name : List ℕ) → Contains (compared_names (comparison_of r) (track_name s) (track_name t)) name → HasTrackNamed (s ∷ t ∷ []) name
compared_only equal s t name found = contains_has (s ∷ t ∷ []) name found
compared_only unequal s t name found = contains_has (s ∷ t ∷ []) name found
compared_only less s t name found = contains_has (s ∷ t ∷ []) name found
compared_only greater s t name found = let track_named = contains_has (t ∷ s ∷ []) name found in (track_named.0, exchanged t s track_named.0 track_named.1, track_named.2)
compared_only at_most s t name found = let track_named = contains_has (t ∷ s ∷ []) name found in (track_named.0, exchanged t s track_named.0 track_named.1, track_named.2)
compared_only at_least s t name found = contains_has (s ∷ t ∷ []) name found

-- tracks over one system
one_over : (on : TrackSystems) (y : Name) (t : Track) → on t ≡ y → (u : Track) → has_track (t ∷ []) u ≡ true → on u ≡ y
one_over on y t is u found = elim (has_cases t [] u found) [ inl same ↦ ap on (sym same) ∙ is | inr none ↦ absurd (false≢true none) ]

two_over : (on : TrackSystems) (y : Name) (s t : Track) → on s ≡ y → on t ≡ y → (u : Track) → has_track (s ∷ t ∷ []) u ≡ true → on u ≡ y
two_over on y s t first second u found = elim (has_cases s (t ∷ []) u found) [ inl same ↦ ap on (sym same) ∙ first | inr later ↦ one_over on y t second u later ]

three_over : (on : TrackSystems) (y : Name) (s t w : Track) → on s ≡ y → on t ≡ y → on w ≡ y → (u : Track) → has_track (s ∷ t ∷ w ∷ []) u ≡ true → on u ≡ y
three_over on y s t w first second third u found = elim (has_cases s (t ∷ w ∷ []) u found) [ inl same ↦ ap on (sym same) ∙ first | inr later ↦ two_over on y t w second third u later ]

module _ (l : LibraryValue) (h : Headers) (read_direction : Name → Direction) (fits : Fits l h read_direction) (library : IsLibrary l) where
  one_system : (y : Name) (s t : SystemValue) → IsSystemIn l y s → IsSystemIn l y t → s ≡ t
  one_system y s t first second = same_Some s t (sym first ∙ second)

  -- what may be joined
  may_join : (on : TrackSystems) (p q : Plan) (a b : RelationValue) → AreNamed p → AreNamed q → IsRelation a → IsRelation b → HasTracks l on (tracks p) a → HasTracks l on (tracks q) b
      → HaveOneDirection read_direction on p q → MayJoin a b
  may_join on p q a b named also is_a is_b first second direction = (agree, one)
    where
      agree : AgreeOnSystems a b
      agree name in_a in_b =
          let here = first.only name in_a in
          let there = second.only name in_b in
          let same : here.0 ≡ there.0 = names_determine here.0 there.0 (named_track p here.0 named here.1) (named_track q there.0 also there.1) (here.2 ∙ sym there.2) in
          let left : IsSystemIn l (on here.0) (relations.system_named a name) = subst (λ (n : List ℕ). IsSystemIn l (on here.0) (relations.system_named a n)) here.2 (first.over here.0 here.1) in
          let right : IsSystemIn l (on there.0) (relations.system_named b name) = subst (λ (n : List ℕ). IsSystemIn l (on there.0) (relations.system_named b n)) there.2 (second.over there.0 there.1) in
          one_system (on there.0) (relations.system_named a name) (relations.system_named b name) (subst (λ (t : Track). IsSystemIn l (on t) (relations.system_named a name)) same left) right

      -- each system is that of a track
      of_track : (r : RelationValue) (ts : List Track) → IsRelation r → HasTracks l on ts r → (s : SystemValue) → Contains r.systems s → (t : Track) × (has_track ts t ≡ true) × (s.direction ≡ read_direction (on t))
      of_track r ts is has s (i, within, at) =
          let inside : i < length r.names = omega (arith, within, is.count) in
          let name : List ℕ = get_or r.names i [] in
          let track_named = has.only name (Contains-get_or r.names i [] inside) in
          let found : relations.system_named r name ≡ s = ap (λ (k : ℕ). get_or r.systems k absent_system) (place_of-is r.names name i is.tracked.distinct inside refl) ∙ get_or_default r.systems i absent_system s within ∙ at in
          (track_named.0, track_named.1, fits.directions (on track_named.0) s (subst (IsSystemIn l (on track_named.0)) (ap (relations.system_named r) track_named.2 ∙ found) (has.over track_named.0 track_named.1)))

      one : joins.HaveOneDirection a b
      one s t in_a in_b =
          let left = of_track a (tracks p) is_a first s in_a in
          let right = of_track b (tracks q) is_b second t in_b in
          left.2 ∙ direction left.0 right.0 left.1 right.1 ∙ sym right.2

  -- the tracks of what is joined are those of both
  joined_tracks : (on : TrackSystems) (p q : Plan) (op : Op) (a b c : RelationValue) → IsRelation a → IsRelation b → AgreeOnSystems a b → HasTracks l on (tracks p) a → HasTracks l on (tracks q) b
      → IsRelationJoin op a b c → HasTracks l on (tracks p ++ tracks q) c
  joined_tracks on p q op a b c is_a is_b agree first second made = record { there = there; only = only; over = over }
    where
      all : AreJoint a.names b.names (joint_names a.names b.names)
      all = AreJoint-joint_names a.names b.names

      named : c.names ≡ (joint_names a.names b.names)
      named = made.join.names

      in_joint : (t : Track) → has_track (tracks p ++ tracks q) t ≡ true → Contains (joint_names a.names b.names) (track_name t)
      in_joint t is = elim (has_either (tracks p) (tracks q) t is) [
        | inl left ↦ each_of (Contains (joint_names a.names b.names)) a.names (track_name t) all.all_first (first.there t left)
        | inr right ↦ each_of (Contains (joint_names a.names b.names)) b.names (track_name t) all.all_second (second.there t right)
      ]

      there : (t : Track) → has_track (tracks p ++ tracks q) t ≡ true → Contains c.names (track_name t)
      there t is = subst (λ (names : List (List ℕ)). Contains names (track_name t)) (sym named) (in_joint t is)

      only : (name : List ℕ) → Contains c.names name → HasTrackNamed (tracks p ++ tracks q) name
      only name found =
          elim (each_of (λ n. Contains a.names n ⊎ Contains b.names n) (joint_names a.names b.names) name all.no_others (subst (λ (names : List (List ℕ)). Contains names name) named found)) [
            | inl left ↦ (let track_named = first.only name left in (track_named.0, has_first (tracks p) (tracks q) track_named.0 track_named.1, track_named.2))
            | inr right ↦ (let track_named = second.only name right in (track_named.0, has_second (tracks p) (tracks q) track_named.0 track_named.1, track_named.2))
          ]

      at : (name : List ℕ) → Contains (joint_names a.names b.names) name → relations.system_named c name ≡ system_under (a.names ++ b.names) (a.systems ++ b.systems) name
      at name found =
          ap (λ (ss : List SystemValue). system_under c.names ss name) made.systems
          ∙ ap (λ (names : List (List ℕ)). system_under names (systems_under (a.names ++ b.names) (a.systems ++ b.systems) (joint_names a.names b.names)) name) named
          ∙ found_again (a.names ++ b.names) (a.systems ++ b.systems) (joint_names a.names b.names) name found

      over : (t : Track) → has_track (tracks p ++ tracks q) t ≡ true → IsSystemIn l (on t) (relations.system_named c (track_name t))
      over t is = elim (has_either (tracks p) (tracks q) t is) [
        | inl left ↦ subst (IsSystemIn l (on t)) (sym (at (track_name t) (in_joint t is) ∙ joint_first a b is_a is_b agree (track_name t) (first.there t left))) (first.over t left)
        | inr right ↦ subst (IsSystemIn l (on t)) (sym (at (track_name t) (in_joint t is) ∙ joint_second a b is_a is_b agree (track_name t) (second.there t right))) (second.over t right)
      ]

  other_system : (on : TrackSystems) (t u : Track) (y : Name) → same_track t u ≡ false → with_system t y on u ≡ on u
  other_system on t u y apart = ap (λ b. if b then y else on u) apart

  own_system : (on : TrackSystems) (t : Track) (y : Name) → with_system t y on t ≡ y
  own_system on t y = ap (λ b. if b then y else on t) (same_self t)

  -- the tracks of a projection are the others
  projected_tracks : (on : TrackSystems) (t : Track) (p : Plan) (y : Name) (a c : RelationValue) → IsNamed t → AreNamed p → HasTracks l (with_system t y on) (tracks p) a
      → IsRelationProjection (track_name t) a c → HasTracks l on (without t (tracks p)) c
  projected_tracks on t p y a c named all has made = record { there = there; only = only; over = over }
    where
      in_names : (u : Track) → has_track (without t (tracks p)) u ≡ true → Contains (names_without a.names (track_name t)) (track_name u)
      in_names u is =
          let stays = stays_apart t (tracks p) u is in
          other_stays a.names (track_name t) (track_name u) (has.there u stays.0) (apart_names t u named (named_track p u all stays.0) stays.1)

      there : (u : Track) → has_track (without t (tracks p)) u ≡ true → Contains c.names (track_name u)
      there u is = subst (λ (ns : List (List ℕ)). Contains ns (track_name u)) (sym made.projection.names) (in_names u is)

      only : (name : List ℕ) → Contains c.names name → HasTrackNamed (without t (tracks p)) name
      only name found =
          let kept = subst (λ (ns : List (List ℕ)). Contains ns name) made.projection.names found in
          let track_named = has.only name (each_of (Contains a.names) (names_without a.names (track_name t)) name (names_without-there a.names (track_name t)) kept) in
          let other = stays_other a.names (track_name t) name kept in
          (track_named.0, other_track_stays t (tracks p) track_named.0 track_named.1 (apart_tracks t track_named.0 (λ same. other (sym track_named.2 ∙ same))), track_named.2)

      over : (u : Track) → has_track (without t (tracks p)) u ≡ true → IsSystemIn l (on u) (relations.system_named c (track_name u))
      over u is =
          let stays = stays_apart t (tracks p) u is in
          let at : relations.system_named c (track_name u) ≡ relations.system_named a (track_name u) =
          ap (λ (ss : List SystemValue). system_under c.names ss (track_name u)) made.systems
          ∙ ap (λ (ns : List (List ℕ)). system_under ns (systems_under a.names a.systems (names_without a.names (track_name t))) (track_name u)) made.projection.names
          ∙ found_again a.names a.systems (names_without a.names (track_name t)) (track_name u) (in_names u is) in
          subst (λ (x : Name). IsSystemIn l x (relations.system_named c (track_name u))) (other_system on t u y stays.1) (subst (IsSystemIn l (with_system t y on u)) (sym at) (has.over u stays.0))

  -- the tracks of a complement are the same
  complement_tracks : (on : TrackSystems) (ts : List Track) (a c : RelationValue) → HasTracks l on ts a → IsRelationComplement a c → HasTracks l on ts c
  complement_tracks on ts a c has made = record {
    there = λ t is. subst (λ (ns : List (List ℕ)). Contains ns (track_name t)) (sym made.complement.names) (has.there t is);
    only = λ name found. has.only name (subst (λ (ns : List (List ℕ)). Contains ns name) made.complement.names found);
    over = λ t is.
        subst (IsSystemIn l (on t))
        (sym (ap (λ (ss : List SystemValue). system_under c.names ss (track_name t)) made.systems ∙ ap (λ (ns : List (List ℕ)). system_under ns a.systems (track_name t)) made.complement.names))
        (has.over t is);
  }

  -- the tracks of a relation with one under another name
  module _ (on : TrackSystems) (s t : Track) (p : Plan) (a : RelationValue) (named : IsNamed s) (also : IsNamed t) (all : AreNamed p) (is_a : IsRelation a)
      (has : HasTracks l (with_system s (on t) on) (tracks p) a) (found : has_track (tracks p) s ≡ true) where
    abbrev from : List ℕ
    from = track_name s

    abbrev to : List ℕ
    to = track_name t

    abbrev under : List (List ℕ)
    under = changed_names from to a.names

    abbrev us : List Track
    us = t ∷ without s (tracks p)

    changed_from : changed_name from to from ≡ to
    changed_from = ap (λ b. if b then to else from) ((bytes_eq-Decides from from).1 refl)

    changed_else : (name : List ℕ) → name ≢ from → changed_name from to name ≡ name
    changed_else name other = by (bytes_eq name from) refl
      where
        by : (b : Bool) → bytes_eq name from ≡ b → (if b then to else name) ≡ name
        by true same = absurd (other ((bytes_eq-Decides name from).0 same))
        by false apart = refl

    -- a track of the relation is the renamed one, or stays
    abbrev Moves : Track → List ℕ → Type 0
    Moves v name = ((s ≡ v) × (to ≡ name)) ⊎ ((has_track (without s (tracks p)) v ≡ true) × (track_name v ≡ name))

    moves : (v : Track) (name : List ℕ) → has_track (tracks p) v ≡ true → changed_name from to (track_name v) ≡ name → Moves v name
    moves v name there is = by (same_track s v) refl
      where
        by : (b : Bool) → same_track s v ≡ b → Moves v name
        by true same = let e : s ≡ v = same_is s v same in inl (e, sym changed_from ∙ ap (λ (u : Track). changed_name from to (track_name u)) e ∙ is)
        by false apart = inr (
          other_track_stays s (tracks p) v there apart,
          sym (changed_else (track_name v) (apart_names s v named (named_track p v all there) apart)) ∙ is,
        )

    renamed_there : (u : Track) → has_track us u ≡ true → Contains under (track_name u)
    renamed_there u is = elim (has_cases t (without s (tracks p)) u is) [
      | inl same ↦ subst (Contains under) (changed_from ∙ ap track_name same) (Contains-map (changed_name from to) a.names from (has.there s found))
      | inr later ↦ (
          let stays = stays_apart s (tracks p) u later in
          subst (Contains under) (changed_else (track_name u) (apart_names s u named (named_track p u all stays.0) stays.1)) (Contains-map (changed_name from to) a.names (track_name u) (has.there u stays.0)))
    ]

    renamed_only : (name : List ℕ) → Contains under name → HasTrackNamed us name
    renamed_only name there =
        let origin = Contains-from_map (changed_name from to) a.names name there in
        let track_named = has.only origin.0 origin.1 in
        elim (moves track_named.0 name track_named.1 (ap (changed_name from to) track_named.2 ∙ origin.2)) [
          | inl here ↦ (t, first_is t (without s (tracks p)), here.1)
          | inr stays ↦ track_named_later t (without s (tracks p)) name (track_named.0, stays.0, stays.1)
        ]

    -- the system that the first track of the new names has
    renamed_over : (u : Track) → has_track us u ≡ true → IsSystemIn l (on u) (system_under under a.systems (track_name u))
    renamed_over u is =
        let spot = place_of-contained under (track_name u) (renamed_there u is) in
        let i : ℕ = place_of under (track_name u) in
        let within : i < length a.names = omega (arith, spot.0, length-map a.names (changed_name from to)) in
        let name : List ℕ = get_or a.names i [] in
        let track_named = has.only name (Contains-get_or a.names i [] within) in
        let moved : changed_name from to (track_name track_named.0) ≡ track_name u =
        ap (changed_name from to) track_named.2 ∙ sym (get_or-map (changed_name from to) a.names i [] [] within) ∙ spot.1 in
        let own : relations.system_named a (track_name track_named.0) ≡ get_or a.systems i absent_system =
        ap (λ (k : ℕ). get_or a.systems k absent_system) (place_of-is a.names (track_name track_named.0) i is_a.tracked.distinct within (sym track_named.2)) in
        let has_it : IsSystemIn l (with_system s (on t) on track_named.0) (get_or a.systems i absent_system) = subst (IsSystemIn l (with_system s (on t) on track_named.0)) own (has.over track_named.0 track_named.1) in
        let named_u : IsNamed u = named_new u is in
        elim (moves track_named.0 (track_name u) track_named.1 moved) [
          | inl here ↦ (
              let e : with_system s (on t) on track_named.0 ≡ on u =
              ap (with_system s (on t) on) (sym here.0) ∙ own_system on s (on t) ∙ ap on (names_determine t u also named_u here.1) in
              subst (λ (x : Name). IsSystemIn l x (get_or a.systems i absent_system)) e has_it)
          | inr stays ↦ (
              let apart = stays_apart s (tracks p) track_named.0 stays.0 in
              let e : with_system s (on t) on track_named.0 ≡ on u = other_system on s track_named.0 (on t) apart.1 ∙ ap on (names_determine track_named.0 u (named_track p track_named.0 all apart.0) named_u stays.1) in
              subst (λ (x : Name). IsSystemIn l x (get_or a.systems i absent_system)) e has_it)
        ]
      where
        named_new : (v : Track) → has_track us v ≡ true → IsNamed v
        named_new v there = elim (has_cases t (without s (tracks p)) v there) [
          | inl same ↦ subst IsNamed same also
          | inr later ↦ named_track p v all (stays_apart s (tracks p) v later).0
        ]

    -- the two names have one system, where both are there
    renamed_agree : Contains a.names from → Contains a.names to → relations.system_named a from ≡ relations.system_named a to
    renamed_agree in_from in_to =
        let track_named = has.only to in_to in
        let named_v = named_track p track_named.0 all track_named.1 in
        let is_t : track_named.0 ≡ t = names_determine track_named.0 t named_v also track_named.2 in
        let there : has_track (tracks p) t ≡ true = subst (λ (v : Track). has_track (tracks p) v ≡ true) is_t track_named.1 in
        let first : IsSystemIn l (on t) (relations.system_named a from) = subst (λ (x : Name). IsSystemIn l x (relations.system_named a from)) (own_system on s (on t)) (has.over s found) in
        one_system (on t) (relations.system_named a from) (relations.system_named a to) first (second (same_track s t) refl there)
      where
        second : (b : Bool) → same_track s t ≡ b → has_track (tracks p) t ≡ true → IsSystemIn l (on t) (relations.system_named a to)
        second true same there = subst (λ (x : Name). IsSystemIn l x (relations.system_named a to)) (ap (λ b. if b then on t else on t) same) (has.over t there)
        second false apart there = subst (λ (x : Name). IsSystemIn l x (relations.system_named a to)) (other_system on s t (on t) apart) (has.over t there)

    pub renamed_tracks : (c : RelationValue) → IsRenamed a from to c → HasTracks l on (t ∷ without s (tracks p)) c
    renamed_tracks c made = placed_tracks l on us under c made.names_are renamed_there renamed_only a.systems made.systems_are renamed_over

  mutual
    -- such a plan can be made
    pub over_ready : (p : Plan) (on : TrackSystems) → AreNamed p → IsKnown l p → IsOver h read_direction on p → IsReady l p
    over_ready (compared y r s t) on named known over = known
    over_ready (added y s t u) on named known over = known
    over_ready (number y t) on named known over = known
    over_ready (called n ts) on named (r, is) over =
        let fit = fits.relations n r is in
        (r, is, systems_count l on ts (h.of_automaton n) r.systems fit.each over ∙ sym fit.count, systems_agree l on ts (h.of_automaton n) r.systems fit.each over named)
    over_ready (lettered n ts r b) on named (w, is) over =
        (w, is, word_count l h read_direction fits library on n w ts is over, systems_agree l on ts (h.of_word n) w.systems (fits.words n w is).each over named)
    over_ready (renamed s t p) on named known over = (
      over_ready p (with_system s (on t) on) named.2 known over.1,
      λ a made.
          let ready = over_ready p (with_system s (on t) on) named.2 known over.1 in
          renamed_agree on s t p a named.0 named.1 named.2 (plan_says l library p a named.2 ready made).0 (over_tracks p (with_system s (on t) on) a named.2 known over.1 made) over.0,
    )
    over_ready (constant y k t) on named known over = known
    over_ready (joined j p q) on named known over =
        let first = over_ready p on named.0 known.0 over.0 in
        let second = over_ready q on named.1 known.1 over.1 in (
          first,
          second,
          λ a b made also.
              may_join on p q a b named.0 named.1 (plan_says l library p a named.0 first made).0 (plan_says l library q b named.1 second also).0
              (over_tracks p on a named.0 known.0 over.0 made) (over_tracks q on b named.1 known.1 over.1 also) over.2,
        )
    over_ready (paired n ts r m us) on named ((v, is), (w, also)) over =
        (v, w, is, also, pair_may l h read_direction fits library on n m v w ts us is also over.0 over.1 named.0 named.1 over.2)
    over_ready (complement p) on named known over = over_ready p on named known over
    over_ready (projected t p) on named known over = (
      over_ready p (with_system t over.1.0 on) named.1 known over.1.1,
      λ a made. (over_tracks p (with_system t over.1.0 on) a named.1 known over.1.1 made).there t over.0,
    )

    -- and what it makes has its tracks
    pub over_tracks : (p : Plan) (on : TrackSystems) (c : RelationValue) → AreNamed p → IsKnown l p → IsOver h read_direction on p → Makes l p c → HasTracks l on (tracks p) c
    over_tracks (compared y r s t) on c named known over (system, is, made) =
        tracks_over_one l on (s ∷ t ∷ []) (compared_names (comparison_of r) (track_name s) (track_name t)) c made.names_are (compared_there r s t) (compared_only r s t) y system is made.systems_are
        (two_over on y s t over.0 over.1)
    over_tracks (added y s t u) on c named known over (system, is, made) =
        let ts : List Track = s ∷ t ∷ u ∷ [] in
        tracks_over_one l on ts (map track_name ts) c made.names_are (has_contains ts) (contains_has ts) y system is made.systems_are (three_over on y s t u over.0 over.1 over.2)
    over_tracks (number y t) on c named known over (system, is, made) =
        let ts : List Track = t ∷ [] in
        tracks_over_one l on ts (map track_name ts) c made.names_are (has_contains ts) (contains_has ts) y system is made.systems_are (one_over on y t over)
    over_tracks (called n ts) on c named known over (r, is, made) =
        placed_tracks l on ts (map track_name ts) c made.names_are (has_contains ts) (contains_has ts) r.systems made.systems_are
        (systems_over l on ts (h.of_automaton n) r.systems (fits.relations n r is).each over named)
    over_tracks (lettered n ts r b) on c named known over (w, is, (d, set, made)) =
        placed_tracks l on ts (map track_name ts) c made.names_are (has_contains ts) (contains_has ts) w.systems made.systems_are
        (systems_over l on ts (h.of_word n) w.systems (fits.words n w is).each over named)
    over_tracks (renamed s t p) on c named known over (a, is, made) =
        let inner = with_system s (on t) on in
        let ready = over_ready p inner named.2 known over.1 in
        renamed_tracks on s t p a named.0 named.1 named.2 (plan_says l library p a named.2 ready is).0 (over_tracks p inner a named.2 known over.1 is) over.0 c made
    over_tracks (constant y k t) on c named known over (system, is, made) =
        let ts : List Track = t ∷ [] in
        tracks_over_one l on ts (map track_name ts) c made.names (has_contains ts) (contains_has ts) y system is made.systems (one_over on y t over)
    over_tracks (joined j p q) on c named known over (a, b, is, also, made) =
        let first = over_tracks p on a named.0 known.0 over.0 is in
        let second = over_tracks q on b named.1 known.1 over.1 also in
        let is_a = (plan_says l library p a named.0 (over_ready p on named.0 known.0 over.0) is).0 in
        let is_b = (plan_says l library q b named.1 (over_ready q on named.1 known.1 over.1) also).0 in
        joined_tracks on p q (op_of j) a b c is_a is_b (may_join on p q a b named.0 named.1 is_a is_b first second over.2).0 first second made
    over_tracks (paired n ts r m us) on c named known over (v, w, is, also, made) =
        pair_tracks l h read_direction fits library on n m v w ts us is also over.0 over.1 named.0 named.1 (comparison_of r) c made
    over_tracks (complement p) on c named known over (a, is, made) = complement_tracks on (tracks p) a c (over_tracks p on a named known over is) made
    over_tracks (projected t p) on c named known over (a, is, made) =
        projected_tracks on t p over.1.0 a c named.0 named.1 (over_tracks p (with_system t over.1.0 on) a named.1 known over.1.1 is) made
