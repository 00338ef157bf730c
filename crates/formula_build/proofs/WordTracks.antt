-- The tracks of what is made of words.
use Rattle.std.proofs.Common.{◌≡◌, ℕ, ◌<◌, ◌⊎◌, inl, inr, true, List, ◌++◌, map, length, get_or, sym, ap, ◌∙◌, subst, arith}
use Rattle.std.specs.List.{AllByRecursion, Contains}
use Rattle.std.proofs.lemmas.List.{get_or_default, length-map, map-append}
use Rattle.std.proofs.lemmas.List.Elements.{Contains-append_left, Contains-append_right, Contains-append_cases}
use Rattle.digit_tuple.specs.Names.{AreJoint, joint_names}
use Rattle.digit_tuple.specs.declared.direction.Direction.{Direction}
use Rattle.digit_tuple.proofs.JointNames.{AreJoint-joint_names}
use Rattle.num_system.specs.Sealed.{SystemValue}
use Rattle.num_system.specs.Tracks.{absent_system, AgreeUnder, ShareDirection, systems_under, direction_of}
use Rattle.num_system.specs.declared.comparison.Comparison.{Comparison}
use Rattle.number_relations.specs.Relations.{RelationValue}
use Rattle.number_relations.proofs.JointSystems.{first_directions, second_directions}
use Rattle.word_output.specs.Words.{WordValue}
use Rattle.formula_parse.specs.Tokens.{Name}
use Rattle.term_plans.specs.Tracks.{Track, fresh, has_track}
use Rattle.formula_plan.specs.FactPlans.{Headers}
use Rattle.plan_relations.specs.TrackNames.{track_name, IsNamed}
use Rattle.plan_relations.specs.Libraries.{LibraryValue, IsLibrary, IsSystemIn, IsWordIn}
use Rattle.plan_relations.specs.PairRelations.{MayPairWords, IsRelationPair}
use Rattle.plan_relations.specs.Makings.{placed_on}
use Rattle.formula_build.specs.TrackSystems.{TrackSystems, TracksHaveOneDirection, IsWordOverSystems, Fits}
use Rattle.plan_relations.proofs.AllLemmas.{all_both}
use Rattle.formula_build.proofs.HasLemmas.{HasTrackNamed, contains_has, has_contains}
use Rattle.plan_relations.proofs.OneMadeLemmas.{word_is}
use Rattle.formula_build.proofs.SystemsAtTracks.{AreSystemsIn, has_at, systems_agree, systems_count, systems_over, system_at_track, systems_both}
use Rattle.formula_build.proofs.UnderTracks.{HasTracks, each_of, tracks_under}

module _ (l : LibraryValue) (h : Headers) (read_direction : Name → Direction) (fits : Fits l h read_direction) (library : IsLibrary l) (on : TrackSystems) where
  -- a word has as many tracks as its header, over the header's systems
  module _ (n : Name) (w : WordValue) (ts : List Track) (is : IsWordIn l n w) (same : map on ts ≡ h.of_word n) where
    fit : IsWordOverSystems l (h.of_word n) w
    fit = fits.words n w is

    pub word_count : length ts ≡ length w.systems
    word_count = systems_count l on ts (h.of_word n) w.systems fit.each same ∙ sym fit.count

    -- each of its systems is that of a track, and has the track's direction
    faces : (s : SystemValue) → Contains w.systems s → (t : Track) × (has_track ts t ≡ true) × (s.direction ≡ read_direction (on t))
    faces s (i, within, at) =
        let inside : i < length ts = omega (arith, within, word_count) in
        let t : Track = get_or ts i (fresh 0) in
        let found : get_or w.systems i absent_system ≡ s = get_or_default w.systems i absent_system s within ∙ at in
        (t, has_at ts i inside, fits.directions (on t) s (subst (IsSystemIn l (on t)) found (system_at_track l on ts (h.of_word n) w.systems fit.each same i inside)))

  module _ (n m : Name) (v w : WordValue) (ts us : List Track) (is : IsWordIn l n v) (also : IsWordIn l m w) (same : map on ts ≡ h.of_word n) (alike : map on us ≡ h.of_word m)
      (first : AllByRecursion IsNamed ts) (second : AllByRecursion IsNamed us) where
    abbrev both : List Track
    both = ts ++ us

    abbrev names : List Name
    names = h.of_word n ++ h.of_word m

    abbrev systems : List SystemValue
    systems = v.systems ++ w.systems

    are : AreSystemsIn l names systems
    are = systems_both l (h.of_word n) (h.of_word m) v.systems w.systems (fits.words n v is).count (fits.words n v is).each (fits.words m w also).each

    same_both : map on both ≡ names
    same_both = map-append on ts us ∙ ap (λ (ys : List Name). ys ++ map on us) same ∙ ap (λ (ys : List Name). h.of_word n ++ ys) alike

    all : AllByRecursion IsNamed both
    all = all_both IsNamed ts us first second

    abbrev under : List (List ℕ)
    under = map track_name ts ++ map track_name us

    under_is : map track_name both ≡ under
    under_is = map-append track_name ts us

    shared_direction : TracksHaveOneDirection read_direction on ts us → ShareDirection systems
    shared_direction direction =
        all_both (λ (s : SystemValue). s.direction ≡ direction_of systems) v.systems w.systems
        (first_directions v.systems w.systems (word_is l n v library is).shared_direction)
        (second_directions v.systems w.systems (word_is l m w library also).shared_direction across)
      where
        across : (s t : SystemValue) → Contains v.systems s → Contains w.systems t → s.direction ≡ t.direction
        across s t in_v in_w =
            let left = faces n v ts is same s in_v in
            let right = faces m w us also alike t in_w in
            left.2 ∙ direction left.0 right.0 left.1 right.1 ∙ sym right.2

    pub pair_may : TracksHaveOneDirection read_direction on ts us → MayPairWords (placed_on v ts) (placed_on w us)
    pair_may direction = record {
      first_count = length-map ts track_name ∙ word_count n v ts is same;
      second_count = length-map us track_name ∙ word_count m w us also alike;
      agree = subst (λ (ns : List (List ℕ)). AgreeUnder ns systems) under_is (systems_agree l on both names systems are same_both all);
      shared_direction = shared_direction direction;
    }

    -- the tracks of a pair are those of both
    module _ (comparison : Comparison) (c : RelationValue) (made : IsRelationPair comparison (placed_on v ts) (placed_on w us) c) where
      abbrev joint : List (List ℕ)
      joint = joint_names (map track_name ts) (map track_name us)

      are_joint : AreJoint (map track_name ts) (map track_name us) joint
      are_joint = AreJoint-joint_names (map track_name ts) (map track_name us)

      in_joint : (t : Track) → has_track both t ≡ true → Contains joint (track_name t)
      in_joint t found = elim (Contains-append_cases (map track_name ts) (map track_name us) (track_name t) (subst (λ (ns : List (List ℕ)). Contains ns (track_name t)) under_is (has_contains both t found))) [
        | inl left ↦ each_of (Contains joint) (map track_name ts) (track_name t) are_joint.all_first left
        | inr right ↦ each_of (Contains joint) (map track_name us) (track_name t) are_joint.all_second right
      ]

      of_joint : (name : List ℕ) → Contains joint name → HasTrackNamed both name
      of_joint name found =
          contains_has both name
          (subst (λ (ns : List (List ℕ)). Contains ns name) (sym under_is)
          (elim (each_of (λ k. Contains (map track_name ts) k ⊎ Contains (map track_name us) k) joint name are_joint.no_others found) [
            | inl left ↦ Contains-append_left (map track_name ts) (map track_name us) name left
            | inr right ↦ Contains-append_right (map track_name ts) (map track_name us) name right
          ]))

      pub pair_tracks : HasTracks l on both c
      pair_tracks =
          tracks_under l on both (map track_name both) joint c made.pair.names in_joint of_joint systems
          (made.systems ∙ ap (λ (ns : List (List ℕ)). systems_under ns systems joint) (sym under_is)) (systems_over l on both names systems are same_both all)
