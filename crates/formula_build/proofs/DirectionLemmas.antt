-- The tracks of a plan that is over systems have one direction.
use Rattle.std.proofs.Common.{◌≡◌, ℕ, suc, ◌<◌, Bool, true, false, if◌then◌else◌, List, [], ◌∷◌, map, length, slice_index_or, inl, inr, ◌⊎◌, sym, ap, ◌∙◌, subst, arith}
use Rattle.std.proofs.lemmas.Bool.{false≢true}
use Rattle.digit_tuple.specs.declared.direction.Direction.{Direction}
use Rattle.formula_parse.specs.Tokens.{Name}
use Rattle.term_plans.specs.Tracks.{Track, same_track, has_track, without}
use Rattle.term_plans.specs.Plans.{Plan, compared, added, number, called, lettered, renamed, constant, joined, paired, complement, projected, tracks}
use Rattle.formula_plan.specs.FactPlans.{Headers}
use Rattle.term_plans.proofs.TrackLemmas.{same_self}
use Rattle.formula_build.specs.TrackSystems.{TrackSystems, TracksHaveOneDirection, HaveOneDirection, with_system, IsOver}
use Rattle.formula_build.specs.Resolved.{ShareDirection}
use Rattle.formula_build.proofs.HasLemmas.{has_cases, has_either, stays_apart}
use Rattle.formula_build.proofs.OverLemmas.{each_among}

module _ (direction : Name → Direction) (on : TrackSystems) where
  -- tracks over one system
  one_system : (y : Name) (ts : List Track) → ((t : Track) → has_track ts t ≡ true → on t ≡ y) → TracksHaveOneDirection direction on ts ts
  one_system y ts over s t in_s in_t = ap direction (over s in_s ∙ sym (over t in_t))

  -- the system of a track that is there is one of the list
  system_listed : (ts : List Track) (t : Track) → has_track ts t ≡ true → (i : ℕ) × (i < length (map on ts)) × (on t ≡ slice_index_or (map on ts) i [])
  system_listed [] t is = absurd (false≢true is)
  system_listed (u ∷ ts) t is = elim (has_cases u ts t is) [
    | inl same ↦ (0, omega arith, ap on (sym same))
    | inr later ↦ (let rest = system_listed ts t later in (suc rest.0, omega (arith, rest.1), rest.2))
  ]

  listed_share : (ts : List Track) (ss : List Name) → map on ts ≡ ss → ShareDirection direction ss → TracksHaveOneDirection direction on ts ts
  listed_share ts ss same share s t in_s in_t =
      let first = system_listed ts s in_s in
      let second = system_listed ts t in_t in
      ap direction first.2 ∙ subst (ShareDirection direction) (sym same) share first.0 second.0 first.1 second.1 ∙ ap direction (sym second.2)

  -- two lists of tracks, each of one direction, and both of one
  both_share : (ts us : List Track) → TracksHaveOneDirection direction on ts ts → TracksHaveOneDirection direction on us us → TracksHaveOneDirection direction on ts us
      → (s t : Track) → (has_track ts s ≡ true) ⊎ (has_track us s ≡ true) → (has_track ts t ≡ true) ⊎ (has_track us t ≡ true) → direction (on s) ≡ direction (on t)
  both_share ts us first second between s t (inl in_s) (inl in_t) = first s t in_s in_t
  both_share ts us first second between s t (inl in_s) (inr in_t) = between s t in_s in_t
  both_share ts us first second between s t (inr in_s) (inl in_t) = sym (between t s in_t in_s)
  both_share ts us first second between s t (inr in_s) (inr in_t) = second s t in_s in_t

other_system : (on : TrackSystems) (t u : Track) (y : Name) → same_track t u ≡ false → with_system t y on u ≡ on u
other_system on t u y apart = ap (λ (b : Bool). if b then y else on u) apart

module _ (h : Headers) (direction : Name → Direction) (of_automata : (n : Name) → ShareDirection direction (h.of_automaton n)) (of_words : (n : Name) → ShareDirection direction (h.of_word n)) where
  pub tracks_share : (p : Plan) (on : TrackSystems) → IsOver h direction on p → HaveOneDirection direction on p p
  tracks_share (compared y r s t) on over = one_system direction on y (s ∷ t ∷ []) (each_among (λ u. on u ≡ y) (s ∷ t ∷ []) (over.0, (over.1, tt)))
  tracks_share (added y s t u) on over = one_system direction on y (s ∷ t ∷ u ∷ []) (each_among (λ v. on v ≡ y) (s ∷ t ∷ u ∷ []) (over.0, (over.1, (over.2, tt))))
  tracks_share (number y t) on over = one_system direction on y (t ∷ []) (each_among (λ u. on u ≡ y) (t ∷ []) (over, tt))
  tracks_share (called n ts) on over = listed_share direction on ts (h.of_automaton n) over (of_automata n)
  tracks_share (lettered n ts r l) on over = listed_share direction on ts (h.of_word n) over (of_words n)
  tracks_share (renamed s t p) on over = λ u v in_u in_v.
      let first = source u in_u in
      let second = source v in_v in
      ap direction first.2 ∙ tracks_share p (with_system s (on t) on) over.1 first.0 second.0 first.1 second.1 ∙ ap direction (sym second.2)
    where
      source : (u : Track) → has_track (t ∷ without s (tracks p)) u ≡ true → (v : Track) × (has_track (tracks p) v ≡ true) × (on u ≡ with_system s (on t) on v)
      source u is = elim (has_cases t (without s (tracks p)) u is) [
        | inl same ↦ (s, over.0, ap on (sym same) ∙ sym (ap (λ (b : Bool). if b then on t else on s) (same_self s)))
        | inr later ↦ (let apart = stays_apart s (tracks p) u later in (u, apart.0, sym (other_system on s u (on t) apart.1)))
      ]
  tracks_share (constant y c t) on over = one_system direction on y (t ∷ []) (each_among (λ u. on u ≡ y) (t ∷ []) (over, tt))
  tracks_share (joined j p q) on over = λ s t in_s in_t.
      both_share direction on (tracks p) (tracks q) (tracks_share p on over.0) (tracks_share q on over.1) over.2 s t (has_either (tracks p) (tracks q) s in_s) (has_either (tracks p) (tracks q) t in_t)
  tracks_share (paired n ts r w us) on over = λ s t in_s in_t.
      both_share direction on ts us (listed_share direction on ts (h.of_word n) over.0 (of_words n)) (listed_share direction on us (h.of_word w) over.1 (of_words w)) over.2 s t
      (has_either ts us s in_s) (has_either ts us t in_t)
  tracks_share (complement p) on over = tracks_share p on over
  tracks_share (projected t p) on over = λ u v in_u in_v.
      let first = stays_apart t (tracks p) u in_u in
      let second = stays_apart t (tracks p) v in_v in
      ap direction (sym (other_system on t u over.1.0 first.1)) ∙ tracks_share p (with_system t over.1.0 on) over.1.1 u v first.0 second.0 ∙ ap direction (other_system on t v over.1.0 second.1)
