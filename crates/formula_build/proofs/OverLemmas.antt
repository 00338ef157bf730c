-- Over which systems plans are. It depends on the systems of their own tracks alone.
use Rattle.std.specs.Prelude.{⊤}
use Rattle.std.proofs.Common.{◌≡◌, Bool, true, false, List, [], ◌∷◌, ◌++◌, map, Option, None, Some, inl, inr, ◌⊎◌, refl, sym, ap, ◌∙◌, subst, if◌then◌else◌}
use Rattle.std.specs.List.{AllByRecursion}
use Rattle.std.proofs.lemmas.Bool.{false≢true}
use Rattle.digit_tuple.specs.declared.direction.Direction.{Direction}
use Rattle.formula_parse.specs.Tokens.{Name}
use Rattle.formula_parse.specs.Trees.{Joint, and}
use Rattle.term_plans.specs.Tracks.{Track, same_track, has_track, without}
use Rattle.term_plans.specs.Plans.{Plan, compared, added, number, called, lettered, renamed, constant, joined, paired, complement, projected, tracks, Made}
use Rattle.term_plans.specs.TermPlans.{closed_by, linked}
use Rattle.formula_plan.specs.FactPlans.{Headers}
use Rattle.term_plans.proofs.TrackLemmas.{same_self, same_is, first_is, later_is}
use Rattle.term_plans.proofs.AgreementLemmas.{has_first, has_second}
use Rattle.formula_build.specs.TrackSystems.{TrackSystems, with_system, HaveOneDirection, IsOver}
use Rattle.formula_build.proofs.HasLemmas.{has_cases, has_either, stays_apart, other_track_stays}

-- each track among some
pub each_among : (E : Track → Type 0) (ts : List Track) → AllByRecursion E ts → (u : Track) → has_track ts u ≡ true → E u
each_among E [] all u is = absurd (false≢true is)
each_among E (t ∷ ts) all u is = elim (has_cases t ts u is) [ inl same ↦ subst E same all.0 | inr later ↦ each_among E ts all.1 u later ]

map_same : (on other : TrackSystems) (ts : List Track) → ((t : Track) → has_track ts t ≡ true → on t ≡ other t) → map on ts ≡ map other ts
map_same on other [] same = refl
map_same on other (t ∷ ts) same =
    ap (λ (y : Name). y ∷ map on ts) (same t (first_is t ts)) ∙ ap (λ (ys : List Name). other t ∷ ys) (map_same on other ts (λ u is. same u (later_is t ts u is)))

-- the same systems, but for one track
pub with_own : (t : Track) (on : TrackSystems) (u : Track) → on u ≡ with_system t (on t) on u
with_own t on u = by (same_track t u) refl
  where
    by : (b : Bool) → same_track t u ≡ b → on u ≡ (if b then on t else on u)
    by true same = ap on (sym (same_is t u same))
    by false apart = refl

with_both : (t : Track) (y z : Name) (on other : TrackSystems) (u : Track) → y ≡ z → (same_track t u ≡ false → on u ≡ other u) → with_system t y on u ≡ with_system t z other u
with_both t y z on other u one same = by (same_track t u) same
  where
    by : (b : Bool) → (b ≡ false → on u ≡ other u) → (if b then y else on u) ≡ (if b then z else other u)
    by true rest = one
    by false rest = rest refl

module _ (h : Headers) (direction : Name → Direction) where
  pub over_depends : (p : Plan) (on other : TrackSystems) → ((t : Track) → has_track (tracks p) t ≡ true → on t ≡ other t) → IsOver h direction on p → IsOver h direction other p
  over_depends (compared y r s t) on other same over = (sym (same s (first_is s (t ∷ []))) ∙ over.0, sym (same t (later_is s (t ∷ []) t (first_is t []))) ∙ over.1)
  over_depends (added y s t u) on other same over = (
    sym (same s (first_is s (t ∷ u ∷ []))) ∙ over.0,
    sym (same t (later_is s (t ∷ u ∷ []) t (first_is t (u ∷ [])))) ∙ over.1,
    sym (same u (later_is s (t ∷ u ∷ []) u (later_is t (u ∷ []) u (first_is u [])))) ∙ over.2,
  )
  over_depends (number y t) on other same over = sym (same t (first_is t [])) ∙ over
  over_depends (called n ts) on other same over = sym (map_same on other ts same) ∙ over
  over_depends (lettered n ts r l) on other same over = sym (map_same on other ts same) ∙ over
  over_depends (renamed s t p) on other same over = (
    over.0,
    over_depends p (with_system s (on t) on) (with_system s (other t) other)
        (λ u there. with_both s (on t) (other t) on other u (same t (first_is t (without s (tracks p))))
        (λ apart. same u (later_is t (without s (tracks p)) u (other_track_stays s (tracks p) u there apart)))) over.1,
  )
  over_depends (constant y c t) on other same over = sym (same t (first_is t [])) ∙ over
  over_depends (joined j p q) on other same over = (
    over_depends p on other (λ t there. same t (has_first (tracks p) (tracks q) t there)) over.0,
    over_depends q on other (λ t there. same t (has_second (tracks p) (tracks q) t there)) over.1,
    λ s t first second.
        ap direction (sym (same s (has_first (tracks p) (tracks q) s first))) ∙ over.2 s t first second ∙ ap direction (same t (has_second (tracks p) (tracks q) t second)),
  )
  over_depends (paired n ts r w us) on other same over = (
    sym (map_same on other ts (λ t there. same t (has_first ts us t there))) ∙ over.0,
    sym (map_same on other us (λ t there. same t (has_second ts us t there))) ∙ over.1,
    λ s t first second. ap direction (sym (same s (has_first ts us s first))) ∙ over.2 s t first second ∙ ap direction (same t (has_second ts us t second)),
  )
  over_depends (complement p) on other same over = over_depends p on other same over
  over_depends (projected t p) on other same over = (
    over.0,
    (
      over.1.0,
      over_depends p (with_system t over.1.0 on) (with_system t over.1.0 other)
          (λ u there. with_both t over.1.0 over.1.0 on other u refl (λ apart. same u (other_track_stays t (tracks p) u there apart))) over.1.1,
    ),
  )

  -- a track that is dropped may be over its own system
  pub over_projected : (on : TrackSystems) (t : Track) (p : Plan) → has_track (tracks p) t ≡ true → IsOver h direction on p → IsOver h direction on (projected t p)
  over_projected on t p there over = (there, (on t, over_depends p on (with_system t (on t) on) (λ u is. with_own t on u) over))

-- what all tracks of a plan are
abbrev pub Only : (Track → Type 0) → Plan → Type 0
Only E p = (t : Track) → has_track (tracks p) t ≡ true → E t

abbrev pub OrIs : (Track → Type 0) → Track → Track → Type 0
OrIs E t = λ u. E u ⊎ (t ≡ u)

pub only_more : (E F : Track → Type 0) (p : Plan) → ((t : Track) → E t → F t) → Only E p → Only F p
only_more E F p more only = λ t is. more t (only t is)

pub only_joined : (E : Track → Type 0) (j : Joint) (p q : Plan) → Only E p → Only E q → Only E (joined j p q)
only_joined E j p q first second = λ t is. elim (has_either (tracks p) (tracks q) t is) [ inl in_p ↦ first t in_p | inr in_q ↦ second t in_q ]

pub only_projected : (E : Track → Type 0) (t : Track) (p : Plan) → Only (OrIs E t) p → Only E (projected t p)
only_projected E t p only = λ u is.
    let apart = stays_apart t (tracks p) u is in
    elim (only u apart.0) [ inl other ↦ other | inr same ↦ absurd (false≢true (sym apart.1 ∙ ap (same_track t) (sym same) ∙ same_self t)) ]

pub only_linked : (E : Track → Type 0) (m : Made) (t : Track) (base : Plan) → Only (OrIs E t) m.last → Only (OrIs E t) base → Only E (linked m t base).last
only_linked E m t base first second = only_projected E t (joined and m.last base) (only_joined (OrIs E t) and m.last base first second)

-- of a value: its own track, or all tracks of its relation but a fresh one
abbrev pub OnlyOf : (Track → Type 0) → Track → Option Plan → Type 0
OnlyOf E t None = E t
OnlyOf E t (Some r) = Only (OrIs E t) r

pub only_closed : (E : Track → Type 0) (t : Track) (r : Option Plan) (base : Plan) → OnlyOf E t r → Only (OrIs E t) base → Only E (closed_by t r base)
only_closed E t None base value only = λ u is. elim (only u is) [ inl other ↦ other | inr same ↦ subst E same value ]
only_closed E t (Some r) base value only = only_projected E t (joined and r base) (only_joined (OrIs E t) and r base value only)

-- another track stays where a value is closed
pub has_closed : (t : Track) (r : Option Plan) (base : Plan) (u : Track) → same_track t u ≡ false → has_track (tracks base) u ≡ true → has_track (tracks (closed_by t r base)) u ≡ true
has_closed t None base u apart is = is
has_closed t (Some r) base u apart is = other_track_stays t (tracks r ++ tracks base) u (has_second (tracks r) (tracks base) u is) apart

-- the system of a track has this direction
abbrev pub Faces : (Name → Direction) → TrackSystems → Direction → Track → Type 0
Faces direction on d = λ t. direction (on t) ≡ d

pub one_direction : (direction : Name → Direction) (on : TrackSystems) (d : Direction) (p q : Plan) → Only (Faces direction on d) p → Only (Faces direction on d) q → HaveOneDirection direction on p q
one_direction direction on d p q first second = λ s t in_p in_q. first s in_p ∙ sym (second t in_q)

module _ (h : Headers) (direction : Name → Direction) (on : TrackSystems) (d : Direction) where
  -- a fresh track's relation is over systems of one direction
  abbrev pub OverOf : Track → Option Plan → Type 0
  OverOf t None = ⊤
  OverOf t (Some r) = IsOver h direction on r × (has_track (tracks r) t ≡ true) × Only (Faces direction on d) r

  pub over_joined : (j : Joint) (p q : Plan) → IsOver h direction on p → Only (Faces direction on d) p → IsOver h direction on q → Only (Faces direction on d) q → IsOver h direction on (joined j p q)
  over_joined j p q first faces second also = (first, second, one_direction direction on d p q faces also)

  pub over_closed : (t : Track) (r : Option Plan) (base : Plan) → OverOf t r → IsOver h direction on base → Only (Faces direction on d) base → IsOver h direction on (closed_by t r base)
  over_closed t None base value over faces = over
  over_closed t (Some r) base value over faces =
      over_projected h direction on t (joined and r base) (has_first (tracks r) (tracks base) t value.1) (over_joined and r base value.0 value.2 over faces)

  pub faces_closed : (t : Track) (r : Option Plan) (base : Plan) → OverOf t r → Only (Faces direction on d) base → Only (Faces direction on d) (closed_by t r base)
  faces_closed t None base value faces = faces
  faces_closed t (Some r) base value faces = only_projected (Faces direction on d) t (joined and r base)
      (only_joined (OrIs (Faces direction on d) t) and r base (only_more (Faces direction on d) (OrIs (Faces direction on d) t) r (λ u is. inl is) value.2)
      (only_more (Faces direction on d) (OrIs (Faces direction on d) t) base (λ u is. inl is) faces))
