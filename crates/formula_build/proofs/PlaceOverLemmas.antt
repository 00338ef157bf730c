-- The plans of arguments are over the systems of their places.
use Rattle.std.specs.Prelude.{⊤, nat_lt}
use Rattle.std.proofs.Common.{◌≡◌, ℕ, ◌<◌, ◌≤◌, Bool, true, false, if◌then◌else◌, List, [], ◌∷◌, ◌++◌, map, length, take, slice_index_or, Option, None, Some, inl, inr, ◌⊎◌, refl, sym, ap, ◌∙◌, subst, arith}
use Rattle.std.proofs.Math.Seq.{take-suc}
use Rattle.std.specs.List.{AllByRecursion}
use Rattle.std.proofs.lemmas.Bool.{lt-ltb, ltb-true, false≢true}
use Rattle.std.proofs.lemmas.List.{map-append}
use Rattle.digit_tuple.specs.declared.direction.Direction.{Direction}
use Rattle.digit_tuple.specs.declared.direction.Direction.TheVariants.{Msd}
use Rattle.formula_parse.specs.Tokens.{Name}
use Rattle.formula_parse.specs.Trees.{Term, Terms, no_terms, terms}
use Rattle.term_plans.specs.Tracks.{Track, own, fresh, has_track}
use Rattle.term_plans.specs.Plans.{Plan}
use Rattle.term_plans.specs.TermPlans.{term_plan}
use Rattle.term_plans.specs.ArgumentPlans.{Places, no_places, places, tracks_of, closed_all, count, argument_plans}
use Rattle.formula_plan.specs.FactPlans.{Headers}
use Rattle.formula_resolve.specs.Mentions as mentions
use Rattle.formula_resolve.specs.Occurrences.{Binders, term_occurrences, track_occurrences, place_occurrences}
use Rattle.formula_resolve.specs.declared.occurrence.Occurrence.{Occurrence}
use Rattle.formula_build.specs.TrackSystems.{TrackSystems, IsOver}
use Rattle.plan_relations.proofs.AllLemmas.{all_first, all_second}
use Rattle.formula_build.proofs.HasLemmas.{has_cases, has_either}
use Rattle.formula_build.proofs.GrowthLemmas.{term_up, arguments_up}
use Rattle.formula_build.proofs.OverLemmas.{over_depends, Only, OrIs, only_more, OnlyOf, only_closed, Faces, OverOf, over_closed, faces_closed}
use Rattle.formula_build.proofs.TermOverLemmas.{IsOwn, AreOn, IsPlacedOver, value_only, Occurs, term_is_placed}

-- variables over these systems, and fresh tracks over those
abbrev pub on_by : (Name → Name) → (ℕ → Name) → TrackSystems
on_by scope g (own n) = scope n
on_by scope g (fresh i) = g i

-- an occurrence over some system
abbrev pub OccursAnywhere : (Occurrence → Type 0) → Binders → Name → Type 0
OccursAnywhere Q b n = (s : Name) × Occurs Q s b n

-- places are counted as terms are
pub count_same : (ts : Terms) → mentions.count ts ≡ count ts
count_same no_terms = refl
count_same (terms ts t) = let same = count_same ts in omega (arith, same)

on_track : (Q : Occurrence → Type 0) (ss : List Name) (b : Binders) (i : ℕ) (t : Term) → i < length ss → AllByRecursion Q (track_occurrences ss b i t) → AllByRecursion Q (term_occurrences (slice_index_or ss i []) b t)
on_track Q ss b i t within = by (nat_lt i (length ss)) (lt-ltb i (length ss) within)
  where
    by : (c : Bool) → c ≡ true → AllByRecursion Q (if c then term_occurrences (slice_index_or ss i []) b t else []) → AllByRecursion Q (term_occurrences (slice_index_or ss i []) b t)
    by true is all = all
    by false is all = absurd (false≢true is)

-- the occurrences in the last of some places
pub last_occurs : (Q : Occurrence → Type 0) (ss : List Name) (b : Binders) (ts : Terms) (t : Term) → count ts < length ss → AllByRecursion Q (place_occurrences ss b (terms ts t))
    → AllByRecursion Q (term_occurrences (slice_index_or ss (count ts) []) b t)
last_occurs Q ss b ts t within all =
    on_track Q ss b (count ts) t within
    (subst (λ (i : ℕ). AllByRecursion Q (track_occurrences ss b i t)) (count_same ts)
    (all_second Q (place_occurrences ss b ts) (track_occurrences ss b (mentions.count ts) t) all))

pub former_occur : (Q : Occurrence → Type 0) (ss : List Name) (b : Binders) (ts : Terms) (t : Term) → AllByRecursion Q (place_occurrences ss b (terms ts t)) → AllByRecursion Q (place_occurrences ss b ts)
former_occur Q ss b ts t all = all_first Q (place_occurrences ss b ts) (track_occurrences ss b (mentions.count ts) t) all

-- the tracks of values that are closed one after another
abbrev pub AreOnly : (Track → Type 0) → Places → Type 0
AreOnly E no_places = ⊤
AreOnly E (places ps p) = AreOnly E ps × OnlyOf E p.track p.relation

only_of_more : (E F : Track → Type 0) → ((u : Track) → E u → F u) → (t : Track) (r : Option Plan) → OnlyOf E t r → OnlyOf F t r
only_of_more E F more t None only = more t only
only_of_more E F more t (Some r) only = only_more (OrIs E t) (OrIs F t) r each only
  where
    each : (u : Track) → OrIs E t u → OrIs F t u
    each u (inl is) = inl (more u is)
    each u (inr same) = inr same

pub are_only_more : (E F : Track → Type 0) → ((u : Track) → E u → F u) → (ps : Places) → AreOnly E ps → AreOnly F ps
are_only_more E F more no_places only = tt
are_only_more E F more (places ps p) only = (are_only_more E F more ps only.0, only_of_more E F more p.track p.relation only.1)

-- one of the tracks of values, or E
abbrev pub OrPlaced : (Track → Type 0) → Places → Track → Type 0
OrPlaced E ps = λ u. E u ⊎ (has_track (tracks_of ps) u ≡ true)

pub only_all_closed : (E : Track → Type 0) (ps : Places) (base : Plan) → AreOnly E ps → Only (OrPlaced E ps) base → Only E (closed_all ps base)
only_all_closed E no_places base values only = λ u is. elim (only u is) [ inl other ↦ other | inr none ↦ absurd (false≢true none) ]
only_all_closed E (places ps p) base values only =
    only_closed E p.track p.relation (closed_all ps base) values.1
    (only_all_closed (OrIs E p.track) ps base (are_only_more E (OrIs E p.track) (λ u is. inl is) ps values.0)
    (only_more (OrPlaced E (places ps p)) (OrPlaced (OrIs E p.track) ps) base each only))
  where
    each : (u : Track) → OrPlaced E (places ps p) u → OrPlaced (OrIs E p.track) ps u
    each u (inl is) = inl (inl is)
    each u (inr there) = elim (has_either (tracks_of ps) (p.track ∷ []) u there) [
      | inl former ↦ inr former
      | inr last ↦ elim (has_cases p.track [] u last) [ inl same ↦ inl (inr same) | inr none ↦ absurd (false≢true none) ]
    ]

module _ (h : Headers) (direction : Name → Direction) (on : TrackSystems) (d : Direction) where
  abbrev pub AreOver : Places → Type 0
  AreOver no_places = ⊤
  AreOver (places ps p) = AreOver ps × OverOf h direction on d p.track p.relation

  pub over_all_closed : (ps : Places) (base : Plan) → AreOver ps → IsOver h direction on base → Only (Faces direction on d) base → IsOver h direction on (closed_all ps base) × Only (Faces direction on d) (closed_all ps base)
  over_all_closed no_places base values over faces = (over, faces)
  over_all_closed (places ps p) base values over faces =
      let rest = over_all_closed ps base values.0 over faces in (
        over_closed h direction on d p.track p.relation (closed_all ps base) values.1 rest.0 rest.1,
        faces_closed h direction on d p.track p.relation (closed_all ps base) values.1 rest.1,
      )

-- the tracks of a term's value are those of variables that occur in it, but a fresh one
pub term_only : (Q : Occurrence → Type 0) (s : Name) (b : Binders) (t : Term) (k : ℕ) → AllByRecursion Q (term_occurrences s b t)
    → OnlyOf (IsOwn (OccursAnywhere Q b)) (term_plan s t k).placed.track (term_plan s t k).placed.relation
term_only Q s b t k all =
    let p = term_plan s t k in
    value_only h direction (λ u. s) s (Occurs Q s b) here (IsOwn (OccursAnywhere Q b)) p.placed.track p.placed.relation k p.next anywhere (term_is_placed h direction (λ u. s) s b Q here t all k)
  where
    h : Headers
    h = record { of_automaton = λ n. []; of_word = λ n. []; of_variable = λ f n. [] }

    direction : Name → Direction
    direction = λ n. Msd

    here : AreOn (λ u. s) s (Occurs Q s b)
    here = record { of_fresh = λ i. refl; of_own = λ n is. refl }

    anywhere : (u : Track) → IsOwn (Occurs Q s b) u → IsOwn (OccursAnywhere Q b) u
    anywhere (own n) is = (s, is)
    anywhere (fresh i) is = absurd is

-- and so are those of arguments
pub arguments_only : (Q : Occurrence → Type 0) (ss : List Name) (b : Binders) (ts : Terms) (k : ℕ) → count ts ≤ length ss → AllByRecursion Q (place_occurrences ss b ts)
    → AreOnly (IsOwn (OccursAnywhere Q b)) (argument_plans ss ts k).placed
arguments_only Q ss b no_terms k within all = tt
arguments_only Q ss b (terms ts t) k within all = (
  arguments_only Q ss b ts k (omega (arith, within)) (former_occur Q ss b ts t all),
  term_only Q (slice_index_or ss (count ts) []) b t (argument_plans ss ts k).next (last_occurs Q ss b ts t (omega (arith, within)) all),
)

-- the fresh tracks of each argument are over the system of its place
abbrev pub AreSystems : (ℕ → Name) → List Name → Terms → ℕ → Type 0
AreSystems g ss no_terms k = ⊤
AreSystems g ss (terms ts t) k =
    let next = (argument_plans ss ts k).next in
    AreSystems g ss ts k × ((i : ℕ) → next ≤ i → i < (argument_plans ss (terms ts t) k).next → g i ≡ slice_index_or ss (count ts) [])

pub same_systems : (f g : ℕ → Name) (ss : List Name) (ts : Terms) (k : ℕ) → ((i : ℕ) → k ≤ i → i < (argument_plans ss ts k).next → g i ≡ f i) → AreSystems f ss ts k → AreSystems g ss ts k
same_systems f g ss no_terms k same are = tt
same_systems f g ss (terms ts t) k same are =
    let next = (argument_plans ss ts k).next in
    let up = arguments_up ss ts k in
    let later = term_up (slice_index_or ss (count ts) []) t next in
    (same_systems f g ss ts k (λ i low high. same i low (omega (arith, high, later))) are.0, λ i low high. same i (omega (arith, up, low)) high ∙ are.1 i low high)

-- below a number these, and those from it on
abbrev pub parted : ℕ → (ℕ → Name) → (ℕ → Name) → ℕ → Name
parted mid f g = λ i. if nat_lt i mid then f i else g i

pub parted_below : (mid : ℕ) (f g : ℕ → Name) (i : ℕ) → i < mid → parted mid f g i ≡ f i
parted_below mid f g i below = ap (λ (b : Bool). if b then f i else g i) (lt-ltb i mid below)

pub parted_above : (mid : ℕ) (f g : ℕ → Name) (i : ℕ) → mid ≤ i → parted mid f g i ≡ g i
parted_above mid f g i above = by (nat_lt i mid) refl
  where
    by : (b : Bool) → nat_lt i mid ≡ b → (if b then f i else g i) ≡ g i
    by true is = let below : i < mid = ltb-true i mid is in absurd (omega (arith, above, below))
    by false is = refl

pub systems_exist : (ss : List Name) (ts : Terms) (k : ℕ) → (g : ℕ → Name) × AreSystems g ss ts k
systems_exist ss no_terms k = (λ i. [], tt)
systems_exist ss (terms ts t) k =
    let prefix = systems_exist ss ts k in
    let next = (argument_plans ss ts k).next in
    let s : Name = slice_index_or ss (count ts) [] in
    let g : ℕ → Name = parted next prefix.0 (λ i. s) in (
      g,
      (same_systems prefix.0 g ss ts k (λ i low high. parted_below next prefix.0 (λ i. s) i high) prefix.1, λ i low high. parted_above next prefix.0 (λ i. s) i low),
    )

-- the systems of places have one direction
abbrev pub FaceSharedDirection : (Name → Direction) → Direction → List Name → Type 0
FaceSharedDirection direction d ss = (i : ℕ) → i < length ss → direction (slice_index_or ss i []) ≡ d

faces_after : (E : Track → Type 0) (ts : List Track) (t : Track) → AllByRecursion E ts → E t → AllByRecursion E (ts ++ t ∷ [])
faces_after E [] t all here = (here, tt)
faces_after E (u ∷ ts) t all here = (all.0, faces_after E ts t all.1 here)

-- arguments whose variables are over the systems at their places
module _ (h : Headers) (direction : Name → Direction) (scope : Name → Name) (b : Binders) (Q : Occurrence → Type 0) (of_scope : (s n : Name) → Occurs Q s b n → scope n ≡ s) where
  pub constant_on : (s : Name) → AreOn (on_by scope (λ i. s)) s (Occurs Q s b)
  constant_on s = record { of_fresh = λ i. refl; of_own = λ n is. of_scope s n is }

  -- a value over one system, among fresh tracks over others
  pub value_among : (g : ℕ → Name) (s : Name) (d : Direction) (t : Track) (r : Option Plan) (k next : ℕ) → direction s ≡ d → ((i : ℕ) → k ≤ i → i < next → g i ≡ s)
      → IsPlacedOver h direction (on_by scope (λ i. s)) (Occurs Q s b) t r k next → OverOf h direction (on_by scope g) d t r × (on_by scope g t ≡ s)
  value_among g s d (own n) None k next faces of_fresh placed_over = (tt, of_scope s n placed_over.0)
  value_among g s d (fresh j) (Some r) k next faces of_fresh placed_over =
      let here : g j ≡ s = of_fresh j placed_over.low placed_over.high in (
        (over_depends h direction r (on_by scope (λ i. s)) (on_by scope g) (λ u is. same here u (placed_over.only u is)) placed_over.over, placed_over.there, λ u is. ap direction (at here u (placed_over.only u is)) ∙ faces),
        here,
      )
    where
      same : g j ≡ s → (u : Track) → OrIs (IsOwn (Occurs Q s b)) (fresh j) u → on_by scope (λ i. s) u ≡ on_by scope g u
      same here (own n) is = refl
      same here (fresh i) (inl is) = absurd is
      same here (fresh i) (inr e) = sym here ∙ ap (on_by scope g) e

      at : g j ≡ s → (u : Track) → OrIs (IsOwn (Occurs Q s b)) (fresh j) u → on_by scope g u ≡ s
      at here (own n) (inl is) = of_scope s n is
      at here (own n) (inr e) = sym (ap (on_by scope g) e) ∙ here
      at here (fresh i) (inl is) = absurd is
      at here (fresh i) (inr e) = sym (ap (on_by scope g) e) ∙ here
  value_among g s d (own n) (Some r) k next faces of_fresh placed_over = absurd placed_over
  value_among g s d (fresh j) None k next faces of_fresh placed_over = absurd placed_over

  -- each argument's plan, and its track over the system of its place
  pub record AreArguments (g : ℕ → Name) (d : Direction) (ss : List Name) (ts : Terms) (k : ℕ) : Type 0 where
    pub over : AreOver h direction (on_by scope g) d (argument_plans ss ts k).placed
    pub faces : AllByRecursion (Faces direction (on_by scope g) d) (tracks_of (argument_plans ss ts k).placed)
    pub systems : map (on_by scope g) (tracks_of (argument_plans ss ts k).placed) ≡ take (count ts) ss

  pub arguments_over : (g : ℕ → Name) (d : Direction) (ss : List Name) (ts : Terms) (k : ℕ) → count ts ≤ length ss → FaceSharedDirection direction d ss → AreSystems g ss ts k
      → AllByRecursion Q (place_occurrences ss b ts) → AreArguments g d ss ts k
  arguments_over g d ss no_terms k within facing are all = record { over = tt; faces = tt; systems = refl }
  arguments_over g d ss (terms ts t) k within facing are all =
      let inside : count ts < length ss = omega (arith, within) in
      let prefix = arguments_over g d ss ts k (omega (arith, within)) facing are.0 (former_occur Q ss b ts t all) in
      let s : Name = slice_index_or ss (count ts) [] in
      let next = (argument_plans ss ts k).next in
      let p = term_plan s t next in
      let on = on_by scope g in
      let former = tracks_of (argument_plans ss ts k).placed in
      let placed_over = term_is_placed h direction (on_by scope (λ i. s)) s b Q (constant_on s) t (last_occurs Q ss b ts t inside all) next in
      let here = value_among g s d p.placed.track p.placed.relation next p.next (facing (count ts) inside) are.1 placed_over in
      record {
        over = (prefix.over, here.0);
        faces = faces_after (Faces direction on d) former p.placed.track prefix.faces (ap direction here.1 ∙ facing (count ts) inside);
        systems = map-append on former (p.placed.track ∷ []) ∙ ap (λ (ys : List Name). ys ++ on p.placed.track ∷ []) prefix.systems
            ∙ ap (λ (y : Name). take (count ts) ss ++ y ∷ []) here.1 ∙ sym (take-suc ss (count ts) [] inside);
      }
