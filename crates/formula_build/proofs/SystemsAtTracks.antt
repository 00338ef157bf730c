-- Tracks that are over the systems of a list, one after another.
use Rattle.std.proofs.Common.{◌≡◌, ℕ, zero, suc, ◌-◌, ◌<◌, true, List, [], ◌∷◌, ◌++◌, map, length, get_or, inl, inr, refl, sym, ap, ◌∙◌, subst, arith}
use Rattle.std.specs.List.{AllByRecursion}
use Rattle.std.proofs.lemmas.Bool.{cases_lt}
use Rattle.std.proofs.lemmas.List.{get_or-append_right, get_or-map, get_or_append_left, length-append, length-map}
use Rattle.std.proofs.lemmas.List.Elements.{All-from_recursion, All-get_or}
use Rattle.std.proofs.lemmas.Option.{same_Some}
use Rattle.digit_tuple.specs.Names.{place_of}
use Rattle.digit_tuple.proofs.NameLemmas.{place_of-contained}
use Rattle.num_system.specs.Sealed.{SystemValue}
use Rattle.num_system.specs.Tracks.{absent_system, system_under, AgreeUnder}
use Rattle.formula_parse.specs.Tokens.{Name}
use Rattle.term_plans.specs.Tracks.{Track, fresh, has_track}
use Rattle.term_plans.proofs.TrackLemmas.{first_is, later_is}
use Rattle.plan_relations.specs.TrackNames.{track_name, IsNamed}
use Rattle.plan_relations.specs.Libraries.{LibraryValue, IsSystemIn}
use Rattle.formula_build.specs.TrackSystems.{TrackSystems}
use Rattle.formula_build.proofs.HasLemmas.{has_contains}
use Rattle.plan_relations.proofs.TrackNameLemmas.{names_determine, named_among}

-- each name means the system at its index
abbrev pub AreSystemsIn : LibraryValue → List Name → List SystemValue → Type 0
AreSystemsIn l names systems = (i : ℕ) → i < length names → IsSystemIn l (get_or names i []) (get_or systems i absent_system)

-- so do those of two lists
pub systems_both : (l : LibraryValue) (names more : List Name) (systems others : List SystemValue) → length systems ≡ length names → AreSystemsIn l names systems → AreSystemsIn l more others
    → AreSystemsIn l (names ++ more) (systems ++ others)
systems_both l names more systems others count first second i within = elim (cases_lt i (length names)) [
  | inl low ↦ (
      subst (λ (n : Name). IsSystemIn l n (get_or (systems ++ others) i absent_system)) (sym (get_or_append_left names more [] i low))
      (subst (IsSystemIn l (get_or names i [])) (sym (get_or_append_left systems others absent_system i (omega (arith, low, count)))) (first i low)))
  | inr high ↦ (
      let inside : i - length names < length more = omega (arith, within, high, length-append names more) in
      subst (λ (n : Name). IsSystemIn l n (get_or (systems ++ others) i absent_system)) (sym (get_or-append_right names more (length names) i [] refl high))
      (subst (IsSystemIn l (get_or more (i - length names) [])) (sym (get_or-append_right systems others (length names) i absent_system count high)) (second (i - length names) inside)))
]

-- the track at a place is among the tracks
pub has_at : (ts : List Track) (i : ℕ) → i < length ts → has_track ts (get_or ts i (fresh 0)) ≡ true
has_at [] i within = absurd (omega (arith, within))
has_at (t ∷ ts) zero within = first_is t ts
has_at (t ∷ ts) (suc i) within = later_is t ts (get_or ts i (fresh 0)) (has_at ts i (omega (arith, within)))

-- the first place of a track's name among those of a list is one of its own
own_place : (ts : List Track) (t : Track) → AllByRecursion IsNamed ts → IsNamed t → has_track ts t ≡ true
    → (i : ℕ) × (i ≡ place_of (map track_name ts) (track_name t)) × (i < length ts) × (get_or ts i (fresh 0) ≡ t)
own_place ts t all named is =
    let spot = place_of-contained (map track_name ts) (track_name t) (has_contains ts t is) in
    let i : ℕ = place_of (map track_name ts) (track_name t) in
    let within : i < length ts = omega (arith, spot.0, length-map ts track_name) in
    let same : track_name (get_or ts i (fresh 0)) ≡ track_name t = sym (get_or-map track_name ts i (fresh 0) [] within) ∙ spot.1 in
    (i, refl, within, names_determine (get_or ts i (fresh 0)) t (All-get_or IsNamed ts i (fresh 0) within (All-from_recursion IsNamed ts all)) named same)

module _ (l : LibraryValue) (on : TrackSystems) (ts : List Track) (names : List Name) (systems : List SystemValue) (are : AreSystemsIn l names systems) (same : map on ts ≡ names) where
  pub systems_count : length ts ≡ length names
  systems_count = sym (length-map ts on) ∙ ap length same

  pub system_at_track : (i : ℕ) → i < length ts → IsSystemIn l (on (get_or ts i (fresh 0))) (get_or systems i absent_system)
  system_at_track i within =
      subst (λ (y : Name). IsSystemIn l y (get_or systems i absent_system)) (sym (sym (get_or-map on ts i (fresh 0) [] within) ∙ ap (λ (ys : List Name). get_or ys i []) same))
      (are i (omega (arith, within, systems_count)))

  module _ (all : AllByRecursion IsNamed ts) where
    name_at : (i : ℕ) → i < length ts → get_or (map track_name ts) i [] ≡ track_name (get_or ts i (fresh 0))
    name_at i within = get_or-map track_name ts i (fresh 0) [] within

    named_at : (i : ℕ) → i < length ts → IsNamed (get_or ts i (fresh 0))
    named_at i within = All-get_or IsNamed ts i (fresh 0) within (All-from_recursion IsNamed ts all)

    -- tracks of one name have one system
    pub systems_agree : AgreeUnder (map track_name ts) systems
    systems_agree i j within inside also =
        let here : i < length ts = omega (arith, within, length-map ts track_name) in
        let there : j < length ts = omega (arith, inside, length-map ts track_name) in
        let one : get_or ts i (fresh 0) ≡ get_or ts j (fresh 0) = names_determine (get_or ts i (fresh 0)) (get_or ts j (fresh 0)) (named_at i here) (named_at j there) (sym (name_at i here) ∙ also ∙ name_at j there) in
        same_Some (get_or systems i absent_system) (get_or systems j absent_system)
        (sym (subst (λ (t : Track). IsSystemIn l (on t) (get_or systems i absent_system)) one (system_at_track i here)) ∙ system_at_track j there)

    -- and that of a track's name is the track's
    pub systems_over : (t : Track) → has_track ts t ≡ true → IsSystemIn l (on t) (system_under (map track_name ts) systems (track_name t))
    systems_over t found =
        let place = own_place ts t all (named_among ts t all found) found in
        subst (λ (k : ℕ). IsSystemIn l (on t) (get_or systems k absent_system)) place.1
        (subst (λ (u : Track). IsSystemIn l (on u) (get_or systems place.0 absent_system)) place.3 (system_at_track place.0 place.2))
