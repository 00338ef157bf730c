-- The systems of tracks, found by their names.
use Rattle.std.proofs.Common.{◌≡◌, ℕ, suc, ◌+◌, ◌-◌, ◌<◌, ◌≤◌, Bool, true, false, List, [], ◌∷◌, ◌++◌, length, get_or, inl, inr, refl, ap, sym, ◌∙◌, arith, if◌then◌else◌}
use Rattle.std.specs.List.{All, AllByRecursion, Contains}
use Rattle.std.specs.Str.{bytes_eq}
use Rattle.std.proofs.lemmas.Bool.{cases_lt}
use Rattle.std.proofs.lemmas.List.{ext_get_or, get_or-append_right, get_or-map, get_or_append_left, length-map}
use Rattle.std.proofs.lemmas.List.Elements.{All-from_recursion, All-get_or, All-head, All-tail}
use Rattle.digit_tuple.specs.Names.{AreDistinct, place_of, places_of}
use Rattle.digit_tuple.proofs.NameLemmas.{place_of-at, place_of-contained, place_of-is}
use Rattle.product_op.proofs.SizeLemmas.{contained_from_place}
use Rattle.numeration.specs.Systems.{System}
use Rattle.numeration.specs.SomeTracks.{no_system as no_digits, systems_at}
use Rattle.num_system.specs.Sealed.{SystemValue, system_of}
use Rattle.num_system.specs.Tracks.{AgreeUnder, systems_of, absent_system, system_under, systems_under}

-- each name that is there once finds the system at its place
pub under_own : (names : List (List ℕ)) (systems : List SystemValue) → AreDistinct names → length systems ≡ length names → systems_under names systems names ≡ systems
under_own names systems distinct count =
    ext_get_or absent_system (systems_under names systems names) systems (long ∙ sym count)
    (λ i within.
    let inside : i < length names = omega (arith, within, long) in
    get_or-map (system_under names systems) names i [] absent_system inside
    ∙ ap (λ p. get_or systems p absent_system) (place_of-is names (get_or names i []) i distinct inside refl))
  where
    long : length (systems_under names systems names) ≡ length names
    long = length-map names (system_under names systems)

-- what is true of each system is true of that of a name that is there
pub under_each : (Q : SystemValue → Type 0) (names : List (List ℕ)) (systems : List SystemValue) (name : List ℕ) → length systems ≡ length names → AllByRecursion Q systems
    → Contains names name → Q (system_under names systems name)
under_each Q names systems name count all found =
    let spot = place_of-contained names name found in
    All-get_or Q systems (place_of names name) absent_system (omega (arith, spot.0, count)) (All-from_recursion Q systems all)

-- the place of a name among more names: its place among the first, or after all of these
left_step : (b : Bool) (m n k : ℕ) → (if b then 0 else suc m) < suc k → (m < k → n ≡ m) → (if b then 0 else suc n) ≡ (if b then 0 else suc m)
left_step true m n k within rest = refl
left_step false m n k within rest = ap suc (rest (omega (arith, within)))

pub place_left : (xs ys : List (List ℕ)) (name : List ℕ) → place_of xs name < length xs → place_of (xs ++ ys) name ≡ place_of xs name
place_left [] ys name within = absurd (omega (arith, within))
place_left (x ∷ xs) ys name within = left_step (bytes_eq x name) (place_of xs name) (place_of (xs ++ ys) name) (length xs) within (place_left xs ys name)

right_step : (b : Bool) (m n k l : ℕ) → suc k ≤ (if b then 0 else suc m) → (k ≤ m → n ≡ k + l) → (if b then 0 else suc n) ≡ suc k + l
right_step true m n k l past rest = absurd (omega (arith, past))
right_step false m n k l past rest = let is = rest (omega (arith, past)) in omega (arith, is)

pub place_right : (xs ys : List (List ℕ)) (name : List ℕ) → length xs ≤ place_of xs name → place_of (xs ++ ys) name ≡ length xs + place_of ys name
place_right [] ys name past = omega arith
place_right (x ∷ xs) ys name past = right_step (bytes_eq x name) (place_of xs name) (place_of (xs ++ ys) name) (length xs) (place_of ys name) past (place_right xs ys name)

-- the places of names that are there have the systems of these names
pub at_places : (names : List (List ℕ)) (systems : List SystemValue) (some : List (List ℕ)) → length systems ≡ length names → All (Contains names) some
    → systems_at (places_of names some) (systems_of systems) ≡ systems_of (systems_under names systems some)
at_places names systems [] count there = refl
at_places names systems (name ∷ some) count there =
    let spot = place_of-contained names name (All-head (Contains names) name some there) in
    ap (λ (s : System). s ∷ systems_at (places_of names some) (systems_of systems)) (get_or-map system_of systems (place_of names name) absent_system no_digits (omega (arith, spot.0, count)))
    ∙ ap (λ (ss : List System). system_of (system_under names systems name) ∷ ss) (at_places names systems some count (All-tail (Contains names) name some there))

-- the system of a name among more names: that among the first, or else that among the others
pub under_left : (names more : List (List ℕ)) (systems others : List SystemValue) (name : List ℕ) → length systems ≡ length names → Contains names name
    → system_under (names ++ more) (systems ++ others) name ≡ system_under names systems name
under_left names more systems others name count found =
    let spot = place_of-contained names name found in
    ap (λ p. get_or (systems ++ others) p absent_system) (place_left names more name spot.0)
    ∙ get_or_append_left systems others absent_system (place_of names name) (omega (arith, spot.0, count))

pub under_right : (names more : List (List ℕ)) (systems others : List SystemValue) (name : List ℕ) → length systems ≡ length names → length names ≤ place_of names name
    → system_under (names ++ more) (systems ++ others) name ≡ system_under more others name
under_right names more systems others name count past =
    ap (λ p. get_or (systems ++ others) p absent_system) (place_right names more name past)
    ∙ get_or-append_right systems others (length names) (length names + place_of more name) absent_system count (omega arith)
    ∙ ap (λ p. get_or others p absent_system) (let same : (length names + place_of more name) - length names ≡ place_of more name = omega arith in same)

pub under_missing : (names more : List (List ℕ)) (systems others : List SystemValue) (name : List ℕ) → length systems ≡ length names → (Contains names name → ⊥)
    → system_under (names ++ more) (systems ++ others) name ≡ system_under more others name
under_missing names more systems others name count missing = elim (cases_lt (place_of names name) (length names)) [
  | inl less ↦ absurd (missing (contained_from_place names name less))
  | inr past ↦ under_right names more systems others name count past
]

-- where tracks of one name have one system, the system of the name of a track is that of the track
pub under_at : (names : List (List ℕ)) (systems : List SystemValue) (i : ℕ) → AgreeUnder names systems → i < length names
    → system_under names systems (get_or names i []) ≡ get_or systems i absent_system
under_at names systems i agree within =
    let spot = place_of-at names (get_or names i []) i within refl in
    agree (place_of names (get_or names i [])) i spot.0 within spot.1

-- a name that is among some has its system among the systems of these
pub under_some : (names some : List (List ℕ)) (systems : List SystemValue) (name : List ℕ) → Contains some name
    → system_under some (systems_under names systems some) name ≡ system_under names systems name
under_some names some systems name found =
    let spot = place_of-contained some name found in
    get_or-map (system_under names systems) some (place_of some name) [] absent_system spot.0 ∙ ap (system_under names systems) spot.1

-- so some tracks have their systems again under their names
pub systems_again : (names some : List (List ℕ)) (systems own : List SystemValue) (first : List (List ℕ)) → length own ≡ length first → All (Contains some) first
    → ((i : ℕ) → i < length first → system_under names systems (get_or first i []) ≡ get_or own i absent_system) → systems_under some (systems_under names systems some) first ≡ own
systems_again names some systems own first count there same =
    ext_get_or absent_system (systems_under some joint first) own (long ∙ sym count)
    (λ i within.
    let inside : i < length first = omega (arith, within, long) in
    get_or-map (system_under some joint) first i [] absent_system inside
    ∙ under_some names some systems (get_or first i []) (there i [] inside)
    ∙ same i inside)
  where
    joint : List SystemValue
    joint = systems_under names systems some

    long : length (systems_under some joint first) ≡ length first
    long = length-map first (system_under some joint)
