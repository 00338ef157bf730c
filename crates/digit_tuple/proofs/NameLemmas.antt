-- Places of names.
use Rattle.std.proofs.Common.{◌≡◌, ◌≢◌, ℕ, ◌<◌, suc, zero, inl, inr, Bool, true, false, List, [], ◌∷◌, length, get_or, arith, ap, sym, refl, ◌∙◌, if◌then◌else◌}
use Rattle.std.specs.List.{All, Contains}
use Rattle.std.specs.Str.{bytes_eq}
use Rattle.std.proofs.lemmas.Bool.{cases_order}
use Rattle.std.proofs.lemmas.Slice.Eq.{bytes_eq-Decides}
use Rattle.std.proofs.lemmas.List.{get_or_default}
use Rattle.std.proofs.lemmas.List.Elements.{All-map}
use Rattle.digit_tuple.specs.Names.{AreDistinct, place_of, places_of}

-- the place of the name is one, and the name is there
abbrev pub IsPlaced : List (List ℕ) → List ℕ → Type 0
IsPlaced names name = (place_of names name < length names) × (get_or names (place_of names name) [] ≡ name)

place_step : (n : List ℕ) (names : List (List ℕ)) (name : List ℕ) (b : Bool) → bytes_eq n name ≡ b → (b ≡ false → IsPlaced names name)
    → ((if b then 0 else suc (place_of names name)) < length (n ∷ names)) × (get_or (n ∷ names) (if b then 0 else suc (place_of names name)) [] ≡ name)
place_step n names name true same rest = (omega arith, (bytes_eq-Decides n name).0 same)
place_step n names name false other rest = let r = rest refl in (omega (arith, r.0), r.1)

-- a name that is somewhere is at its place
pub place_of-at : (names : List (List ℕ)) (name : List ℕ) (i : ℕ) → i < length names → get_or names i [] ≡ name → IsPlaced names name
place_of-at [] name i within is = absurd (omega (arith, within))
place_of-at (n ∷ names) name zero within is =
    place_step n names name (bytes_eq n name) refl (λ other. absurd (let yes : bytes_eq n name ≡ true = (bytes_eq-Decides n name).1 is in cc))
place_of-at (n ∷ names) name (suc i) within is =
    place_step n names name (bytes_eq n name) refl (λ other. place_of-at names name i (omega (arith, within)) is)

pub place_of-contained : (names : List (List ℕ)) (name : List ℕ) → Contains names name → IsPlaced names name
place_of-contained names name found = place_of-at names name found.0 found.1 (get_or_default names found.0 [] name found.1 ∙ found.2)

-- where no two names are the same, a name has one place
pub place_of-is : (names : List (List ℕ)) (name : List ℕ) (i : ℕ) → AreDistinct names → i < length names → get_or names i [] ≡ name → place_of names name ≡ i
place_of-is names name i apart within is =
    let at = place_of-at names name i within is in
    elim (cases_order (place_of names name) i) [
      | inl same ↦ same
      | inr differ ↦ elim differ [
        | inl below ↦ absurd (apart (place_of names name) i [] below within (at.1 ∙ sym is))
        | inr above ↦ absurd (apart i (place_of names name) [] above at.0 (is ∙ sym at.1))
      ]
    ]

-- the places of names that are there are places
pub places_of-within : (names some : List (List ℕ)) → All (Contains names) some → All (λ place. place < length names) (places_of names some)
places_of-within names some there =
    All-map (λ place. place < length names) (place_of names) some (λ i d inside. (place_of-contained names (get_or some i d) (there i d inside)).0)

-- none of the first names is this one
abbrev pub IsNotAmong : List (List ℕ) → List ℕ → ℕ → Type 0
IsNotAmong names name count = (i : ℕ) (d : List ℕ) → i < count → get_or names i d ≢ name

first_step : (n : List ℕ) (names : List (List ℕ)) (name : List ℕ) (i : ℕ) (b : Bool) → bytes_eq n name ≡ b → n ≢ name → place_of names name ≡ i
    → (if b then 0 else suc (place_of names name)) ≡ suc i
first_step n names name i true same other rest = absurd (other ((bytes_eq-Decides n name).0 same))
first_step n names name i false differ other rest = ap (λ k. suc k) rest

-- the first place with the name is its place
pub place_of-first : (names : List (List ℕ)) (name : List ℕ) (i : ℕ) → i < length names → get_or names i [] ≡ name → IsNotAmong names name i → place_of names name ≡ i
place_of-first [] name i within is none = absurd (omega (arith, within))
place_of-first (n ∷ names) name zero within is none = ap (λ b. if b then 0 else suc (place_of names name)) ((bytes_eq-Decides n name).1 is)
place_of-first (n ∷ names) name (suc i) within is none =
    first_step n names name i (bytes_eq n name) refl (none 0 [] (omega arith)) (place_of-first names name i (omega (arith, within)) is (λ k d below. none (suc k) d (omega (arith, below))))

-- no two of the first names are the same
abbrev pub AreDistinctTo : List (List ℕ) → ℕ → Type 0
AreDistinctTo names count = (i j : ℕ) (d : List ℕ) → i < j → j < count → get_or names i d ≢ get_or names j d
