-- Sizes of joint tracks.
use Rattle.std.proofs.Common.{◌≡◌, ℕ, ◌<◌, max, suc, Bool, true, false, inl, inr, List, [], ◌∷◌, length, map, get_or, refl, sym, ap, ◌∙◌, arith, if◌then◌else◌}
use Rattle.std.specs.List.{All, AllPairs, Contains}
use Rattle.std.specs.Str.{bytes_eq}
use Rattle.std.specs.Ordering.{nat_cmp}
use Rattle.std.specs.Cmp.Lexicographic.{slice_cmp}
use Rattle.std.specs.declared.cmp.Ordering.TheVariants.{Less, Equal}
use Rattle.std.proofs.lemmas.Bool.{cases_lt}
use Rattle.std.proofs.lemmas.Cmp.{nat_list_cmp_total, tied_itself}
use Rattle.std.proofs.lemmas.Slice.Eq.{bytes_eq-Decides}
use Rattle.std.proofs.lemmas.List.{ext_get_or, get_or-map, get_or_past, length-map}
use Rattle.std.proofs.lemmas.List.Elements.{Contains-get_or}
use Rattle.digit_tuple.specs.Names.{AreDistinct, place_of, places_of}
use Rattle.digit_tuple.specs.Parts.{picked}
use Rattle.digit_tuple.proofs.NameLemmas.{place_of-contained, place_of-is}
use Rattle.minimise.specs.Tracked.{NamedAutomaton, size_of}
use Rattle.digit_tuple.specs.Names.{IsBytesBefore}
use Rattle.product_op.specs.Tracks.{joint_size, AgreeOnShared}

placed_step : (n : List ℕ) (names : List (List ℕ)) (name : List ℕ) (b : Bool) → bytes_eq n name ≡ b → (if b then 0 else suc (place_of names name)) < length (n ∷ names)
    → (place_of names name < length names → Contains names name) → Contains (n ∷ names) name
placed_step n names name true same less rest = (0, omega arith, (bytes_eq-Decides n name).0 same)
placed_step n names name false other less rest = let found = rest (omega (arith, less)) in (suc found.0, omega (arith, found.1), found.2)

-- a name whose place is one is there
pub contained_from_place : (names : List (List ℕ)) (name : List ℕ) → place_of names name < length names → Contains names name
contained_from_place [] name less = absurd (omega (arith, less))
contained_from_place (n ∷ names) name less = placed_step n names name (bytes_eq n name) refl less (contained_from_place names name)

-- a name that is not there has size 0
pub size_of-missing : (t : NamedAutomaton) (name : List ℕ) → length t.names ≡ length t.automaton.sizes → ¬ Contains t.names name → size_of t name ≡ 0
size_of-missing t name count missing = elim (cases_lt (place_of t.names name) (length t.names)) [
  | inl less ↦ absurd (missing (contained_from_place t.names name less))
  | inr past ↦ get_or_past t.automaton.sizes (place_of t.names name) 0 (omega (arith, count, past))
]

-- in byte order no two names are the same
pub AreDistinct-ordered : (names : List (List ℕ)) → AllPairs IsBytesBefore names → AreDistinct names
AreDistinct-ordered names up i j d before within same =
    let less : slice_cmp nat_cmp (get_or names i d) (get_or names j d) ≡ Less = up i j d before within in
    let tied : slice_cmp nat_cmp (get_or names i d) (get_or names i d) ≡ Equal = tied_itself nat_list_cmp_total (get_or names i d) in
    let both : Less ≡ Equal = sym less ∙ ap (λ n. slice_cmp nat_cmp (get_or names i d) n) (sym same) ∙ tied in
    cc

max_same : (m n : ℕ) → m ≡ n → max m n ≡ m
max_same m n same = omega (arith, same)

max_none : (m n : ℕ) → n ≡ 0 → max m n ≡ m
max_none m n none = omega (arith, none)

max_same_second : (m n : ℕ) → m ≡ n → max m n ≡ n
max_same_second m n same = omega (arith, same)

max_none_second : (m n : ℕ) → m ≡ 0 → max m n ≡ n
max_none_second m n none = omega (arith, none)

module _ (a b : NamedAutomaton) (is_a : length a.names ≡ length a.automaton.sizes) (is_b : length b.names ≡ length b.automaton.sizes) (agree : AgreeOnShared a b) where
  -- a joint track of a has its size there
  pub joint_size-first : (name : List ℕ) → Contains a.names name → joint_size a b name ≡ size_of a name
  joint_size-first name here = elim (cases_lt (place_of b.names name) (length b.names)) [
    | inl less ↦ max_same (size_of a name) (size_of b name) (agree name here (contained_from_place b.names name less))
    | inr past ↦ max_none (size_of a name) (size_of b name) (get_or_past b.automaton.sizes (place_of b.names name) 0 (omega (arith, is_b, past)))
  ]

  pub joint_size-second : (name : List ℕ) → Contains b.names name → joint_size a b name ≡ size_of b name
  joint_size-second name there = elim (cases_lt (place_of a.names name) (length a.names)) [
    | inl less ↦ max_same_second (size_of a name) (size_of b name) (agree name (contained_from_place a.names name less) there)
    | inr past ↦ max_none_second (size_of a name) (size_of b name) (get_or_past a.automaton.sizes (place_of a.names name) 0 (omega (arith, is_a, past)))
  ]

-- the sizes at the places of an automaton's names are its own
pub picked_sizes : (t : NamedAutomaton) (f : List ℕ → ℕ) (names : List (List ℕ)) → length t.names ≡ length t.automaton.sizes → AreDistinct t.names
    → ((name : List ℕ) → Contains t.names name → f name ≡ size_of t name) → All (Contains names) t.names
    → picked (places_of names t.names) (map f names) ≡ t.automaton.sizes
picked_sizes t f names count distinct same there = ext_get_or 0 (picked (places_of names t.names) (map f names)) t.automaton.sizes long at
  where
    places : length (places_of names t.names) ≡ length t.names
    places = length-map t.names (place_of names)

    long : length (picked (places_of names t.names) (map f names)) ≡ length t.automaton.sizes
    long = length-map (places_of names t.names) (λ p. get_or (map f names) p 0) ∙ places ∙ count

    at : (i : ℕ) → i < length (picked (places_of names t.names) (map f names)) → get_or (picked (places_of names t.names) (map f names)) i 0 ≡ get_or t.automaton.sizes i 0
    at i inside =
        let within : i < length t.names = omega (arith, inside, long, count) in
        let name : List ℕ = get_or t.names i [] in
        let spot = place_of-contained names name (there i [] within) in
        get_or-map (λ p. get_or (map f names) p 0) (places_of names t.names) i 0 0 (omega (arith, within, places))
        ∙ ap (λ p. get_or (map f names) p 0) (get_or-map (place_of names) t.names i [] 0 within)
        ∙ get_or-map f names (place_of names name) [] 0 spot.0
        ∙ ap f spot.1
        ∙ same name (Contains-get_or t.names i [] within)
        ∙ ap (λ p. get_or t.automaton.sizes p 0) (place_of-is t.names name i distinct within refl)
