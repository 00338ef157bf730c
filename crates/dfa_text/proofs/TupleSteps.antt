-- Tuples of members, in the order of their letters.
use Rattle.std.proofs.Common.{◌≡◌, ℕ, zero, suc, ◌+◌, ◌*◌, ◌<◌, ◌≤◌, List, [], ◌∷◌, ◌++◌, map, length, get_or, take, ℤ, pos, refl, sym, ap, ◌∙◌, subst, arith}
use Rattle.std.proofs.Math.Nat.{mul-le-mul_right}
use Rattle.std.specs.List.{flat_map}
use Rattle.std.proofs.lemmas.List.{get_or_append_left, get_or-append-add, get_or-map, length-map, length-append, take_more}
use Rattle.digit_tuple.specs.Letters.{product, code_of, AreDigits}
use Rattle.digit_tuple.specs.Sets.{sizes_of, members_at}
use Rattle.dfa_text.specs.Parts.{tuples_of}

-- the rows of a table, one for each member
pub length-rows : (tuples : List (List ℤ)) (set : List ℤ) → length (flat_map (λ m. map (λ t. m ∷ t) tuples) set) ≡ length set * length tuples
length-rows tuples [] = omega arith
length-rows tuples (m ∷ set) = omega (arith, length-append (map (λ t. m ∷ t) tuples) (flat_map (λ n. map (λ t. n ∷ t) tuples) set), length-map tuples (λ t. m ∷ t), length-rows tuples set)

pub length-tuples : (sets : List (List ℤ)) → length (tuples_of sets) ≡ product (sizes_of sets)
length-tuples [] = refl
length-tuples (set ∷ sets) = length-rows (tuples_of sets) set ∙ ap (λ n. length set * n) (length-tuples sets)

row_at : (tuples : List (List ℤ)) (set : List ℤ) (d c : ℕ) → d < length set → c < length tuples → get_or (flat_map (λ m. map (λ t. m ∷ t) tuples) set) (d * length tuples + c) [] ≡ get_or set d (pos 0) ∷ get_or tuples c []
row_at tuples [] d c h k = absurd (omega arith)
row_at tuples (m ∷ set) zero c h k =
    let at : zero * length tuples + c ≡ c = omega arith in
    let here : c < length (map (λ t. m ∷ t) tuples) = omega (arith, length-map tuples (λ t. m ∷ t)) in
    ap (λ i. get_or (map (λ t. m ∷ t) tuples ++ flat_map (λ n. map (λ t. n ∷ t) tuples) set) i []) at
    ∙ get_or_append_left (map (λ t. m ∷ t) tuples) (flat_map (λ n. map (λ t. n ∷ t) tuples) set) [] c here
    ∙ get_or-map (λ t. m ∷ t) tuples c [] [] k
row_at tuples (m ∷ set) (suc d) c h k =
    let at : suc d * length tuples + c ≡ length (map (λ t. m ∷ t) tuples) + (d * length tuples + c) = omega (arith, length-map tuples (λ t. m ∷ t)) in
    ap (λ i. get_or (map (λ t. m ∷ t) tuples ++ flat_map (λ n. map (λ t. n ∷ t) tuples) set) i []) at
    ∙ get_or-append-add (map (λ t. m ∷ t) tuples) (flat_map (λ n. map (λ t. n ∷ t) tuples) set) (d * length tuples + c) []
    ∙ row_at tuples set d c (omega arith) k

code_bound : (n d size c : ℕ) → d < n → c < size → d * size + c < n * size
code_bound n d size c h k = let rows : (d + 1) * size ≤ n * size = mul-le-mul_right {m = d + 1} {n = n} size (omega arith) in omega arith

-- digits have a letter below the number of tuples
pub code-below : (sets : List (List ℤ)) (digits : List ℕ) → AreDigits (sizes_of sets) digits → code_of (sizes_of sets) digits < length (tuples_of sets)
code-below [] [] h = omega arith
code-below [] (d ∷ ds) h = absurd h
code-below (set ∷ sets) [] h = absurd h
code-below (set ∷ sets) (d ∷ ds) h =
    let below : code_of (sizes_of sets) ds < length (tuples_of sets) = code-below sets ds h.1 in
    let same : length (tuples_of sets) ≡ product (sizes_of sets) = length-tuples sets in
    let rows : length (tuples_of (set ∷ sets)) ≡ length set * length (tuples_of sets) = length-rows (tuples_of sets) set in
    omega (arith, rows, ap (λ n. d * n) same, code_bound (length set) d (length (tuples_of sets)) (code_of (sizes_of sets) ds) h.0 below)

-- the tuple of a letter has the members at the letter's digits
pub tuple_at_code : (sets : List (List ℤ)) (digits : List ℕ) → AreDigits (sizes_of sets) digits → get_or (tuples_of sets) (code_of (sizes_of sets) digits) [] ≡ members_at sets digits
tuple_at_code [] [] h = refl
tuple_at_code [] (d ∷ ds) h = absurd h
tuple_at_code (set ∷ sets) [] h = absurd h
tuple_at_code (set ∷ sets) (d ∷ ds) h =
    ap (λ n. get_or (tuples_of (set ∷ sets)) (d * n + code_of (sizes_of sets) ds) []) (sym (length-tuples sets))
    ∙ row_at (tuples_of sets) set d (code_of (sizes_of sets) ds) h.0 (code-below sets ds h.1)
    ∙ ap (λ t. get_or set d (pos 0) ∷ t) (tuple_at_code sets ds h.1)

-- places, and the members at them
pub length-places : (sets : List (List ℤ)) (places : List ℕ) → AreDigits (sizes_of sets) places → length places ≡ length sets
length-places [] [] h = refl
length-places [] (d ∷ ds) h = absurd h
length-places (set ∷ sets) [] h = absurd h
length-places (set ∷ sets) (d ∷ ds) h = ap suc (length-places sets ds h.1)

pub record HasMember (sets : List (List ℤ)) (places : List ℕ) (k : ℕ) : Type 0 where
  pub place_in : k < length places
  pub member_in : get_or places k 0 < length (get_or sets k [])
  pub in_tuple : k < length (members_at sets places)
  pub member : get_or (members_at sets places) k (pos 0) ≡ get_or (get_or sets k []) (get_or places k 0) (pos 0)

pub has_member : (sets : List (List ℤ)) (places : List ℕ) (k : ℕ) → AreDigits (sizes_of sets) places → k < length sets → HasMember sets places k
has_member [] places k h lt = absurd (omega arith)
has_member (set ∷ sets) [] k h lt = absurd h
has_member (set ∷ sets) (d ∷ ds) zero h lt = record { place_in = omega arith; member_in = h.0; in_tuple = omega arith; member = refl }
has_member (set ∷ sets) (d ∷ ds) (suc k) h lt =
    let more : HasMember sets ds k = has_member sets ds k h.1 (omega arith) in
    record { place_in = omega arith; member_in = more.member_in; in_tuple = omega arith; member = more.member }

pub length-members : (sets : List (List ℤ)) (places : List ℕ) → AreDigits (sizes_of sets) places → length (members_at sets places) ≡ length sets
length-members [] [] h = refl
length-members [] (d ∷ ds) h = absurd h
length-members (set ∷ sets) [] h = absurd h
length-members (set ∷ sets) (d ∷ ds) h = ap suc (length-members sets ds h.1)

-- the members at places, one more
pub members_more : (sets : List (List ℤ)) (places : List ℕ) (k : ℕ) → AreDigits (sizes_of sets) places → k < length places → take (k + 1) (members_at sets places) ≡ take k (members_at sets places) ++ get_or (get_or sets k []) (get_or places k 0) (pos 0) ∷ []
members_more sets places k fit lt =
    let there = has_member sets places k fit (omega (arith, length-places sets places fit)) in
    take_more (members_at sets places) k (pos 0) there.in_tuple ∙ ap (λ x. take k (members_at sets places) ++ x ∷ []) there.member

-- the tuple of a letter has the members at the letter's digits
pub tuple_of_code : (sets : List (List ℤ)) (sizes places : List ℕ) (letter : ℕ) → sizes ≡ sizes_of sets → AreDigits sizes places → code_of sizes places ≡ letter → get_or (tuples_of sets) letter [] ≡ members_at sets places
tuple_of_code sets sizes places letter same fit code =
    ap (λ l. get_or (tuples_of sets) l []) (sym code ∙ ap (λ s. code_of s places) same) ∙ tuple_at_code sets places (subst (λ (s : List ℕ). AreDigits s places) same fit)
