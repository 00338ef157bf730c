-- The letters by which a line leads are those of the tuples that it takes.
use Rattle.std.proofs.Common.{◌≡◌, ℕ, zero, suc, ◌+◌, ◌*◌, ◌<◌, ◌≤◌, inl, inr, Bool, true, false, cond, ltb, List, [], ◌∷◌, ◌++◌, length, drop, get_or, Option, None, Some, refl, sym, ap, ◌∙◌, subst, arith}
use Rattle.std.specs.List.{All, Contains, flat_map, range_with_len}
use Rattle.std.proofs.lemmas.Bool.Decides.{nat_tests}
use Rattle.std.proofs.lemmas.List.{drop_more, flat_map_more}
use Rattle.std.proofs.lemmas.List.Elements.{Contains-get_or, All-contains}
use Rattle.std.proofs.lemmas.List.FromFn.{length-range_with_len, get_or-range_with_len}
use Rattle.digit_tuple.specs.Letters.{product, code_of, AreDigits}
use Rattle.digit_tuple.proofs.LetterLemmas.{code_of-below, positive_right, product-drop_more}
use Rattle.digit_tuple.proofs.MemberLemmas.{Contains-head, Contains-cases, Contains-none, Contains-map, Contains-from_map, Contains-flat_map, Contains-from_flat_map}
use Rattle.digit_tuple.proofs.RangeLemmas.{range_more, All-range}
use Rattle.dfa_reading.specs.Listed.{TakesDigit, Takes}
use Rattle.dfa_reading.specs.LineLetters.{digits_taken, shifted, letters_taken}

-- a digit that one of a line takes
taken_is : (size : ℕ) (wanted : Option ℕ) (digit : ℕ) → Contains (digits_taken size wanted) digit → (digit < size) × TakesDigit wanted digit
taken_is size None digit there = (All-contains (λ d. d < size) (range_with_len 0 size) digit (All-range size) there, tt)
taken_is size (Some wanted) digit there = by (ltb wanted size) refl there
  where
    by : (b : Bool) → ltb wanted size ≡ b → Contains (cond b (wanted ∷ []) []) digit → (digit < size) × (digit ≡ wanted)
    by true less h = elim (Contains-cases wanted [] digit h) [ inl same ↦ (let lt : wanted < size = grind (arith, nat_tests) in omega arith, sym same) | inr none ↦ absurd (Contains-none digit none) ]
    by false more h = absurd (Contains-none digit h)

is_taken : (size : ℕ) (wanted : Option ℕ) (digit : ℕ) → digit < size → TakesDigit wanted digit → Contains (digits_taken size wanted) digit
is_taken size None digit less takes = subst (Contains (range_with_len 0 size)) (get_or-range_with_len 0 size digit 0 less ∙ zero_plus digit) (Contains-get_or (range_with_len 0 size) digit 0 (let n = length-range_with_len 0 size in omega arith))
  where
    zero_plus : (n : ℕ) → 0 + n ≡ n
    zero_plus n = omega arith
is_taken size (Some wanted) digit less takes =
    let inside : ltb wanted size ≡ true = grind (arith, nat_tests) in
    subst (λ b. Contains (cond b (wanted ∷ []) []) digit) (sym inside) (subst (Contains (wanted ∷ [])) (sym takes) (Contains-head wanted []))

-- what a line takes is a tuple of digits
pub takes_digits : (sizes : List ℕ) (digits : List (Option ℕ)) (tuple : List ℕ) → Takes sizes digits tuple → AreDigits sizes tuple
takes_digits [] [] [] h = tt
takes_digits [] [] (d ∷ tuple) h = absurd h
takes_digits [] (w ∷ digits) tuple h = absurd h
takes_digits (s ∷ sizes) [] tuple h = absurd h
takes_digits (s ∷ sizes) (w ∷ digits) [] h = absurd h
takes_digits (s ∷ sizes) (w ∷ digits) (d ∷ tuple) h = (h.0, takes_digits sizes digits tuple h.1.1)

-- a letter of the line is that of a tuple that it takes
pub tuple_of_letter : (sizes : List ℕ) (digits : List (Option ℕ)) (letter : ℕ) → Contains (letters_taken sizes digits) letter → (tuple : List ℕ) × Takes sizes digits tuple × (letter ≡ code_of sizes tuple)
tuple_of_letter [] [] letter h = elim (Contains-cases 0 [] letter h) [ inl same ↦ ([], tt, sym same) | inr none ↦ absurd (Contains-none letter none) ]
tuple_of_letter [] (w ∷ digits) letter h = absurd (Contains-none letter h)
tuple_of_letter (s ∷ sizes) [] letter h = absurd (Contains-none letter h)
tuple_of_letter (s ∷ sizes) (w ∷ digits) letter h =
    let (digit, at, there) = Contains-from_flat_map (λ d. shifted (d * product sizes) (letters_taken sizes digits)) (digits_taken s w) letter h in
    let (rest, inside, is) = Contains-from_map (λ l. digit * product sizes + l) (letters_taken sizes digits) letter there in
    let (tuple, takes, code) = tuple_of_letter sizes digits rest inside in
    let first = taken_is s w digit at in
    (digit ∷ tuple, (first.0, (first.1, takes)), sym is ∙ ap (λ l. digit * product sizes + l) code)

-- and the letter of such a tuple is one of the line
pub letter_of_tuple : (sizes : List ℕ) (digits : List (Option ℕ)) (tuple : List ℕ) → Takes sizes digits tuple → Contains (letters_taken sizes digits) (code_of sizes tuple)
letter_of_tuple [] [] [] h = Contains-head 0 []
letter_of_tuple [] [] (d ∷ tuple) h = absurd h
letter_of_tuple [] (w ∷ digits) tuple h = absurd h
letter_of_tuple (s ∷ sizes) [] tuple h = absurd h
letter_of_tuple (s ∷ sizes) (w ∷ digits) [] h = absurd h
letter_of_tuple (s ∷ sizes) (w ∷ digits) (d ∷ tuple) h =
    Contains-flat_map (λ e. shifted (e * product sizes) (letters_taken sizes digits)) (digits_taken s w) d (d * product sizes + code_of sizes tuple) (is_taken s w d h.0 h.1.0)
    (Contains-map (λ l. d * product sizes + l) (letters_taken sizes digits) (code_of sizes tuple) (letter_of_tuple sizes digits tuple h.1.1))

-- the letters are below their number
pub letter_below : (sizes : List ℕ) (digits : List (Option ℕ)) (letter : ℕ) → Contains (letters_taken sizes digits) letter → letter < product sizes
letter_below sizes digits letter h =
    let (tuple, takes, code) = tuple_of_letter sizes digits letter h in
    let below = code_of-below sizes tuple (takes_digits sizes digits tuple takes) in
    omega (arith, code, below)

pub letters_below : (sizes : List ℕ) (digits : List (Option ℕ)) → All (λ letter. letter < product sizes) (letters_taken sizes digits)
letters_below sizes digits k d lt = letter_below sizes digits (get_or (letters_taken sizes digits) k d) (Contains-get_or (letters_taken sizes digits) k d lt)

-- without letters a line has none
pub no_letters : (sizes : List ℕ) (digits : List (Option ℕ)) → product sizes ≡ 0 → letters_taken sizes digits ≡ []
no_letters sizes digits none = by (letters_taken sizes digits) (λ letter h. let below = letter_below sizes digits letter h in omega (arith, below))
  where
    by : (letters : List ℕ) → ((letter : ℕ) → Contains letters letter → ⊥) → letters ≡ []
    by [] h = refl
    by (letter ∷ letters) h = absurd (h letter (Contains-head letter letters))

-- products over the last tracks
pub last_product : (sizes : List ℕ) (i : ℕ) → 0 < product sizes → (product (drop i sizes) ≤ product sizes) × (0 < product (drop i sizes))
last_product sizes zero some = (omega arith, some)
last_product [] (suc i) some = (omega arith, some)
last_product (s ∷ sizes) (suc i) some =
    let positive = positive_right s (product sizes) some in
    let (less, more) = last_product sizes i positive in
    let over : product sizes ≤ s * product sizes = over_tail s (product sizes) some in
    (omega arith, more)
  where
    over_tail : (m n : ℕ) → 0 < m * n → n ≤ m * n
    over_tail zero n h = omega arith
    over_tail (suc m) n h = grind arith

pub with_track-weight : (sizes : List ℕ) (i weight : ℕ) → i < length sizes → weight ≡ product (drop (i + 1) sizes) → weight * get_or sizes i 0 ≡ product (drop i sizes)
with_track-weight sizes i weight lt heavy =
    let more : product (drop i sizes) ≡ get_or sizes i 0 * product (drop (i + 1) sizes) = product-drop_more sizes i (get_or sizes i 0) lt refl in
    ap (λ (w : ℕ). w * get_or sizes i 0) heavy ∙ turn (product (drop (i + 1) sizes)) (get_or sizes i 0) ∙ sym more
  where
    turn : (m n : ℕ) → m * n ≡ n * m
    turn m n = omega arith

-- one digit more
pub digits_more : (out next : List ℕ) (before : List ℕ) (f : ℕ → List ℕ) (digit : ℕ) → out ≡ before ++ flat_map f (range_with_len 0 digit) → next ≡ out ++ f digit → next ≡ before ++ flat_map f (range_with_len 0 (digit + 1))
digits_more out next before f digit h step =
    step ∙ ap (λ o. o ++ f digit) h ∙ flat_map_more f before (range_with_len 0 digit) digit ∙ ap (λ r. before ++ flat_map f r) (sym (range_more digit))

-- one track more before the others
pub letters_more : (sizes : List ℕ) (digits : List (Option ℕ)) (i weight : ℕ) (letters next : List ℕ) → i < length sizes → i < length digits → weight ≡ product (drop (i + 1) sizes) → letters ≡ letters_taken (drop (i + 1) sizes) (drop (i + 1) digits)
    → next ≡ flat_map (λ digit. shifted (digit * weight) letters) (digits_taken (get_or sizes i 0) (get_or digits i None)) → next ≡ letters_taken (drop i sizes) (drop i digits)
letters_more sizes digits i weight letters next within inside heavy is made =
    let taken = digits_taken (get_or sizes i 0) (get_or digits i None) in
    made ∙ ap (λ (w : ℕ). flat_map (λ digit. shifted (digit * w) letters) taken) heavy ∙ ap (λ (ls : List ℕ). flat_map (λ digit. shifted (digit * product (drop (i + 1) sizes)) ls) taken) is
    ∙ sym (ap (λ (ss : List ℕ). letters_taken ss (drop i digits)) (drop_more sizes i 0 within) ∙ ap (letters_taken (get_or sizes i 0 ∷ drop (i + 1) sizes)) (drop_more digits i None inside))
