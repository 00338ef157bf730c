-- Letters whose digits are in spans: in order, letters of the alphabet, and all of these.
use Rattle.std.proofs.Common.{◌≡◌, ℕ, zero, suc, ◌+◌, ◌-◌, ◌*◌, ◌/◌, ◌%◌, ◌<◌, ◌≤◌, ◌⊎◌, inl, inr, List, [], ◌∷◌, ◌++◌, length, map, get_or, take, drop, refl, sym, ap, ◌∙◌, subst, arith}
use Rattle.std.specs.List.{All, AllPairs, AllZip, Contains, flat_map, range_with_len}
use Rattle.std.proofs.lemmas.Nat.{div-add-mod', mod_below, mul-add-lt, mul-le}
use Rattle.std.proofs.lemmas.List.Elements.{All-contains_itself, All-weaker}
use Rattle.std.proofs.lemmas.List.{append-nil, append_assoc, get_or-map, length-map}
use Rattle.std.proofs.lemmas.List.FromFn.{get_or-range_with_len, length-range_with_len}
use Rattle.digit_tuple.specs.Letters.{product}
use Rattle.digit_tuple.specs.Parts.{digits_of}
use Rattle.digit_tuple.proofs.LetterLemmas.{le_product, positive_left, positive_right, product-take-drop, product-drop_more}
use Rattle.digit_tuple.proofs.MemberLemmas.{AllPairs-append, Contains-cases, Contains-none, Contains-flat_map, Contains-from_flat_map, Contains-map, Contains-from_map}
use Rattle.track_parts.specs.declared.span.Span.{Span}
use Rattle.track_parts.specs.Spans.{AreSpans, IsInSpan, IsSpan, letters_in, with_digit}

-- the numbers from one on
pub Contains-span : (from count d : ℕ) → from ≤ d → d < from + count → Contains (range_with_len from count) d
Contains-span from count d low high =
    (d - from, omega (arith, length-range_with_len from count, low, high), get_or-range_with_len from count (d - from) d (omega (arith, low, high)) ∙ omega (arith, low))

pub Contains-from_span : (from count d : ℕ) → Contains (range_with_len from count) d → (from ≤ d) × (d < from + count)
Contains-from_span from count d there =
    let small : there.0 < count = omega (arith, there.1, length-range_with_len from count) in
    let is = get_or-range_with_len from count there.0 d small in
    (omega (arith, is, there.2), omega (arith, is, there.2, small))

-- one number more
pub flat_map-more : (f : ℕ → List ℕ) (n a j : ℕ) → a + n ≡ j → flat_map f (range_with_len a (n + 1)) ≡ flat_map f (range_with_len a n) ++ f j
flat_map-more f zero a j is = append-nil (f a) ∙ ap f (omega (arith, is))
flat_map-more f (suc n) a j is =
    let count : suc n + 1 ≡ suc (n + 1) = omega arith in
    ap (λ k. flat_map f (range_with_len a k)) count
    ∙ ap (λ xs. f a ++ xs) (flat_map-more f n (a + 1) j (omega (arith, is)))
    ∙ sym (append_assoc (f a) (flat_map f (range_with_len (a + 1) n)) (f j))

-- letters in order, each higher by a number
higher-ascending : (k : ℕ) (list : List ℕ) → AllPairs (λ a b. a < b) list → AllPairs (λ a b. a < b) (map (λ b. k + b) list)
higher-ascending k list up i j d before within =
    let inside : j < length list = omega (arith, within, length-map list (λ b. k + b)) in
    omega (arith, get_or-map (λ b. k + b) list i 0 d (omega (arith, before, inside)), get_or-map (λ b. k + b) list j 0 d inside, up i j 0 before inside)

module _ (w : ℕ) (list : List ℕ) (below : (a : ℕ) → Contains list a → a < w) where
  -- those with a digit before them
  blocks-ascending : AllPairs (λ a b. a < b) list → (n from : ℕ) → AllPairs (λ a b. a < b) (flat_map (with_digit list w) (range_with_len from n))
  blocks-ascending up zero from = λ i j d before within. absurd (omega (arith, within))
  blocks-ascending up (suc n) from =
      AllPairs-append (λ a b. a < b) (with_digit list w from) (flat_map (with_digit list w) (range_with_len (from + 1) n)) (higher-ascending (from * w) list up) (blocks-ascending up n (from + 1)) across
    where
      across : (x y : ℕ) → Contains (with_digit list w from) x → Contains (flat_map (with_digit list w) (range_with_len (from + 1) n)) y → x < y
      across x y first later =
          let one = Contains-from_map (λ b. from * w + b) list x first in
          let found = Contains-from_flat_map (with_digit list w) (range_with_len (from + 1) n) y later in
          let other = Contains-from_map (λ b. found.0 * w + b) list y found.2 in
          let digit : from + 1 ≤ found.0 = (Contains-from_span (from + 1) n found.0 found.1).0 in
          let bound : (from + 1) * w ≤ found.0 * w = mul-le (from + 1) w found.0 w digit (omega arith) in
          let low : one.0 < w = below one.0 one.1 in
          omega (arith, one.2, other.2, low, bound)

-- they are letters
pub letters_in-below : (sizes : List ℕ) (spans : List Span) → AreSpans sizes spans → (a : ℕ) → Contains (letters_in sizes spans) a → a < product sizes
letters_in-below [] spans are a there = by (Contains-cases 0 [] a there)
  where
    by : (0 ≡ a) ⊎ Contains [] a → a < 1
    by (inl is) = omega (arith, is)
    by (inr later) = absurd (Contains-none a later)
letters_in-below (s ∷ ss) [] are a there = absurd are
letters_in-below (s ∷ ss) (c ∷ cs) are a there =
    let found = Contains-from_flat_map (with_digit (letters_in ss cs) (product ss)) (range_with_len c.from c.count) a there in
    let one = Contains-from_map (λ b. found.0 * product ss + b) (letters_in ss cs) a found.2 in
    let low : one.0 < product ss = letters_in-below ss cs are.1 one.0 one.1 in
    let digit : found.0 < c.from + c.count = (Contains-from_span c.from c.count found.0 found.1).1 in
    let small : c.from + c.count ≤ s = are.0 in
    omega (arith, mul-add-lt found.0 (product ss) one.0 s (omega (arith, digit, small)) low, one.2)

-- in order
pub letters_in-ascending : (sizes : List ℕ) (spans : List Span) → AreSpans sizes spans → AllPairs (λ a b. a < b) (letters_in sizes spans)
letters_in-ascending [] spans are = λ i j d before within. absurd (omega (arith, before, within))
letters_in-ascending (s ∷ ss) [] are = absurd are
letters_in-ascending (s ∷ ss) (c ∷ cs) are = blocks-ascending (product ss) (letters_in ss cs) (letters_in-below ss cs are.1) (letters_in-ascending ss cs are.1) c.count c.from

-- and all whose digits are in the spans
pub letters_in-has : (sizes : List ℕ) (spans : List Span) (a : ℕ) → a < product sizes → AllZip IsInSpan (digits_of sizes a) spans → Contains (letters_in sizes spans) a
letters_in-has [] spans a below fit = (0, omega arith, omega (arith, below))
letters_in-has (s ∷ ss) [] a below fit = absurd fit
letters_in-has (s ∷ ss) (c ∷ cs) a below fit =
    let positive : 0 < product ss = positive_right s (product ss) (omega (arith, below)) in
    let digit : ℕ = a / product ss in
    let rest : ℕ = a % product ss in
    let inner = letters_in-has ss cs rest (mod_below a (product ss) positive) fit.1 in
    subst (Contains (letters_in (s ∷ ss) (c ∷ cs))) (div-add-mod' a (product ss))
    (Contains-flat_map (with_digit (letters_in ss cs) (product ss)) (range_with_len c.from c.count) digit (digit * product ss + rest)
    (Contains-span c.from c.count digit fit.0.0 fit.0.1) (Contains-map (λ b. digit * product ss + b) (letters_in ss cs) rest inner))

pub letters_in-All : (sizes : List ℕ) (spans : List Span) → AreSpans sizes spans → All (λ a. a < product sizes) (letters_in sizes spans)
letters_in-All sizes spans are = All-weaker (Contains (letters_in sizes spans)) (λ a. a < product sizes) (letters_in-below sizes spans are) (letters_in sizes spans) (All-contains_itself (letters_in sizes spans))

-- the spans of the tracks from one on
pub AreSpans-drop : (i : ℕ) (sizes : List ℕ) (spans : List Span) → AreSpans sizes spans → AreSpans (drop i sizes) (drop i spans)
AreSpans-drop zero sizes spans are = are
AreSpans-drop (suc i) [] [] are = are
AreSpans-drop (suc i) [] (c ∷ cs) are = absurd are
AreSpans-drop (suc i) (s ∷ ss) [] are = absurd are
AreSpans-drop (suc i) (s ∷ ss) (c ∷ cs) are = AreSpans-drop i ss cs are.1

pub length-spans : (sizes : List ℕ) (spans : List Span) → AreSpans sizes spans → length sizes ≡ length spans
length-spans [] [] are = refl
length-spans [] (c ∷ cs) are = absurd are
length-spans (s ∷ ss) [] are = absurd are
length-spans (s ∷ ss) (c ∷ cs) are = ap (λ n. suc n) (length-spans ss cs are.1)

-- that of a track
pub IsSpan-at : (sizes : List ℕ) (spans : List Span) (i : ℕ) (d : Span) → AreSpans sizes spans → i < length sizes → IsSpan (get_or sizes i 0) (get_or spans i d)
IsSpan-at [] spans i d are inside = absurd (omega (arith, inside))
IsSpan-at (s ∷ ss) [] i d are inside = absurd are
IsSpan-at (s ∷ ss) (c ∷ cs) zero d are inside = are.0
IsSpan-at (s ∷ ss) (c ∷ cs) (suc i) d are inside = IsSpan-at ss cs i d are.1 (omega (arith, inside))

-- a track and those after it have no more letters than all
pub size-weight-le : (sizes : List ℕ) (i : ℕ) → i < length sizes → 0 < product sizes → get_or sizes i 0 * product (drop (i + 1) sizes) ≤ product sizes
size-weight-le sizes i inside some =
    let whole : product (take i sizes) * product (drop i sizes) ≡ product sizes = product-take-drop i sizes in
    let first : 0 < product (take i sizes) = positive_left (product (take i sizes)) (product (drop i sizes)) (omega (arith, whole, some)) in
    omega (arith, whole, le_product (product (drop i sizes)) (product (take i sizes)) first, product-drop_more sizes i (get_or sizes i 0) inside refl)

pub size-le : (sizes : List ℕ) (i : ℕ) → i < length sizes → 0 < product sizes → get_or sizes i 0 ≤ product sizes
size-le sizes i inside some =
    let whole : product (take (i + 1) sizes) * product (drop (i + 1) sizes) ≡ product sizes = product-take-drop (i + 1) sizes in
    let rest : 0 < product (drop (i + 1) sizes) = positive_right (product (take (i + 1) sizes)) (product (drop (i + 1) sizes)) (omega (arith, whole, some)) in
    omega (arith, size-weight-le sizes i inside some, le_product (get_or sizes i 0) (product (drop (i + 1) sizes)) rest)
