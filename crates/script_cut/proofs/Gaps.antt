-- What comes before commands.
use Rattle.std.proofs.Common.{◌≡◌, ℕ, zero, suc, ◌+◌, ◌<◌, Bool, true, false, ◌||◌, ◌&&◌, if◌then◌else◌, IsTrue, List, [], ◌∷◌, ◌++◌, length, take, drop, refl, arith}
use Rattle.std.proofs.lemmas.List.Sums.{sum_by-append}
use Rattle.script_cut.specs.Texts.{is_gap, comment_after, commented, all_gaps, Starts, line_ends}
use Rattle.text_grammar.specs.Bytes.{is_line_end}
use Rattle.script_cut.specs.Lengths.{gap_count, gap_open}

pub line_ends-append : (xs ys : List ℕ) → line_ends (xs ++ ys) ≡ line_ends xs + line_ends ys
line_ends-append xs ys = sum_by-append (λ x. if is_line_end x then 1 else 0) xs ys

pub commented-append : (inside : Bool) (xs ys : List ℕ) → commented inside (xs ++ ys) ≡ commented (commented inside xs) ys
commented-append inside [] ys = refl
commented-append inside (x ∷ xs) ys = commented-append (comment_after inside x) xs ys

pub both : (a u : Bool) → a ≡ true → u ≡ true → (a && u) ≡ true
both a u p q = cc

pub both_true : (a u : Bool) → (a && u) ≡ true → (a ≡ true) × (u ≡ true)
both_true true u is = (refl, is)
both_true false u is = cc

pub all_gaps-append : (inside : Bool) (xs ys : List ℕ) → IsTrue (all_gaps inside xs) → IsTrue (all_gaps (commented inside xs) ys) → IsTrue (all_gaps inside (xs ++ ys))
all_gaps-append inside [] ys a b = b
all_gaps-append inside (x ∷ xs) ys a b =
    let parts : ((inside || is_gap x) ≡ true) × (all_gaps (comment_after inside x) xs ≡ true) = both_true (inside || is_gap x) (all_gaps (comment_after inside x) xs) a in
    both (inside || is_gap x) (all_gaps (comment_after inside x) (xs ++ ys)) parts.0 (all_gaps-append (comment_after inside x) xs ys parts.1 b)

-- the leading gaps are gaps
pub all_gaps-prefix : (inside : Bool) (bytes : List ℕ) → IsTrue (all_gaps inside (take (gap_count inside bytes) bytes))
all_gaps-prefix inside [] = refl
all_gaps-prefix inside (b ∷ bs) = more inside b bs (inside || is_gap b) refl (all_gaps-prefix (comment_after inside b) bs)
  where
    more : (inside : Bool) (b : ℕ) (bs : List ℕ) (v : Bool) → (inside || is_gap b) ≡ v → IsTrue (all_gaps (comment_after inside b) (take (gap_count (comment_after inside b) bs) bs)) → IsTrue (all_gaps inside (take (if v then suc (gap_count (comment_after inside b) bs) else 0) (b ∷ bs)))
    more inside b bs true is rest = both _ _ is rest
    more inside b bs false is rest = refl

-- what is open after them
pub commented-prefix : (inside : Bool) (bytes : List ℕ) → commented inside (take (gap_count inside bytes) bytes) ≡ gap_open inside bytes
commented-prefix inside [] = refl
commented-prefix inside (b ∷ bs) = more inside b bs (inside || is_gap b) (commented-prefix (comment_after inside b) bs)
  where
    more : (inside : Bool) (b : ℕ) (bs : List ℕ) (v : Bool) → commented (comment_after inside b) (take (gap_count (comment_after inside b) bs) bs) ≡ gap_open (comment_after inside b) bs → commented inside (take (if v then suc (gap_count (comment_after inside b) bs) else 0) (b ∷ bs)) ≡ (if v then gap_open (comment_after inside b) bs else inside)
    more inside b bs true rest = rest
    more inside b bs false rest = refl

neither : (inside v : Bool) → (inside || v) ≡ false → (inside ≡ false) × (v ≡ false)
neither true v is = cc
neither false v is = (refl, is)

-- after them no comment is open, and no gap is
pub starts-suffix : (inside : Bool) (bytes : List ℕ) → gap_count inside bytes < length bytes → (gap_open inside bytes ≡ false) × Starts (drop (gap_count inside bytes) bytes)
starts-suffix inside [] less = absurd (omega arith)
starts-suffix inside (b ∷ bs) less = more inside b bs (inside || is_gap b) refl less (starts-suffix (comment_after inside b) bs)
  where
    more : (inside : Bool) (b : ℕ) (bs : List ℕ) (v : Bool) → (inside || is_gap b) ≡ v → (if v then suc (gap_count (comment_after inside b) bs) else 0) < suc (length bs)
        → (gap_count (comment_after inside b) bs < length bs → (gap_open (comment_after inside b) bs ≡ false) × Starts (drop (gap_count (comment_after inside b) bs) bs))
        → ((if v then gap_open (comment_after inside b) bs else inside) ≡ false) × Starts (drop (if v then suc (gap_count (comment_after inside b) bs) else 0) (b ∷ bs))
    more inside b bs true is less rest = rest (omega arith)
    more inside b bs false is less rest = neither inside (is_gap b) is

-- a text starts as each prefix of it does
pub starts-take : (n m : ℕ) (bytes : List ℕ) → Starts (drop n (take m bytes)) → Starts (drop n bytes)
starts-take zero zero bytes starts = absurd starts
starts-take zero (suc m) [] starts = starts
starts-take zero (suc m) (b ∷ bs) starts = starts
starts-take (suc n) zero bytes starts = absurd starts
starts-take (suc n) (suc m) [] starts = starts
starts-take (suc n) (suc m) (b ∷ bs) starts = starts-take n m bs starts

counts_one : (v : Bool) (n m k : ℕ) → v ≡ true → n ≡ m + k → (if v then suc n else 0) ≡ suc m + k
counts_one true n m k is e = omega arith
counts_one false n m k is e = cc

counts_none : (v : Bool) (n : ℕ) → v ≡ false → (if v then suc n else 0) ≡ 0
counts_none true n is = cc
counts_none false n is = refl

-- gaps come first, and then those after them
pub gap_count-gaps : (inside : Bool) (before suffix : List ℕ) → IsTrue (all_gaps inside before) → gap_count inside (before ++ suffix) ≡ length before + gap_count (commented inside before) suffix
gap_count-gaps inside [] suffix gaps = omega arith
gap_count-gaps inside (b ∷ bs) suffix gaps =
    let parts : ((inside || is_gap b) ≡ true) × (all_gaps (comment_after inside b) bs ≡ true) = both_true (inside || is_gap b) (all_gaps (comment_after inside b) bs) gaps in
    counts_one (inside || is_gap b) (gap_count (comment_after inside b) (bs ++ suffix)) (length bs) (gap_count (commented (comment_after inside b) bs) suffix) parts.0 (gap_count-gaps (comment_after inside b) bs suffix parts.1)

-- a text that starts has none
pub gap_count-starts : (text suffix : List ℕ) → Starts text → gap_count false (text ++ suffix) ≡ 0
gap_count-starts [] suffix starts = absurd starts
gap_count-starts (b ∷ bs) suffix starts = counts_none (is_gap b) (gap_count (comment_after false b) (bs ++ suffix)) starts
