-- The texts of commands.
use Rattle.std.proofs.Common.{◌≡◌, ℕ, zero, suc, ◌<◌, ◌≤◌, ◌==◌, Bool, true, false, not, ◌||◌, ◌&&◌, if◌then◌else◌, IsTrue, List, [], ◌∷◌, ◌++◌, length, take, drop, refl, ap, arith, slice_index}
use Rattle.script_cut.specs.Texts.{is_terminator, terminator_of, after_byte, quoted, unbroken}
use Rattle.script_cut.specs.Lengths.{text_count, text_open}
use Rattle.script_cut.proofs.Gaps.{both, both_true}

pub quoted-append : (inside : Bool) (xs ys : List ℕ) → quoted inside (xs ++ ys) ≡ quoted (quoted inside xs) ys
quoted-append inside [] ys = refl
quoted-append inside (x ∷ xs) ys = quoted-append (after_byte inside x) xs ys

pub unbroken-append : (inside : Bool) (xs ys : List ℕ) → IsTrue (unbroken inside xs) → IsTrue (unbroken (quoted inside xs) ys) → IsTrue (unbroken inside (xs ++ ys))
unbroken-append inside [] ys a b = b
unbroken-append inside (x ∷ xs) ys a b =
    let parts : ((inside || not (is_terminator x)) ≡ true) × (unbroken (after_byte inside x) xs ≡ true) = both_true (inside || not (is_terminator x)) (unbroken (after_byte inside x) xs) a in
    both (inside || not (is_terminator x)) (unbroken (after_byte inside x) (xs ++ ys)) parts.0 (unbroken-append (after_byte inside x) xs ys parts.1 b)

not_ended : (x inside : Bool) → (x && not inside) ≡ false → (inside || not x) ≡ true
not_ended true true is = refl
not_ended true false is = cc
not_ended false true is = refl
not_ended false false is = refl

-- the leading text has no terminator outside quotes
pub unbroken-prefix : (inside : Bool) (bytes : List ℕ) → IsTrue (unbroken inside (take (text_count inside bytes) bytes))
unbroken-prefix inside [] = refl
unbroken-prefix inside (b ∷ bs) = more inside b bs (is_terminator b && not inside) refl (unbroken-prefix (after_byte inside b) bs)
  where
    more : (inside : Bool) (b : ℕ) (bs : List ℕ) (v : Bool) → (is_terminator b && not inside) ≡ v → IsTrue (unbroken (after_byte inside b) (take (text_count (after_byte inside b) bs) bs)) → IsTrue (unbroken inside (take (if v then 0 else suc (text_count (after_byte inside b) bs)) (b ∷ bs)))
    more inside b bs true is rest = refl
    more inside b bs false is rest = both _ _ (not_ended (is_terminator b) inside is) rest

-- whether a quote is open after it
pub quoted-prefix : (inside : Bool) (bytes : List ℕ) → quoted inside (take (text_count inside bytes) bytes) ≡ text_open inside bytes
quoted-prefix inside [] = refl
quoted-prefix inside (b ∷ bs) = more inside b bs (is_terminator b && not inside) (quoted-prefix (after_byte inside b) bs)
  where
    more : (inside : Bool) (b : ℕ) (bs : List ℕ) (v : Bool) → quoted (after_byte inside b) (take (text_count (after_byte inside b) bs) bs) ≡ text_open (after_byte inside b) bs → quoted inside (take (if v then 0 else suc (text_count (after_byte inside b) bs)) (b ∷ bs)) ≡ (if v then inside else text_open (after_byte inside b) bs)
    more inside b bs true rest = refl
    more inside b bs false rest = rest

-- the bytes begin with a terminator
abbrev pub Ends : List ℕ → Type 0
Ends [] = ⊥
Ends (b ∷ bs) = is_terminator b ≡ true

ended : (x inside : Bool) → (x && not inside) ≡ true → (inside ≡ false) × (x ≡ true)
ended true true is = cc
ended true false is = (refl, refl)
ended false inside is = cc

-- after it the terminator is, and no quote is open
pub ends-suffix : (inside : Bool) (bytes : List ℕ) → text_count inside bytes < length bytes → (text_open inside bytes ≡ false) × Ends (drop (text_count inside bytes) bytes)
ends-suffix inside [] less = absurd (omega arith)
ends-suffix inside (b ∷ bs) less = more inside b bs (is_terminator b && not inside) refl less (ends-suffix (after_byte inside b) bs)
  where
    more : (inside : Bool) (b : ℕ) (bs : List ℕ) (v : Bool) → (is_terminator b && not inside) ≡ v → (if v then 0 else suc (text_count (after_byte inside b) bs)) < suc (length bs)
        → (text_count (after_byte inside b) bs < length bs → (text_open (after_byte inside b) bs ≡ false) × Ends (drop (text_count (after_byte inside b) bs) bs))
        → ((if v then inside else text_open (after_byte inside b) bs) ≡ false) × Ends (drop (if v then 0 else suc (text_count (after_byte inside b) bs)) (b ∷ bs))
    more inside b bs true is less rest = ended (is_terminator b) inside is
    more inside b bs false is less rest = rest (omega arith)

pub ends-take : (n m : ℕ) (bytes : List ℕ) → Ends (drop n (take m bytes)) → Ends (drop n bytes)
ends-take zero zero bytes ends = absurd ends
ends-take zero (suc m) [] ends = ends
ends-take zero (suc m) (b ∷ bs) ends = ends
ends-take (suc n) zero bytes ends = absurd ends
ends-take (suc n) (suc m) [] ends = ends
ends-take (suc n) (suc m) (b ∷ bs) ends = ends-take n m bs ends

one_of_two : (b : ℕ) → is_terminator b ≡ true → b ≡ terminator_of (b == 58)
one_of_two b is = grind arith

-- which terminator it is
pub ends-first : (bytes : List ℕ) → Ends bytes → take 1 bytes ≡ terminator_of (slice_index bytes 0 == 58) ∷ []
ends-first [] ends = absurd ends
ends-first (b ∷ bs) ends = let e : b ≡ terminator_of (b == 58) = one_of_two b ends in cc

goes_on : (x inside : Bool) → (inside || not x) ≡ true → (x && not inside) ≡ false
goes_on true true is = refl
goes_on true false is = cc
goes_on false inside is = refl

counts_byte : (v : Bool) (n m : ℕ) → v ≡ false → n ≡ m → (if v then 0 else suc n) ≡ suc m
counts_byte true n m is e = cc
counts_byte false n m is e = ap suc e

-- a command's text ends before its terminator
pub text_count-command : (shown inside : Bool) (text rest : List ℕ) → IsTrue (unbroken inside text) → quoted inside text ≡ false → text_count inside (text ++ terminator_of shown ∷ rest) ≡ length text
text_count-command shown true [] rest whole closed = cc
text_count-command true false [] rest whole closed = refl
text_count-command false false [] rest whole closed = refl
text_count-command shown inside (b ∷ bs) rest whole closed =
    let parts : ((inside || not (is_terminator b)) ≡ true) × (unbroken (after_byte inside b) bs ≡ true) = both_true (inside || not (is_terminator b)) (unbroken (after_byte inside b) bs) whole in
    counts_byte (is_terminator b && not inside) (text_count (after_byte inside b) (bs ++ terminator_of shown ∷ rest)) (length bs) (goes_on (is_terminator b) inside parts.0) (text_count-command shown (after_byte inside b) bs rest parts.1 closed)

-- an unbroken text goes to its end
pub text_count-unbroken : (inside : Bool) (text : List ℕ) → IsTrue (unbroken inside text) → text_count inside text ≡ length text
text_count-unbroken inside [] whole = refl
text_count-unbroken inside (b ∷ bs) whole =
    let parts : ((inside || not (is_terminator b)) ≡ true) × (unbroken (after_byte inside b) bs ≡ true) = both_true (inside || not (is_terminator b)) (unbroken (after_byte inside b) bs) whole in
    counts_byte (is_terminator b && not inside) (text_count (after_byte inside b) bs) (length bs) (goes_on (is_terminator b) inside parts.0) (text_count-unbroken (after_byte inside b) bs parts.1)

at_least : (v : Bool) (n m : ℕ) → v ≡ false → m ≤ n → suc m ≤ (if v then 0 else suc n)
at_least true n m is e = cc
at_least false n m is e = omega arith

-- and at least so far, whatever comes after it
pub text_count-prefix : (inside : Bool) (text suffix : List ℕ) → IsTrue (unbroken inside text) → length text ≤ text_count inside (text ++ suffix)
text_count-prefix inside [] suffix whole = omega arith
text_count-prefix inside (b ∷ bs) suffix whole =
    let parts : ((inside || not (is_terminator b)) ≡ true) × (unbroken (after_byte inside b) bs ≡ true) = both_true (inside || not (is_terminator b)) (unbroken (after_byte inside b) bs) whole in
    at_least (is_terminator b && not inside) (text_count (after_byte inside b) (bs ++ suffix)) (length bs) (goes_on (is_terminator b) inside parts.0) (text_count-prefix (after_byte inside b) bs suffix parts.1)
