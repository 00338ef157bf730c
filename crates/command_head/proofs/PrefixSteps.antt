-- The prefix of a text that is of one class.
use Rattle.std.proofs.Common.{◌≡◌, ℕ, suc, ◌+◌, ◌≤◌, Bool, true, false, cond, List, [], ◌∷◌, ◌++◌, length, drop, take, refl, ap, arith, length-drop}
use Rattle.std.specs.List.{AllByRecursion}
use Rattle.std.proofs.lemmas.List.{take_at, drop_at, take-append-drop}
use Rattle.std.proofs.lemmas.Bool.{eqb-true}
use Rattle.text_grammar.specs.declared.class.Class.{Class}
use Rattle.text_grammar.specs.Prefixes.{after_prefix, prefix_len, prefix_of, is_in}
use Rattle.text_grammar.specs.Numbers.{begins_with}

pub prefix_len-le : (class : Class) (bytes : List ℕ) → prefix_len class bytes ≤ length bytes
prefix_len-le class [] = omega arith
prefix_len-le class (b ∷ bs) = let more = prefix_len-le class bs in
    elim (is_in class b) as (λ t. cond t (suc (prefix_len class bs)) 0 ≤ suc (length bs)) [ true ↦ omega arith | false ↦ omega arith ]

pub length-after_prefix : (class : Class) (bytes : List ℕ) → length (after_prefix class bytes) + prefix_len class bytes ≡ length bytes
length-after_prefix class bytes = let le = prefix_len-le class bytes in omega (arith, length-drop (prefix_len class bytes) bytes)

-- all bytes of the prefix are of the class
pub prefix_of-all : (class : Class) (bytes : List ℕ) → AllByRecursion (λ b. is_in class b ≡ true) (prefix_of class bytes)
prefix_of-all class [] = tt
prefix_of-all class (b ∷ bs) =
    let P : ℕ → Type 0 = λ c. is_in class c ≡ true in
    let Q : Bool → Type 0 = λ t. (is_in class b ≡ t) → AllByRecursion P (take (cond t (suc (prefix_len class bs)) 0) (b ∷ bs)) in
    (elim (is_in class b) as Q [ true ↦ λ h. (h, prefix_of-all class bs) | false ↦ λ h. tt ]) refl

-- what does not go on with a class
abbrev pub Stops : Class → List ℕ → Type 0
Stops class [] = Unit {0}
Stops class (b ∷ bs) = is_in class b ≡ false

-- the prefix of a class ends where a byte of another comes
pub prefix_len-append : (class : Class) (xs ys : List ℕ) → AllByRecursion (λ b. is_in class b ≡ true) xs → Stops class ys → prefix_len class (xs ++ ys) ≡ length xs
prefix_len-append class [] [] all stops = refl
prefix_len-append class [] (y ∷ ys) all stops = rw stops refl
prefix_len-append class (x ∷ xs) ys all stops = rw (all.0, prefix_len-append class xs ys all.1 stops) refl

pub prefix_of-append : (class : Class) (xs ys : List ℕ) → AllByRecursion (λ b. is_in class b ≡ true) xs → Stops class ys → prefix_of class (xs ++ ys) ≡ xs
prefix_of-append class xs ys all stops = rw (prefix_len-append class xs ys all stops) (take_at xs ys (length xs) refl)

pub after_prefix-append : (class : Class) (xs ys : List ℕ) → AllByRecursion (λ b. is_in class b ≡ true) xs → Stops class ys → after_prefix class (xs ++ ys) ≡ ys
after_prefix-append class xs ys all stops = rw (prefix_len-append class xs ys all stops) (drop_at xs ys (length xs) refl)

pub prefix_split : (class : Class) (bytes : List ℕ) → prefix_of class bytes ++ after_prefix class bytes ≡ bytes
prefix_split class bytes = take-append-drop (prefix_len class bytes) bytes

-- a text that begins with a byte is that byte and the rest
pub begins_with-split : (byte : ℕ) (bytes : List ℕ) → begins_with byte bytes ≡ true → bytes ≡ byte ∷ drop 1 bytes
begins_with-split byte [] h = cc
begins_with-split byte (b ∷ bs) h = ap (λ (x : ℕ). x ∷ bs) (eqb-true b byte h)
