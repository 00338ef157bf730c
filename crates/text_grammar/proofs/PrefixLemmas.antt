-- The longest prefix of a text that is of one class.
use Rattle.std.proofs.Common.{◌≡◌, refl, ℕ, zero, suc, ◌<◌, ◌≤◌, Bool, true, false, List, [], ◌∷◌, length, drop, get_or, arith, ◌+◌, sym, ◌∙◌, ap, subst}
use Rattle.std.specs.Prelude.{if◌then◌else◌}
use Rattle.std.proofs.lemmas.List.{length-drop}
use Rattle.text_grammar.specs.declared.class.Class.{Class}
use Rattle.text_grammar.specs.Prefixes.{is_in, prefix_len}

pub prefix_len_le : (class : Class) (bs : List ℕ) → prefix_len class bs ≤ length bs
prefix_len_le class [] = omega arith
prefix_len_le class (b ∷ bs) = one_more (is_in class b) (prefix_len class bs) (length bs) (prefix_len_le class bs)
  where
    one_more : (q : Bool) (m n : ℕ) → m ≤ n → (if q then suc m else 0) ≤ suc n
    one_more true m n h = omega arith
    one_more false m n h = omega arith

-- a prefix begins at a byte of its class
pub prefix_begins : (class : Class) (b : ℕ) (bs : List ℕ) → is_in class b ≡ true → 0 < prefix_len class (b ∷ bs)
prefix_begins class b bs e = pick (is_in class b) e
  where
    pick : (q : Bool) → q ≡ true → 0 < (if q then suc (prefix_len class bs) else 0)
    pick true e = omega arith
    pick false e = absurd cc

-- and stops at one that is not
pub prefix_stops : (class : Class) (bs : List ℕ) → prefix_len class bs < length bs → is_in class (get_or bs (prefix_len class bs) 0) ≡ false
prefix_stops class [] h = absurd (omega arith)
prefix_stops class (b ∷ bs) h = pick (is_in class b) refl h (prefix_stops class bs)
  where
    pick : (q : Bool) → is_in class b ≡ q → (if q then suc (prefix_len class bs) else 0) < suc (length bs) → (prefix_len class bs < length bs → is_in class (get_or bs (prefix_len class bs) 0) ≡ false) → is_in class (get_or (b ∷ bs) (if q then suc (prefix_len class bs) else 0) 0) ≡ false
    pick true e h more = more (omega arith)
    pick false e h more = e

get_or_drop : (xs : List ℕ) (i j : ℕ) → get_or (drop i xs) j 0 ≡ get_or xs (i + j) 0
get_or_drop xs zero j = let e : 0 + j ≡ j = omega arith in ap (λ k. get_or xs k 0) (sym e)
get_or_drop [] (suc i) j = refl
get_or_drop (x ∷ xs) (suc i) j =
    let e : suc (i + j) ≡ suc i + j = omega arith in
    get_or_drop xs i j ∙ ap (λ k. get_or (x ∷ xs) k 0) e

-- the same of a prefix from a byte of a text on
pub prefix_stops_at : (class : Class) (text : List ℕ) (start n : ℕ) → n ≡ prefix_len class (drop start text) → start + n < length text → is_in class (get_or text (start + n) 0) ≡ false
prefix_stops_at class text start n e h =
    let left = length-drop start text in
    let less : prefix_len class (drop start text) < length (drop start text) = omega (arith, e, h, left) in
    subst (λ k. is_in class (get_or text (start + k) 0) ≡ false) (sym e)
    (subst (λ b. is_in class b ≡ false) (get_or_drop text start (prefix_len class (drop start text))) (prefix_stops class (drop start text) less))
