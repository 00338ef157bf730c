-- The paddings of one word, and the words that may follow its prefixes.
use Rattle.std.proofs.Common.{◌≡◌, ℕ, zero, suc, ◌+◌, ◌<◌, ◌≤◌, List, [], ◌∷◌, ◌++◌, take, length, reverse, get_or, refl, ap, sym, ◌∙◌, subst, arith, ◌↔◌, ◌⊎◌, inl, inr, IsTrue}
use Rattle.std.proofs.lemmas.Bool.{false≢true, cases_lt}
use Rattle.std.proofs.lemmas.List.{append_assoc, append_cancel_left, reverse-append, reverse-reverse, length-append, length-reverse, length-take-le, take_all, get_or_at, get_or_append_left}
use Rattle.digit_tuple.specs.Paddings.{zeros, without_zeros, in_order, strip}
use Rattle.digit_tuple.specs.declared.direction.Direction.{Direction}
use Rattle.digit_tuple.specs.declared.direction.Direction.TheVariants.{Msd, Lsd}
use Rattle.digit_tuple.proofs.PaddingLemmas.{in_order-twice, length-in_order, without_zeros-short, zeros_at_end, reverse-cons}
use Rattle.numeration.specs.Words.{is_plain}
use Rattle.numeration.proofs.PlainLemmas.{plain_is}
use Rattle.constants.specs.WordPaths.{IsNextLetter, IsPaddingZero, padding_prefix}

-- a word is another but for zeros before its most significant digit
abbrev pub Pads : Direction → List ℕ → List ℕ → Type 0
Pads direction r w = without_zeros (in_order direction w) ≡ r

-- a padding is no shorter
pub pads_long : (direction : Direction) (r w : List ℕ) → Pads direction r w → length r ≤ length w
pads_long direction r w pads =
    let short : length (without_zeros (in_order direction w)) ≤ length (in_order direction w) = without_zeros-short (in_order direction w) in
    let same : length (in_order direction w) ≡ length w = length-in_order direction w in
    let is : length (without_zeros (in_order direction w)) ≡ length r = ap length pads in
    omega (arith, short, same, is)

-- the word itself is one
pub pads_self : (direction : Direction) (r : List ℕ) → IsTrue (is_plain r) → Pads direction r (in_order direction r)
pads_self direction r plain = ap without_zeros (in_order-twice direction r) ∙ plain_is r plain

-- a prefix of a word and a letter more, of a word that is the same
next_from : (x w : List ℕ) (m q a : ℕ) → length x ≡ m → q ≤ m → take q x ++ a ∷ w ≡ x → IsNextLetter x m q a
next_from x w m q a long few same =
    let prefix : length (take q x) ≡ q = length-take-le q x (omega (arith, long, few)) in
    let whole : length (take q x ++ a ∷ w) ≡ length (take q x) + suc (length w) = length-append (take q x) (a ∷ w) in
    let one : length (take q x ++ a ∷ w) ≡ length x = ap length same in
    (omega (arith, prefix, whole, one, long), sym (get_or_at (take q x) a w 0 q prefix) ∙ ap (λ v. get_or v q 0) same)

-- and of one with zeros after it
next_or_zero : (x w : List ℕ) (m k q a : ℕ) → length x ≡ m → q ≤ m → take q x ++ a ∷ w ≡ x ++ zeros k → IsNextLetter x m q a ⊎ ((q ≡ m) × (a ≡ 0))
next_or_zero x w m k q a long few same = by (cases_lt q m)
  where
    prefix : length (take q x) ≡ q
    prefix = length-take-le q x (omega (arith, long, few))

    first : (j : ℕ) → a ∷ w ≡ zeros j → a ≡ 0
    first zero none = absurd (let e : suc (length w) ≡ 0 = ap length none in omega (arith, e))
    first (suc j) some = ap (λ v. get_or v 0 0) some

    by : (q < m) ⊎ (m ≤ q) → IsNextLetter x m q a ⊎ ((q ≡ m) × (a ≡ 0))
    by (inl less) = inl (less, sym (get_or_at (take q x) a w 0 q prefix) ∙ ap (λ v. get_or v q 0) same ∙ get_or_append_left x (zeros k) 0 q (omega (arith, less, long)))
    by (inr more) = inr (
      omega (arith, more, few),
      first k (append_cancel_left x (a ∷ w) (zeros k) (ap (λ v. v ++ a ∷ w) (sym (take_all q x (omega (arith, more, long)))) ∙ same)),
    )

-- what follows a prefix and neither goes on with the word nor pads it makes no padding
pub stopped : (direction : Direction) (r w : List ℕ) (q a : ℕ) → IsTrue (is_plain r) → q ≤ length r
    → ¬ IsNextLetter (in_order direction r) (length r) q a → ¬ IsPaddingZero direction r q a → ¬ Pads direction r (take q (in_order direction r) ++ a ∷ w)
stopped Msd r w zero zero plain few next padding pads = padding (refl, refl)
stopped Msd r w zero (suc a) plain few next padding pads = next (next_from r w (length r) 0 (suc a) refl few pads)
stopped Msd [] w (suc q) a plain few next padding pads = absurd (omega (arith, few))
stopped Msd (zero ∷ r) w (suc q) a plain few next padding pads = absurd (false≢true plain)
stopped Msd (suc b ∷ r) w (suc q) a plain few next padding pads = next (next_from (suc b ∷ r) w (suc (length r)) (suc q) a refl few pads)
stopped Lsd r w q a plain few next padding pads = by (next_or_zero (reverse r) w (length r) suffix.0 q a (length-reverse r) few (suffix.1 ∙ ap (λ v. reverse v ++ zeros suffix.0) pads))
  where
    v : List ℕ
    v = take q (reverse r) ++ a ∷ w

    suffix : (k : ℕ) × (v ≡ strip Lsd v ++ zeros k)
    suffix = zeros_at_end v

    by : IsNextLetter (reverse r) (length r) q a ⊎ ((q ≡ length r) × (a ≡ 0)) → ⊥
    by (inl is) = next is
    by (inr is) = padding is

-- a letter 1 after the word makes none
pub never_after : (direction : Direction) (r w : List ℕ) → IsTrue (is_plain r) → ¬ Pads direction r (in_order direction r ++ 1 ∷ w)
never_after direction r w plain pads =
    let all : take (length r) (in_order direction r) ≡ in_order direction r = take_all (length r) (in_order direction r) (let e = length-in_order direction r in omega (arith, e)) in
    stopped direction r w (length r) 1 plain (omega arith) (λ next. absurd (omega (arith, next.0))) (λ padding. absurd (omega (arith, padding.1)))
    (subst (λ v. Pads direction r (v ++ 1 ∷ w)) (sym all) pads)

turned : (r v : List ℕ) → reverse (reverse r ++ v) ≡ reverse v ++ r
turned r v = reverse-append (reverse r) v ∙ ap (λ u. reverse v ++ u) (reverse-reverse r)

-- a zero more before a word
zero_between : (r v : List ℕ) → (without_zeros (v ++ 0 ∷ r) ≡ r) ↔ (without_zeros (v ++ r) ≡ r)
zero_between r [] = (λ h. h, λ h. h)
zero_between r (zero ∷ v) = zero_between r v
zero_between r (suc b ∷ v) = (
  λ h. absurd (let e : suc (length (v ++ 0 ∷ r)) ≡ length r = ap length h in let f : length (v ++ 0 ∷ r) ≡ length v + suc (length r) = length-append v (0 ∷ r) in omega (arith, e, f)),
  λ h. absurd (let e : suc (length (v ++ r)) ≡ length r = ap length h in let f : length (v ++ r) ≡ length v + length r = length-append v r in omega (arith, e, f)),
)

-- one more zero where padding zeros are
pub padding_same : (direction : Direction) (r w : List ℕ)
    → Pads direction r (take (padding_prefix direction (length r)) (in_order direction r) ++ 0 ∷ w) ↔ Pads direction r (take (padding_prefix direction (length r)) (in_order direction r) ++ w)
padding_same Msd r w = (λ h. h, λ h. h)
padding_same Lsd r w = subst (λ x. (without_zeros (reverse (x ++ 0 ∷ w)) ≡ r) ↔ (without_zeros (reverse (x ++ w)) ≡ r)) (sym all)
    (subst (λ x. (without_zeros x ≡ r) ↔ (without_zeros (reverse (reverse r ++ w)) ≡ r)) (sym more)
    (subst (λ x. (without_zeros (reverse w ++ 0 ∷ r) ≡ r) ↔ (without_zeros x ≡ r)) (sym (turned r w)) (zero_between r (reverse w))))
  where
    all : take (length r) (reverse r) ≡ reverse r
    all = take_all (length r) (reverse r) (let e : length (reverse r) ≡ length r = length-reverse r in omega (arith, e))

    more : reverse (reverse r ++ 0 ∷ w) ≡ reverse w ++ 0 ∷ r
    more = turned r (0 ∷ w) ∙ ap (λ v. v ++ r) (reverse-cons 0 w) ∙ append_assoc (reverse w) (0 ∷ []) r
