-- The words of one length that are less than a word, by its first digit.
use Rattle.std.proofs.Common.{◌≡◌, ℕ, zero, suc, ◌+◌, ◌-◌, ◌<◌, ◌≤◌, Bool, true, false, cond, ◌&&◌, List, [], ◌∷◌, length, refl, ap, sym, ◌∙◌, subst, arith, ◌⊎◌, inl, inr, count_by, IsTrue, Ordering, Less, Equal, Greater, nat_cmp, is_lt}
use Rattle.std.proofs.lemmas.Bool.{true≢false, false≢true, cases_order, cases_Bool, and_right}
use Rattle.std.specs.Ordering.{ordering_then}
use Rattle.std.specs.Cmp.{nat_cmp_is}
use Rattle.std.specs.Cmp.Lexicographic.{slice_cmp}
use Rattle.digit_tuple.specs.Letters.{IsWord}
use Rattle.numeration.specs.Words.{words, is_less}
use Rattle.numeration.proofs.CountLemmas.{sum_below, sum_below-same, sum_below-le, sum_below-stops, sum_below-place, count_by-words, count_by-same, count_by-none}

-- how many words of a length are in the language
abbrev pub size : ℕ → (List ℕ → Bool) → ℕ → ℕ
size d test n = count_by test (words d n)

-- how many words of its length in the language are less than the word
abbrev pub below : ℕ → (List ℕ → Bool) → List ℕ → ℕ
below d test w = count_by (λ v. test v && is_less v w) (words d (length w))

-- the words that follow a digit
abbrev pub after : (List ℕ → Bool) → ℕ → List ℕ → Bool
after test a w = test (a ∷ w)

-- how many words of a length follow the digits below a number
abbrev pub led_below : ℕ → (List ℕ → Bool) → ℕ → ℕ → ℕ
led_below d test n b = sum_below (λ a. size d (after test a) n) b

pub size-suc : (d : ℕ) (test : List ℕ → Bool) (n : ℕ) → size d test (suc n) ≡ led_below d test n d
size-suc d test n = count_by-words d test n

pub and_true : (b c : Bool) → c ≡ true → (b && c) ≡ b
and_true true c holds = holds
and_true false c holds = refl

-- the first digits decide, where they differ
pub less_first : (a b : ℕ) (w v : List ℕ) → a < b → is_less (a ∷ w) (b ∷ v) ≡ true
less_first a b w v first = ap (λ (o : Ordering). is_lt (ordering_then o (slice_cmp nat_cmp w v))) (sym (nat_cmp_is a b Less first))

pub less_same : (a b : ℕ) (w v : List ℕ) → a ≡ b → is_less (a ∷ w) (b ∷ v) ≡ is_less w v
less_same a b w v same = ap (λ (o : Ordering). is_lt (ordering_then o (slice_cmp nat_cmp w v))) (sym (nat_cmp_is a b Equal same))

pub less_never : (a b : ℕ) (w v : List ℕ) → b < a → is_less (a ∷ w) (b ∷ v) ≡ false
less_never a b w v above = ap (λ (o : Ordering). is_lt (ordering_then o (slice_cmp nat_cmp w v))) (sym (nat_cmp_is a b Greater above))

-- the words that begin with digits of a word, or less: first those after a lesser digit, then those after the same
pub below-cons : (d : ℕ) (test : List ℕ → Bool) (b : ℕ) (u : List ℕ) → b < d → below d test (b ∷ u) ≡ led_below d test (length u) b + below d (after test b) u
below-cons d test b u within =
    count_by-words d (λ v. test v && is_less v (b ∷ u)) (length u)
    ∙ sum_below-stops part b d within (λ a above. count_by-none d (length u) (λ v. test (a ∷ v) && is_less (a ∷ v) (b ∷ u)) (λ v long. and_right (test (a ∷ v)) (is_less (a ∷ v) (b ∷ u)) (less_never a b v u above)))
    ∙ (let whole : sum_below part b + part b ≡ led_below d test (length u) b + below d (after test b) u = omega (arith, first, last) in whole)
  where
    part : ℕ → ℕ
    part a = count_by (λ v. test (a ∷ v) && is_less (a ∷ v) (b ∷ u)) (words d (length u))

    first : sum_below part b ≡ led_below d test (length u) b
    first = sum_below-same part (λ a. size d (after test a) (length u)) b
        (λ a less. count_by-same d (length u) (λ v. test (a ∷ v) && is_less (a ∷ v) (b ∷ u)) (after test a) (λ v over long. and_true (test (a ∷ v)) (is_less (a ∷ v) (b ∷ u)) (less_first a b v u less)))

    last : part b ≡ below d (after test b) u
    last = count_by-same d (length u) (λ v. test (b ∷ v) && is_less (b ∷ v) (b ∷ u)) (λ v. after test b v && is_less v u)
        (λ v over long. ap (λ (t : Bool). test (b ∷ v) && t) (less_same b b v u refl))

-- a word in the language is not below itself
pub below-less : (d : ℕ) (test : List ℕ → Bool) (w : List ℕ) → IsWord d w → IsTrue (test w) → below d test w < size d test (length w)
below-less d test [] over valid =
    let one : size d test 0 ≡ 1 = ap (λ b. 0 + cond {A = ℕ} b 1 0) valid in
    let none : below d test [] ≡ 0 = ap (λ b. 0 + cond {A = ℕ} b 1 0) (and_right (test []) false refl) in
    omega (arith, one, none)
below-less d test (b ∷ u) over valid =
    let rest : below d (after test b) u < size d (after test b) (length u) = below-less d (after test b) u over.1 valid in
    let split : below d test (b ∷ u) ≡ led_below d test (length u) b + below d (after test b) u = below-cons d test b u over.0 in
    let all : size d test (suc (length u)) ≡ led_below d test (length u) d = size-suc d test (length u) in
    let part : led_below d test (length u) (suc b) ≤ led_below d test (length u) d = sum_below-le (λ a. size d (after test a) (length u)) (suc b) d (let h : suc b ≤ d = omega (arith, over.0) in h) in
    omega (arith, rest, split, all, part)

-- what is less has fewer words below it
pub below-ordered : (d : ℕ) (test : List ℕ → Bool) (w v : List ℕ) → IsWord d w → IsWord d v → IsTrue (test w) → IsTrue (test v) → length w ≡ length v → is_less w v ≡ true → below d test w < below d test v
below-ordered d test [] [] first second valid also long less = absurd (false≢true less)
below-ordered d test [] (b ∷ v) first second valid also long less = absurd (omega (arith, long))
below-ordered d test (a ∷ w) [] first second valid also long less = absurd (false≢true less)
below-ordered d test (a ∷ w) (b ∷ v) first second valid also long less =
    let same_length : length w ≡ length v = omega (arith, long) in
    let low : below d test (a ∷ w) ≡ led_below d test (length w) a + below d (after test a) w = below-cons d test a w first.0 in
    let high : below d test (b ∷ v) ≡ led_below d test (length v) b + below d (after test b) v = below-cons d test b v second.0 in
    elim (cases_order a b) [
      | inl same ↦
          (let rest : below d (after test a) w < below d (after test a) v = below-ordered d (after test a) w v first.1 second.1 valid (subst (λ (c : ℕ). IsTrue (test (c ∷ v))) (sym same) also) same_length (sym (less_same a b w v same) ∙ less) in
          let leads : led_below d test (length w) a ≡ led_below d test (length v) b = ap (λ n. led_below d test n a) same_length ∙ ap (λ c. led_below d test (length v) c) same in
          let right : below d (after test a) v ≡ below d (after test b) v = ap (λ c. below d (after test c) v) same in
          omega (arith, low, high, rest, leads, right))
      | inr other ↦ elim other [
        | inl lesser ↦
            (let rest : below d (after test a) w < size d (after test a) (length w) = below-less d (after test a) w first.1 valid in
            let part : led_below d test (length w) (suc a) ≤ led_below d test (length w) b = sum_below-le (λ c. size d (after test c) (length w)) (suc a) b (let h : suc a ≤ b = omega (arith, lesser) in h) in
            let leads : led_below d test (length w) b ≡ led_below d test (length v) b = ap (λ n. led_below d test n b) same_length in
            omega (arith, low, high, rest, part, leads))
        | inr above ↦ absurd (true≢false (sym less ∙ less_never a b w v above))
      ]
    ]

-- of two words of one length one is less, or they are equal
pub word_order : (w v : List ℕ) → length w ≡ length v → (w ≡ v) ⊎ (IsTrue (is_less w v) ⊎ IsTrue (is_less v w))
word_order [] [] long = inl refl
word_order [] (b ∷ v) long = absurd (omega (arith, long))
word_order (a ∷ w) [] long = absurd (omega (arith, long))
word_order (a ∷ w) (b ∷ v) long = by (cases_order a b) (word_order w v (omega (arith, long)))
  where
    by : (a ≡ b) ⊎ ((a < b) ⊎ (b < a)) → (w ≡ v) ⊎ (IsTrue (is_less w v) ⊎ IsTrue (is_less v w)) → (a ∷ w ≡ b ∷ v) ⊎ (IsTrue (is_less (a ∷ w) (b ∷ v)) ⊎ IsTrue (is_less (b ∷ v) (a ∷ w)))
    by (inl same) (inl rest) = inl (ap (λ c. c ∷ w) same ∙ ap (λ u. b ∷ u) rest)
    by (inl same) (inr (inl less)) = inr (inl (less_same a b w v same ∙ less))
    by (inl same) (inr (inr more)) = inr (inr (less_same b a v w (sym same) ∙ more))
    by (inr (inl less)) rest = inr (inl (less_first a b w v less))
    by (inr (inr more)) rest = inr (inr (less_first b a v w more))

-- words of one length with as many words below them are equal
pub below-apart : (d : ℕ) (test : List ℕ → Bool) (w v : List ℕ) → IsWord d w → IsWord d v → IsTrue (test w) → IsTrue (test v) → length w ≡ length v → below d test w ≡ below d test v → w ≡ v
below-apart d test w v first second valid also long same = by (word_order w v long)
  where
    by : (w ≡ v) ⊎ (IsTrue (is_less w v) ⊎ IsTrue (is_less v w)) → w ≡ v
    by (inl equal) = equal
    by (inr (inl less)) = absurd (let h : below d test w < below d test v = below-ordered d test w v first second valid also long less in omega (arith, h, same))
    by (inr (inr more)) = absurd (let h : below d test v < below d test w = below-ordered d test v w second first also valid (sym long) more in omega (arith, h, same))

-- the word of a length with so many words below it
pub record IsAtPlace (d : ℕ) (test : List ℕ → Bool) (n k : ℕ) (w : List ℕ) : Type 0 where
  pub over : IsWord d w
  pub long : length w ≡ n
  pub valid : IsTrue (test w)
  pub place : below d test w ≡ k

pub below-find : (d : ℕ) (test : List ℕ → Bool) (n k : ℕ) → k < size d test n → (w : List ℕ) × IsAtPlace d test n k w
below-find d test zero k within = by (cases_Bool (test []))
  where
    by : (test [] ≡ true) ⊎ (test [] ≡ false) → (w : List ℕ) × IsAtPlace d test 0 k w
    by (inl valid) =
        let one : size d test 0 ≡ 1 = ap (λ b. 0 + cond {A = ℕ} b 1 0) valid in
        let none : below d test [] ≡ 0 = ap (λ b. 0 + cond {A = ℕ} b 1 0) (and_right (test []) false refl) in
        ([], record { over = tt; long = refl; valid = valid; place = omega (arith, one, none, within) })
    by (inr invalid) = absurd (let no_word : size d test 0 ≡ 0 = ap (λ b. 0 + cond {A = ℕ} b 1 0) invalid in omega (arith, no_word, within))
below-find d test (suc n) k within =
    let inside : k < led_below d test n d = subst (λ m. k < m) (size-suc d test n) within in
    let at = sum_below-place (λ a. size d (after test a) n) d k inside in
    let a : ℕ = at.0 in
    let left : k - led_below d test n a < size d (after test a) n = omega (arith, at.2, at.3) in
    let rest = below-find d (after test a) n (k - led_below d test n a) left in
    let u : List ℕ = rest.0 in
    let split : below d test (a ∷ u) ≡ led_below d test (length u) a + below d (after test a) u = below-cons d test a u at.1 in
    let leads : led_below d test (length u) a ≡ led_below d test n a = ap (λ m. led_below d test m a) rest.1.long in
    (a ∷ u, record { over = (at.1, rest.1.over); long = ap suc rest.1.long; valid = rest.1.valid; place = omega (arith, split, leads, rest.1.place, at.2) })
