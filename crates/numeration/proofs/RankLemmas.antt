-- Ranks of words: how many words of the same length are less, and so a bijection between words without leading zero and numbers.
use Rattle.std.proofs.Common.{◌≡◌, ℕ, zero, suc, ◌+◌, ◌<◌, ◌≤◌, Bool, true, false, cond, ◌&&◌, ◌||◌, nat_eq, List, [], ◌∷◌, ◌++◌, length, refl, ap, sym, ◌∙◌, subst, arith, ◌⊎◌, inl, inr, ◌↔◌, count_by, IsTrue}
use Rattle.std.proofs.lemmas.Bool.{false≢true, cases_lt, lt-ltb, le-ltb, eq-eqb, ne_eqb, and_right}
use Rattle.digit_tuple.specs.Letters.{IsWord}
use Rattle.digit_tuple.specs.Paddings.{zeros, without_zeros}
use Rattle.numeration.specs.Words.{words, words_to, is_plain, is_less, is_before, rank, IsLanguage, ZerosKeepTheRank, RanksDetermineWords, RanksAreInOrder}
use Rattle.numeration.specs.Systems.{IsRep}
use Rattle.numeration.proofs.CountLemmas.{sum_below, sum_below-same, sum_below-first, sum_below-le, count_by-append, count_by-words, count_by-same, count_by-same_to, count_by-none}
use Rattle.digit_tuple.proofs.PaddingLemmas.{length-zeros, without_zeros-short, zeros_then_rest, without_zeros-zeros}
pub use Rattle.digit_tuple.proofs.TruthLemmas.{same_tests}
use Rattle.numeration.proofs.PlainLemmas.{without_zeros-plain, plain_is}
use Rattle.numeration.proofs.BelowLemmas.{size, below, after, led_below, size-suc, and_true, less_first, below-cons, below-less, below-ordered, below-apart, below-find, word_order}

-- a leading zero changes nothing
pub zeros_same : (d : ℕ) (test : List ℕ → Bool) → IsLanguage d test → after test 0 ≡ test
zeros_same d test language = λ i w. same_tests (test (0 ∷ w)) (test w) (language.zeros w) i

-- there is a digit after 0
pub two_digits : (d : ℕ) (test : List ℕ → Bool) → IsLanguage d test → 1 < d
two_digits d test language =
    let long = language.endless 0 in
    by (long.0) long.1 (language.over (long.0) long.2) long.3
  where
    by : (w : List ℕ) → 0 < length w → IsWord d w → IsTrue (is_plain w) → 1 < d
    by [] some over plain = absurd (omega (arith, some))
    by (zero ∷ w) some over plain = absurd (false≢true plain)
    by (suc a ∷ w) some over plain = omega (arith, over.0)

-- the words of one length, those that begin with 0 apart
sizes_apart : (d : ℕ) (test : List ℕ → Bool) (e n : ℕ) → d ≡ suc e → after test 0 ≡ test → size d test (suc n) ≡ size d test n + sum_below (λ a. size d (after test (suc a)) n) e
sizes_apart d test e n is same =
    size-suc d test n
    ∙ ap (λ m. led_below d test n m) is
    ∙ sum_below-first (λ a. size d (after test a) n) e
    ∙ ap (λ (t : List ℕ → Bool). size d t n + sum_below (λ a. size d (after test (suc a)) n) e) same

-- the words without leading zero up to a length are as many as the words of that length
pub plain_words : (d : ℕ) (test : List ℕ → Bool) (n : ℕ) → 0 < d → after test 0 ≡ test → count_by (λ v. test v && is_plain v) (words_to d n) ≡ size d test n
plain_words d test zero some same = ap (λ b. 0 + cond {A = ℕ} b 1 0) (and_true (test []) true refl)
plain_words zero test (suc n) some same = absurd (omega (arith, some))
plain_words (suc e) test (suc n) some same =
    let d : ℕ = suc e in
    let rest : count_by (λ v. test v && is_plain v) (words_to d n) ≡ size d test n = plain_words d test n some same in
    let both = count_by-append (λ v. test v && is_plain v) (words_to d n) (words d (suc n)) in
    let split = count_by-words d (λ v. test v && is_plain v) n in
    let first : sum_below (λ a. count_by (λ v. test (a ∷ v) && is_plain (a ∷ v)) (words d n)) d ≡ count_by (λ v. test (0 ∷ v) && is_plain (0 ∷ v)) (words d n) + sum_below (λ a. count_by (λ v. test (suc a ∷ v) && is_plain (suc a ∷ v)) (words d n)) e =
    sum_below-first (λ a. count_by (λ v. test (a ∷ v) && is_plain (a ∷ v)) (words d n)) e in
    let none : count_by (λ v. test (0 ∷ v) && is_plain (0 ∷ v)) (words d n) ≡ 0 = count_by-none d n (λ v. test (0 ∷ v) && is_plain (0 ∷ v)) (λ v long. and_right (test (0 ∷ v)) false refl) in
    let others : sum_below (λ a. count_by (λ v. test (suc a ∷ v) && is_plain (suc a ∷ v)) (words d n)) e ≡ sum_below (λ a. size d (after test (suc a)) n) e =
    sum_below-same (λ a. count_by (λ v. test (suc a ∷ v) && is_plain (suc a ∷ v)) (words d n)) (λ a. size d (after test (suc a)) n) e
    (λ a within. count_by-same d n (λ v. test (suc a ∷ v) && is_plain (suc a ∷ v)) (after test (suc a)) (λ v over long. and_true (test (suc a ∷ v)) true refl)) in
    let whole : size d test (suc n) ≡ size d test n + sum_below (λ a. size d (after test (suc a)) n) e = sizes_apart d test e n refl same in
    omega (arith, rest, both, split, first, none, others, whole)

-- whether a word counts for the rank of another
abbrev counts : (List ℕ → Bool) → List ℕ → List ℕ → Bool
counts test w v = test v && (is_plain v && is_before v w)

before_longer : (v w : List ℕ) → length v < length w → is_before v w ≡ true
before_longer v w short = ap (λ (t : Bool). t || (nat_eq (length v) (length w) && is_less v w)) (lt-ltb (length v) (length w) short)

before_shorter : (v w : List ℕ) → length w < length v → is_before v w ≡ false
before_shorter v w long =
    ap (λ (t : Bool). t || (nat_eq (length v) (length w) && is_less v w)) (le-ltb (length v) (length w) (omega (arith, long)))
    ∙ ap (λ (t : Bool). t && is_less v w) (ne_eqb (length v) (length w) (λ same. absurd (omega (arith, long, same))))

before_same : (v w : List ℕ) → length v ≡ length w → is_before v w ≡ is_less v w
before_same v w same =
    ap (λ (t : Bool). t || (nat_eq (length v) (length w) && is_less v w)) (le-ltb (length v) (length w) (omega (arith, same)))
    ∙ ap (λ (t : Bool). t && is_less v w) (eq-eqb (length v) (length w) same)

-- a leading zero does not change the rank
pub rank-zero : (d : ℕ) (test : List ℕ → Bool) (u : List ℕ) → rank d test (0 ∷ u) ≡ rank d test u
rank-zero d test u =
    let both = count_by-append (counts test (without_zeros u)) (words_to d (length u)) (words d (suc (length u))) in
    let short : length (without_zeros u) ≤ length u = without_zeros-short u in
    let none : count_by (counts test (without_zeros u)) (words d (suc (length u))) ≡ 0 =
    count_by-none d (suc (length u)) (counts test (without_zeros u))
    (λ v long. and_right (test v) (is_plain v && is_before v (without_zeros u)) (and_right (is_plain v) (is_before v (without_zeros u)) (before_shorter v (without_zeros u) (omega (arith, short, long))))) in
    omega (arith, both, none)

pub rank-pad : ZerosKeepTheRank
rank-pad d test zero w = refl
rank-pad d test (suc k) w = rank-zero d test (zeros k ++ w) ∙ rank-pad d test k w

-- the rank of a word without leading zero: the shorter words, and those of its length
rank_of_plain : (d : ℕ) (test : List ℕ → Bool) (a : ℕ) (u : List ℕ) → 0 < d → after test 0 ≡ test → rank d test (suc a ∷ u) ≡ below d test (suc a ∷ u)
rank_of_plain zero test a u some same = absurd (omega (arith, some))
rank_of_plain (suc e) test a u some same = omega (arith, both, shorter, split, first, none, others, also, led, all)
  where
    d : ℕ
    d = suc e

    n : ℕ
    n = length u

    w : List ℕ
    w = suc a ∷ u

    both : rank d test w ≡ count_by (counts test w) (words_to d n) + count_by (counts test w) (words d (suc n))
    both = count_by-append (counts test w) (words_to d n) (words d (suc n))

    shorter : count_by (counts test w) (words_to d n) ≡ size d test n
    shorter = count_by-same_to d n (counts test w) (λ v. test v && is_plain v)
        (λ v short. ap (λ (t : Bool). test v && t) (and_true (is_plain v) (is_before v w) (before_longer v w (omega (arith, short)))))
        ∙ plain_words d test n some same

    split : count_by (counts test w) (words d (suc n)) ≡ sum_below (λ b. count_by (λ v. counts test w (b ∷ v)) (words d n)) d
    split = count_by-words d (counts test w) n

    first : sum_below (λ b. count_by (λ v. counts test w (b ∷ v)) (words d n)) d ≡ count_by (λ v. counts test w (0 ∷ v)) (words d n) + sum_below (λ b. count_by (λ v. counts test w (suc b ∷ v)) (words d n)) e
    first = sum_below-first (λ b. count_by (λ v. counts test w (b ∷ v)) (words d n)) e

    none : count_by (λ v. counts test w (0 ∷ v)) (words d n) ≡ 0
    none = count_by-none d n (λ v. counts test w (0 ∷ v)) (λ v long. and_right (test (0 ∷ v)) false refl)

    others : sum_below (λ b. count_by (λ v. counts test w (suc b ∷ v)) (words d n)) e ≡ sum_below (λ b. count_by (λ v. test (suc b ∷ v) && is_less (suc b ∷ v) w) (words d n)) e
    others = sum_below-same (λ b. count_by (λ v. counts test w (suc b ∷ v)) (words d n)) (λ b. count_by (λ v. test (suc b ∷ v) && is_less (suc b ∷ v) w) (words d n)) e
        (λ b within. count_by-same d n (λ v. counts test w (suc b ∷ v)) (λ v. test (suc b ∷ v) && is_less (suc b ∷ v) w)
        (λ v over long. ap (λ (t : Bool). test (suc b ∷ v) && t) (before_same (suc b ∷ v) w (ap suc long))))

    also : below d test w ≡ sum_below (λ b. count_by (λ v. test (b ∷ v) && is_less (b ∷ v) w) (words d n)) d
    also = count_by-words d (λ v. test v && is_less v w) n

    led : sum_below (λ b. count_by (λ v. test (b ∷ v) && is_less (b ∷ v) w) (words d n)) d ≡ count_by (λ v. test (0 ∷ v) && is_less (0 ∷ v) w) (words d n) + sum_below (λ b. count_by (λ v. test (suc b ∷ v) && is_less (suc b ∷ v) w) (words d n)) e
    led = sum_below-first (λ b. count_by (λ v. test (b ∷ v) && is_less (b ∷ v) w) (words d n)) e

    all : count_by (λ v. test (0 ∷ v) && is_less (0 ∷ v) w) (words d n) ≡ size d test n
    all = count_by-same d n (λ v. test (0 ∷ v) && is_less (0 ∷ v) w) (after test 0)
        (λ v over long. and_true (test (0 ∷ v)) (is_less (0 ∷ v) w) (less_first 0 (suc a) v u (omega arith)))
        ∙ ap (λ (t : List ℕ → Bool). size d t n) same

-- the rank of a word is the number of words of its length in the language that are less
pub rank_is_below : (d : ℕ) (test : List ℕ → Bool) (w : List ℕ) → IsLanguage d test → IsWord d w → rank d test w ≡ below d test w
rank_is_below d test [] language over = refl
rank_is_below d test (zero ∷ u) language over =
    rank-zero d test u
    ∙ rank_is_below d test u language over.1
    ∙ (let split : below d test (0 ∷ u) ≡ 0 + below d (after test 0) u = below-cons d test 0 u over.0 in
    let same : below d (after test 0) u ≡ below d test u = ap (λ (t : List ℕ → Bool). below d t u) (zeros_same d test language) in
    let whole : below d test u ≡ below d test (0 ∷ u) = omega (arith, split, same) in whole)
rank_is_below d test (suc a ∷ u) language over =
    rank_of_plain d test a u (let h = two_digits d test language in omega (arith, h)) (zeros_same d test language)

-- leading zeros keep a word in the language
pub valid-zeros : (d : ℕ) (test : List ℕ → Bool) (k : ℕ) (w : List ℕ) → IsLanguage d test → IsTrue (test (zeros k ++ w)) ↔ IsTrue (test w)
valid-zeros d test zero w language = (λ h. h, λ h. h)
valid-zeros d test (suc k) w language =
    let rest = valid-zeros d test k w language in
    let one = language.zeros (zeros k ++ w) in
    (λ h. rest.0 (one.0 h), λ h. one.1 (rest.1 h))

-- words of one length and one rank are equal
pub rank-apart : (d : ℕ) (test : List ℕ → Bool) (w v : List ℕ) → IsLanguage d test → IsTrue (test w) → IsTrue (test v) → length w ≡ length v → rank d test w ≡ rank d test v → w ≡ v
rank-apart d test w v language valid also long same =
    let first = language.over w valid in
    let second = language.over v also in
    below-apart d test w v first second valid also long (sym (rank_is_below d test w language first) ∙ same ∙ rank_is_below d test v language second)

pub strip_from_rank : RanksDetermineWords
strip_from_rank d test w v language valid also same =
    let m : ℕ = length w in
    let n : ℕ = length v in
    let one : length (zeros n ++ w) ≡ n + m = length-zeros n w in
    let two : length (zeros m ++ v) ≡ m + n = length-zeros m v in
    let long : length (zeros n ++ w) ≡ length (zeros m ++ v) = omega (arith, one, two) in
    let equal : zeros n ++ w ≡ zeros m ++ v =
    rank-apart d test (zeros n ++ w) (zeros m ++ v) language ((valid-zeros d test n w language).1 valid) ((valid-zeros d test m v language).1 also) long
    (rank-pad d test n w ∙ same ∙ sym (rank-pad d test m v)) in
    sym (without_zeros-zeros n w) ∙ ap without_zeros equal ∙ without_zeros-zeros m v

-- longer words are not fewer
size-step : (d : ℕ) (test : List ℕ → Bool) (n : ℕ) → IsLanguage d test → size d test n ≤ size d test (suc n)
size-step d test n language =
    let some : 1 < d = two_digits d test language in
    let whole : size d test (suc n) ≡ led_below d test n d = size-suc d test n in
    let part : led_below d test n 1 ≤ led_below d test n d = sum_below-le (λ b. size d (after test b) n) 1 d (let h : 1 ≤ d = omega (arith, some) in h) in
    let same : size d (after test 0) n ≡ size d test n = ap (λ (t : List ℕ → Bool). size d t n) (zeros_same d test language) in
    let one : led_below d test n 1 ≡ 0 + size d (after test 0) n = refl in
    omega (arith, whole, part, same, one)

size-rising : (d : ℕ) (test : List ℕ → Bool) (m n : ℕ) → IsLanguage d test → m ≤ n → size d test m ≤ size d test n
size-rising d test m zero language within = subst (λ k. size d test k ≤ size d test 0) (let e : 0 ≡ m = omega (arith, within) in e) (let h : size d test 0 ≤ size d test 0 = omega arith in h)
size-rising d test m (suc n) language within = elim (cases_lt n m) [
  | inl past ↦ subst (λ k. size d test k ≤ size d test (suc n)) (let e : suc n ≡ m = omega (arith, past, within) in e) (let h : size d test (suc n) ≤ size d test (suc n) = omega arith in h)
  | inr part ↦ (let rest : size d test m ≤ size d test n = size-rising d test m n language part in let one = size-step d test n language in omega (arith, rest, one))
]

-- a longer word without leading zero makes more words of its length
size-more : (d : ℕ) (test : List ℕ → Bool) (m : ℕ) (w : List ℕ) → IsLanguage d test → m < length w → IsTrue (test w) → IsTrue (is_plain w) → size d test m < size d test (length w)
size-more d test m [] language long valid plain = absurd (omega (arith, long))
size-more d test m (zero ∷ w) language long valid plain = absurd (false≢true plain)
size-more d test m (suc a ∷ u) language long valid plain =
    let n : ℕ = length u in
    let over = language.over (suc a ∷ u) valid in
    let grows : size d test m ≤ size d test n = size-rising d test m n language (omega (arith, long)) in
    let whole : size d test (suc n) ≡ led_below d test n d = size-suc d test n in
    let part : led_below d test n (suc (suc a)) ≤ led_below d test n d = sum_below-le (λ b. size d (after test b) n) (suc (suc a)) d (let h : suc (suc a) ≤ d = omega (arith, over.0) in h) in
    let first : led_below d test n (suc a) ≡ size d (after test 0) n + sum_below (λ b. size d (after test (suc b)) n) a = sum_below-first (λ b. size d (after test b) n) a in
    let same : size d (after test 0) n ≡ size d test n = ap (λ (t : List ℕ → Bool). size d t n) (zeros_same d test language) in
    let last : below d (after test (suc a)) u < size d (after test (suc a)) n = below-less d (after test (suc a)) u over.1 valid in
    omega (arith, grows, whole, part, first, same, last)

-- there are lengths with more words than any number
pub sizes_endless : (d : ℕ) (test : List ℕ → Bool) (n : ℕ) → IsLanguage d test → (m : ℕ) × (n < size d test m)
sizes_endless d test zero language = (0, let one : size d test 0 ≡ 1 = ap (λ b. 0 + cond {A = ℕ} b 1 0) language.empty in omega (arith, one))
sizes_endless d test (suc n) language =
    let rest = sizes_endless d test n language in
    let long = language.endless (rest.0) in
    let more : size d test (rest.0) < size d test (length (long.0)) = size-more d test (rest.0) (long.0) language long.1 long.2 long.3 in
    (length (long.0), omega (arith, rest.1, more))

-- each number is a rank
pub rank-find : (d : ℕ) (test : List ℕ → Bool) (n : ℕ) → IsLanguage d test → (w : List ℕ) × IsTrue (test w) × (rank d test w ≡ n)
rank-find d test n language =
    let length_is = sizes_endless d test n language in
    let at = below-find d test (length_is.0) n length_is.1 in
    (at.0, at.1.valid, rank_is_below d test (at.0) language at.1.over ∙ at.1.place)

-- a word without its leading zeros
pub valid-without_zeros : (d : ℕ) (test : List ℕ → Bool) (w : List ℕ) → IsLanguage d test → IsTrue (test w) ↔ IsTrue (test (without_zeros w))
valid-without_zeros d test w language =
    let parts = zeros_then_rest w in
    let both = valid-zeros d test (parts.0) (without_zeros w) language in
    (λ h. both.0 (subst (λ v. IsTrue (test v)) parts.1 h), λ h. subst (λ v. IsTrue (test v)) (sym parts.1) (both.1 h))

pub rank-without_zeros : (d : ℕ) (test : List ℕ → Bool) (w : List ℕ) → rank d test (without_zeros w) ≡ rank d test w
rank-without_zeros d test w =
    let parts = zeros_then_rest w in
    sym (rank-pad d test (parts.0) (without_zeros w)) ∙ ap (rank d test) (sym parts.1)

pub rep_exists : (d : ℕ) (test : List ℕ → Bool) (n : ℕ) → IsLanguage d test → (w : List ℕ) × IsRep d test n w
rep_exists d test n language =
    let at = rank-find d test n language in
    let w : List ℕ = at.0 in
    (without_zeros w, record { valid = (valid-without_zeros d test w language).0 at.1; plain = without_zeros-plain w; ranked = rank-without_zeros d test w ∙ at.2 })

pub rep_only : (d : ℕ) (test : List ℕ → Bool) (n : ℕ) (w v : List ℕ) → IsLanguage d test → IsRep d test n w → IsRep d test n v → w ≡ v
rep_only d test n w v language first second =
    sym (plain_is w first.plain) ∙ strip_from_rank d test w v language first.valid second.valid (first.ranked ∙ sym second.ranked) ∙ plain_is v second.plain

-- the order of words of one length is that of their ranks
pub less_is_rank : RanksAreInOrder
less_is_rank d test w v language valid also long = (there w v valid also long, λ h. back (word_order w v long) h)
  where
    there : (x y : List ℕ) → IsTrue (test x) → IsTrue (test y) → length x ≡ length y → IsTrue (is_less x y) → rank d test x < rank d test y
    there x y first second same less =
        let low = rank_is_below d test x language (language.over x first) in
        let high = rank_is_below d test y language (language.over y second) in
        let h : below d test x < below d test y = below-ordered d test x y (language.over x first) (language.over y second) first second same less in
        omega (arith, low, high, h)

    back : (w ≡ v) ⊎ (IsTrue (is_less w v) ⊎ IsTrue (is_less v w)) → rank d test w < rank d test v → IsTrue (is_less w v)
    back (inl same) ranks = absurd (let e : rank d test w ≡ rank d test v = ap (rank d test) same in omega (arith, e, ranks))
    back (inr (inl less)) ranks = less
    back (inr (inr more)) ranks = absurd (let h : rank d test v < rank d test w = there v w also valid (sym long) more in omega (arith, h, ranks))
