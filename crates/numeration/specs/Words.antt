-- Words over digits, read from the most significant digit on, and the ranks that a language gives them.
use Rattle.std.specs.Prelude.{◌≡◌, ℕ, zero, suc, ◌<◌, Bool, true, false, ◌&&◌, ◌||◌, nat_lt, nat_eq, List, [], ◌∷◌, ◌++◌, map, length, IsTrue, ◌↔◌}
use Rattle.std.specs.List.{count_by}
use Rattle.std.specs.Ordering.{nat_cmp, is_lt}
use Rattle.std.specs.Cmp.Lexicographic.{slice_cmp}
use Rattle.digit_tuple.specs.Letters.{IsWord}
use Rattle.digit_tuple.specs.Paddings.{without_zeros, zeros}

-- each word after each digit below a number, in order of the digits
abbrev pub led : List (List ℕ) → ℕ → List (List ℕ)
led ws zero = []
led ws (suc a) = led ws a ++ map (λ w. a ∷ w) ws

-- all words of a length, in lexicographic order
abbrev pub words : ℕ → ℕ → List (List ℕ)
words d zero = [] ∷ []
words d (suc n) = led (words d n) d

-- all words up to a length, in radix order
abbrev pub words_to : ℕ → ℕ → List (List ℕ)
words_to d zero = words d zero
words_to d (suc n) = words_to d n ++ words d (suc n)

-- the word has no leading zero
abbrev pub is_plain : List ℕ → Bool
is_plain [] = true
is_plain (zero ∷ w) = false
is_plain (suc a ∷ w) = true

-- lexicographic order: the first digit that differs is smaller in the first one of two words
abbrev pub is_less : List ℕ → List ℕ → Bool
is_less w v = is_lt (slice_cmp nat_cmp w v)

-- radix order: shorter words first, and words of one length in lexicographic order
abbrev pub is_before : List ℕ → List ℕ → Bool
is_before w v = nat_lt (length w) (length v) || (nat_eq (length w) (length v) && is_less w v)

-- how many words of the language without leading zero come before the word, its own leading zeros left out
abbrev pub rank : ℕ → (List ℕ → Bool) → List ℕ → ℕ
rank d test w = count_by (λ v. test v && (is_plain v && is_before v (without_zeros w))) (words_to d (length w))

-- what the language of a system is, read from the most significant digit on: its words are over the digits, the empty word is one,
-- a leading zero changes nothing, and there are longer words than any, without leading zero
pub record IsLanguage (d : ℕ) (test : List ℕ → Bool) : Type 0 where
  pub over : (w : List ℕ) → IsTrue (test w) → IsWord d w
  pub empty : IsTrue (test [])
  pub zeros : (w : List ℕ) → IsTrue (test (0 ∷ w)) ↔ IsTrue (test w)
  pub endless : (n : ℕ) → (w : List ℕ) × (n < length w) × IsTrue (test w) × IsTrue (is_plain w)

-- leading zeros do not change the rank
abbrev pub ZerosKeepTheRank : Type 0
ZerosKeepTheRank = (d : ℕ) (test : List ℕ → Bool) (k : ℕ) (w : List ℕ) → rank d test (zeros k ++ w) ≡ rank d test w

-- words of one rank differ in leading zeros alone
abbrev pub RanksDetermineWords : Type 0
RanksDetermineWords = (d : ℕ) (test : List ℕ → Bool) (w v : List ℕ) → IsLanguage d test → IsTrue (test w) → IsTrue (test v)
    → rank d test w ≡ rank d test v → without_zeros w ≡ without_zeros v

-- of two words of one length in the language, the one that is less in lexicographic order has the smaller rank
abbrev pub RanksAreInOrder : Type 0
RanksAreInOrder = (d : ℕ) (test : List ℕ → Bool) (w v : List ℕ) → IsLanguage d test → IsTrue (test w) → IsTrue (test v) → length w ≡ length v
    → IsTrue (is_less w v) ↔ (rank d test w < rank d test v)
