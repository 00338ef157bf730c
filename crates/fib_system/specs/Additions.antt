-- Additions read from the most significant digit on, by how far x + y is past z in the digits read so far.
--
-- The excess is x + y - z of these digits by the weights 1, 2, 3, 5, .. from the last place on, and the lower excess is the same by the
-- weights 1, 1, 2, 3, ... With d = x + y - z of the next digits, the next lower excess is the excess and d, and the next excess is that and
-- the lower excess.
--
-- The digits to come can make x + y = z only where the excess is at least -2, the lower excess at least -1 and their sum at most 1. The two
-- then differ by at most 1. A key has the excess raised by 2, the lower excess raised by 1, and the last letter.
use Rattle.std.specs.Prelude.{◌≡◌, ◌==◌, ℕ, ◌+◌, ◌-◌, ◌/◌, ◌%◌, ◌<◌, ◌≤◌, Bool, ◌&&◌, nat_lt, List, [], ◌∷◌, length, Option, None, Some, MatchOption, ⊤, cond, slice_index_or}
use Rattle.std.proofs.Common.{refl, arith}
use Rattle.std.proofs.lemmas.Bool.{cond_both, ltb-false}

-- the digits of a letter on three tracks, of which the first changes slowest
abbrev pub first_digit : ℕ → ℕ
first_digit letter = letter / 4

abbrev pub second_digit : ℕ → ℕ
second_digit letter = letter % 4 / 2

abbrev pub third_digit : ℕ → ℕ
third_digit letter = letter % 2

-- on no track a 1 follows a 1
abbrev pub may_follow : ℕ → ℕ → Bool
may_follow letter last =
    nat_lt (first_digit last + first_digit letter) 2
    && (nat_lt (second_digit last + second_digit letter) 2 && nat_lt (third_digit last + third_digit letter) 2)

-- both as a key has them after a letter more, and this letter, unless no digits to come make x + y = z
abbrev pub excess_after : ℕ → ℕ → ℕ → Option (List ℕ)
excess_after excess lower letter =
    cond (nat_lt (excess + first_digit letter + second_digit letter) (third_digit letter + 1)) None
    (let next = excess + first_digit letter + second_digit letter - (third_digit letter + 1) in
    cond (nat_lt 4 (lower + next + next)) None (Some ((lower + next) ∷ next ∷ letter ∷ [])))

-- the number at a place of a key
abbrev pub at : List ℕ → ℕ → ℕ
at key place = slice_index_or key place 0

-- where a letter leads from a key
abbrev pub key_after : List ℕ → ℕ → Option (List ℕ)
key_after key letter = cond (may_follow letter (at key 2)) (excess_after (at key 0) (at key 1) letter) None

-- no digits have been read: both are 0, and any letter may follow the last one
abbrev pub no_digits : List ℕ
no_digits = 2 ∷ 1 ∷ 0 ∷ []

-- the excess is 0: x + y = z in the digits read so far
abbrev pub is_sum : List ℕ → Bool
is_sum key = at key 0 == 2

-- which keys may come: the excess and the lower one differ by at most 1, and their sum is at most 1
pub record IsAdditionKey (key : List ℕ) : Type 0 where
  pub numbers : length key ≡ 3
  pub low : at key 1 ≤ at key 0
  pub high : at key 0 ≤ at key 1 + 2
  pub sum : at key 0 + at key 1 ≤ 4
  pub letter : at key 2 < 8

pub start_is_addition_key : IsAdditionKey no_digits
start_is_addition_key = record { numbers = refl; low = omega arith; high = omega arith; sum = omega arith; letter = omega arith }

pub after_is_addition_key : (key : List ℕ) (letter : ℕ) → IsAdditionKey key → letter < 8 → MatchOption (key_after key letter) ⊤ IsAdditionKey
after_is_addition_key key letter is small =
    cond_both (may_follow letter (at key 2)) (excess_after (at key 0) (at key 1) letter) None May (λ follows. kept) (λ not. tt)
  where
    May : Option (List ℕ) → Type 0
    May o = MatchOption o ⊤ IsAdditionKey

    total : ℕ
    total = at key 0 + first_digit letter + second_digit letter

    next : ℕ
    next = total - (third_digit letter + 1)

    grown : List ℕ
    grown = (at key 1 + next) ∷ next ∷ letter ∷ []

    kept : May (excess_after (at key 0) (at key 1) letter)
    kept = cond_both (nat_lt total (third_digit letter + 1)) None (cond (nat_lt 4 (at key 1 + next + next)) None (Some grown)) May (λ short. tt)
        (λ long. cond_both (nat_lt 4 (at key 1 + next + next)) None (Some grown) May (λ more. tt)
        (λ few. record {
          numbers = refl;
          low = omega arith;
          high = omega (arith, is.sum, is.low);
          sum = omega (arith, ltb-false 4 (at key 1 + next + next) few);
          letter = small;
        }))
