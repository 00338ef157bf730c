-- Keys accept the words that still make x + y = z.
use Rattle.std.proofs.Common.{◌≡◌, ℕ, zero, suc, ◌+◌, ◌-◌, ◌*◌, ◌<◌, ◌≤◌, Bool, true, false, cond, nat_lt, ◌&&◌, List, [], ◌∷◌, map, length, Option, Some, None, ◌⊎◌, inl, inr, refl, sym, ap, ◌∙◌, eq-eqb, arith, IsTrue, ◌↔◌}
use Rattle.std.specs.Option.{option_map_or}
use Rattle.std.proofs.lemmas.Bool.{false≢true, cases_Bool, cases_lt, lt-ltb, le-ltb, eqb-true, and_parts, and_from, cond-true, cond-false}
use Rattle.std.proofs.lemmas.List.{length-map}
use Rattle.digit_tuple.specs.Letters.{IsWord}
use Rattle.digit_tuple.specs.Keys.{key_accepts}
use Rattle.digit_tuple.proofs.TruthLemmas.{true_by, never_true, iff_trans}
use Rattle.fib_system.specs.Fibonacci.{is_sparse, weight, weight_sum}
use Rattle.fib_system.specs.Additions.{first_digit, second_digit, third_digit, may_follow, excess_after, key_after, is_sum, IsAdditionKey}
use Rattle.fib_system.proofs.SparseLemmas.{sparse_follow}
use Rattle.fib_system.proofs.WeightLemmas.{one_lower, two_lower, weight_is, sum_less}

-- The digits that are kept

-- with the digits of a last letter before it, each track is a word of the system
pub record AreSparse (last : ℕ) (w : List ℕ) : Type 0 where
  pub first : IsTrue (is_sparse (first_digit last ∷ map first_digit w))
  pub second : IsTrue (is_sparse (second_digit last ∷ map second_digit w))
  pub third : IsTrue (is_sparse (third_digit last ∷ map third_digit w))

first_small : (a : ℕ) → a < 8 → first_digit a < 2
first_small a small = omega (arith, small)

second_small : (a : ℕ) → second_digit a < 2
second_small a = omega arith

third_small : (a : ℕ) → third_digit a < 2
third_small a = omega arith

sparse_one : (a : ℕ) → a < 2 → IsTrue (is_sparse (a ∷ []))
sparse_one zero small = refl
sparse_one (suc zero) small = refl
sparse_one (suc (suc a)) small = absurd (omega (arith, small))

sparse_none : (last : ℕ) → last < 8 → AreSparse last []
sparse_none last small = record {
  first = sparse_one (first_digit last) (first_small last small);
  second = sparse_one (second_digit last) (second_small last);
  third = sparse_one (third_digit last) (third_small last);
}

-- one digit more on a track
follows_on : (last a : ℕ) (w : List ℕ) → last < 2 → a < 2 → IsTrue (is_sparse (last ∷ a ∷ w)) ↔ (IsTrue (nat_lt (last + a) 2) × IsTrue (is_sparse (a ∷ w)))
follows_on last a w before here =
    let both = sparse_follow last a w before here in
    (λ valid. and_parts (nat_lt (last + a) 2) (is_sparse (a ∷ w)) (sym both ∙ valid), λ parts. both ∙ and_from (nat_lt (last + a) 2) (is_sparse (a ∷ w)) parts.0 parts.1)

-- one letter more
sparse_cons : (last a : ℕ) (w : List ℕ) → last < 8 → a < 8 → AreSparse last (a ∷ w) ↔ (IsTrue (may_follow a last) × AreSparse a w)
sparse_cons last a w before here = (forth, λ both. back both.0 both.1)
  where
    first_may : Bool
    first_may = nat_lt (first_digit last + first_digit a) 2

    second_may : Bool
    second_may = nat_lt (second_digit last + second_digit a) 2

    third_may : Bool
    third_may = nat_lt (third_digit last + third_digit a) 2

    first : IsTrue (is_sparse (first_digit last ∷ first_digit a ∷ map first_digit w)) ↔ (IsTrue first_may × IsTrue (is_sparse (first_digit a ∷ map first_digit w)))
    first = follows_on (first_digit last) (first_digit a) (map first_digit w) (first_small last before) (first_small a here)

    second : IsTrue (is_sparse (second_digit last ∷ second_digit a ∷ map second_digit w)) ↔ (IsTrue second_may × IsTrue (is_sparse (second_digit a ∷ map second_digit w)))
    second = follows_on (second_digit last) (second_digit a) (map second_digit w) (second_small last) (second_small a)

    third : IsTrue (is_sparse (third_digit last ∷ third_digit a ∷ map third_digit w)) ↔ (IsTrue third_may × IsTrue (is_sparse (third_digit a ∷ map third_digit w)))
    third = follows_on (third_digit last) (third_digit a) (map third_digit w) (third_small last) (third_small a)

    forth : AreSparse last (a ∷ w) → IsTrue (may_follow a last) × AreSparse a w
    forth are =
        let one = first.0 are.first in
        let two = second.0 are.second in
        let three = third.0 are.third in
        (and_from first_may (second_may && third_may) one.0 (and_from second_may third_may two.0 three.0), record { first = one.1; second = two.1; third = three.1 })

    back : IsTrue (may_follow a last) → AreSparse a w → AreSparse last (a ∷ w)
    back follows are =
        let one = and_parts first_may (second_may && third_may) follows in
        let others = and_parts second_may third_may one.1 in
        record {
          first = first.1 (one.0, are.first);
          second = second.1 (others.0, are.second);
          third = third.1 (others.1, are.third);
        }

-- The sums

-- x + y = z in all, where p and q are the excess and the lower excess of the digits before as a key has them, f and g are the weights that
-- they have there, and x, y and z are the sums of the digits after
abbrev pub Balances : ℕ → ℕ → ℕ → ℕ → ℕ → ℕ → ℕ → Type 0
Balances p q f g x y z = p * f + q * g + x + y ≡ z + 2 * f + g

-- the same with the digits of a word after
abbrev pub Makes : ℕ → ℕ → List ℕ → Type 0
Makes p q w = Balances p q (one_lower (length w)) (two_lower (length w)) (weight_sum (map first_digit w)) (weight_sum (map second_digit w)) (weight_sum (map third_digit w))

-- one digit of each number more
balances_next : (p q f g x y z vx vy vz next : ℕ) → next + (z + 1) ≡ p + x + y
    → Balances p q (f + g) f (x * (f + g) + vx) (y * (f + g) + vy) (z * (f + g) + vz) ↔ Balances (q + next) next f g vx vy vz
balances_next p q f g x y z vx vy vz next is =
    let scale : (next + (z + 1)) * (f + g) ≡ (p + x + y) * (f + g) = ap (λ (n : ℕ). n * (f + g)) is in
    (λ h. omega (arith, scale, h), λ h. omega (arith, scale, h))

scaled : (a b n : ℕ) → a ≤ b → a * n ≤ b * n
scaled a b n le = grind arith

-- z is so far ahead that no digits to come make up for it
never_less : (p q f g x y z vx vy vz : ℕ) → q ≤ p → p + x + y ≤ z → z < 2 → vx < f + g → vy < f + g
    → ¬ Balances p q (f + g) f (x * (f + g) + vx) (y * (f + g) + vy) (z * (f + g) + vz)
never_less p q f g x y z vx vy vz low short small bx by balanced =
    let all : (p + x + y) * (f + g) ≤ z * (f + g) = scaled (p + x + y) z (f + g) short in
    let part : q * f ≤ 1 * f = scaled q 1 f (omega (arith, low, short, small)) in
    omega (arith, all, part, bx, by, balanced)

-- x + y is so far ahead
never_more : (p q f g vx vy vz : ℕ) → 3 ≤ p → 2 ≤ q → vz < f + g → ¬ Balances p q f g vx vy vz
never_more p q f g vx vy vz high also bz balanced =
    let one : 3 * f ≤ p * f = scaled 3 p f high in
    let two : 2 * g ≤ q * g = scaled 2 q g also in
    omega (arith, one, two, bz, balanced)

-- the sum of a track of a word
sum_cons : (f : ℕ → ℕ) (a : ℕ) (w : List ℕ) → weight_sum (map f (a ∷ w)) ≡ f a * (one_lower (length w) + two_lower (length w)) + weight_sum (map f w)
sum_cons f a w = ap (λ (n : ℕ). f a * weight n + weight_sum (map f w)) (length-map w f) ∙ ap (λ (n : ℕ). f a * n + weight_sum (map f w)) (weight_is (length w))

makes_cons : (p q a : ℕ) (w : List ℕ) → Makes p q (a ∷ w)
    ↔ (let f = one_lower (length w) in let g = two_lower (length w) in
    Balances p q (f + g) f (first_digit a * (f + g) + weight_sum (map first_digit w)) (second_digit a * (f + g) + weight_sum (map second_digit w)) (third_digit a * (f + g) + weight_sum (map third_digit w)))
makes_cons p q a w =
    let x = sum_cons first_digit a w in
    let y = sum_cons second_digit a w in
    let z = sum_cons third_digit a w in
    let scale : p * weight (length w) ≡ p * (one_lower (length w) + two_lower (length w)) = ap (λ (n : ℕ). p * n) (weight_is (length w)) in
    (λ h. omega (arith, x, y, z, scale, weight_is (length w), h), λ h. omega (arith, x, y, z, scale, weight_is (length w), h))

-- the sum of a track is less than the weight of the next higher place
track_less : (f : ℕ → ℕ) (a : ℕ) (w : List ℕ) → a < 2 → IsTrue (is_sparse (a ∷ map f w)) → weight_sum (map f w) < one_lower (length w) + two_lower (length w)
track_less f a w small valid =
    let less : weight_sum (map f w) < weight (length (map f w)) = sum_less (map f w) (rest a small valid) in
    let place : weight (length (map f w)) ≡ weight (length w) = ap weight (length-map w f) in
    omega (arith, less, place, weight_is (length w))
  where
    rest : (b : ℕ) → b < 2 → IsTrue (is_sparse (b ∷ map f w)) → IsTrue (is_sparse (map f w))
    rest zero small holds = holds
    rest (suc zero) small holds = (and_parts _ _ holds).1
    rest (suc (suc b)) small holds = absurd (omega (arith, small))

-- The keys

abbrev pub key_of : ℕ → ℕ → ℕ → List ℕ
key_of p q last = p ∷ q ∷ last ∷ []

-- whether a word is accepted from where a step leads
abbrev from_step : Option (List ℕ) → List ℕ → Bool
from_step o w = option_map_or (λ next. key_accepts key_after is_sum next w) o false

-- where the digits of a letter may follow
kept_accepts : (p q last a : ℕ) (w : List ℕ) → IsAdditionKey (key_of p q last) → a < 8
    → ((r s : ℕ) → IsAdditionKey (key_of r s a) → IsTrue (key_accepts key_after is_sum (key_of r s a) w) ↔ (AreSparse a w × Makes r s w))
    → IsTrue (from_step (excess_after p q a) w) ↔ (AreSparse a w × Makes p q (a ∷ w))
kept_accepts p q last a w is small rest = by (cases_lt total (third_digit a + 1))
  where
    total : ℕ
    total = p + first_digit a + second_digit a

    next : ℕ
    next = total - (third_digit a + 1)

    f : ℕ
    f = one_lower (length w)

    g : ℕ
    g = two_lower (length w)

    grown : Option (List ℕ)
    grown = cond (nat_lt 4 (q + next + next)) None (Some ((q + next) ∷ next ∷ a ∷ []))

    stops : (o : Option (List ℕ)) → o ≡ None → ¬ (AreSparse a w × Makes p q (a ∷ w)) → IsTrue (from_step o w) ↔ (AreSparse a w × Makes p q (a ∷ w))
    stops o none never = never_true (from_step o w) _ (ap (λ (e : Option (List ℕ)). from_step e w) none) never

    by_more : next + (third_digit a + 1) ≡ total → (4 < q + next + next) ⊎ (q + next + next ≤ 4) → IsTrue (from_step grown w) ↔ (AreSparse a w × Makes p q (a ∷ w))
    by_more sum (inl more) = stops grown (cond-true _ _ _ (lt-ltb 4 (q + next + next) more))
        (λ both. never_more (q + next) next f g _ _ _ (omega (arith, more, is.low, is.sum)) (omega (arith, more, is.low, is.sum)) (track_less third_digit (third_digit a) w (third_small a) both.0.third)
        ((balances_next p q f g (first_digit a) (second_digit a) (third_digit a) _ _ _ next sum).0 ((makes_cons p q a w).0 both.1)))
    by_more sum (inr few) =
        let key : IsAdditionKey (key_of (q + next) next a) = record { numbers = refl; low = omega arith; high = omega (arith, is.low, is.sum); sum = omega (arith, few); letter = small } in
        let same : Makes p q (a ∷ w) ↔ Makes (q + next) next w = iff_trans _ _ _ (makes_cons p q a w) (balances_next p q f g (first_digit a) (second_digit a) (third_digit a) _ _ _ next sum) in
        true_by (from_step grown w) (key_accepts key_after is_sum (key_of (q + next) next a) w) _
        (ap (λ (e : Option (List ℕ)). from_step e w) (cond-false _ _ _ (le-ltb 4 (q + next + next) few)))
        (iff_trans _ _ _ (rest (q + next) next key) (λ both. (both.0, same.1 both.1), λ both. (both.0, same.0 both.1)))

    by : (total < third_digit a + 1) ⊎ (third_digit a + 1 ≤ total) → IsTrue (from_step (excess_after p q a) w) ↔ (AreSparse a w × Makes p q (a ∷ w))
    by (inl short) = stops (excess_after p q a) (cond-true _ _ _ (lt-ltb total (third_digit a + 1) short))
        (λ both. never_less p q f g (first_digit a) (second_digit a) (third_digit a) _ _ _ is.low (omega (arith, short)) (third_small a)
        (track_less first_digit (first_digit a) w (first_small a small) both.0.first) (track_less second_digit (second_digit a) w (second_small a) both.0.second)
        ((makes_cons p q a w).0 both.1))
    by (inr long) = true_by (from_step (excess_after p q a) w) (from_step grown w) _ (ap (λ (e : Option (List ℕ)). from_step e w) (cond-false _ _ _ (le-ltb total (third_digit a + 1) long)))
        (by_more (omega (arith, long)) (cases_lt 4 (q + next + next)))

-- a key accepts exactly the words whose tracks are words of the system and make x + y = z
pub key_accepts_sums : (p q last : ℕ) (w : List ℕ) → IsAdditionKey (key_of p q last) → IsWord 8 w → IsTrue (key_accepts key_after is_sum (key_of p q last) w) ↔ (AreSparse last w × Makes p q w)
key_accepts_sums p q last [] is over =
    (λ h. (sparse_none last is.letter, omega (arith, eqb-true p 2 h)), λ both. eq-eqb p 2 (omega (arith, both.1)))
key_accepts_sums p q last (a ∷ w) is over = by (cases_Bool (may_follow a last)) (kept_accepts p q last a w is over.0 (λ r s key. key_accepts_sums r s a w key over.1))
  where
    sparse : AreSparse last (a ∷ w) ↔ (IsTrue (may_follow a last) × AreSparse a w)
    sparse = sparse_cons last a w is.letter over.0

    step : Option (List ℕ)
    step = key_after (key_of p q last) a

    by : (may_follow a last ≡ true) ⊎ (may_follow a last ≡ false) → IsTrue (from_step (excess_after p q a) w) ↔ (AreSparse a w × Makes p q (a ∷ w)) → IsTrue (from_step step w) ↔ (AreSparse last (a ∷ w) × Makes p q (a ∷ w))
    by (inl follows) kept = true_by (from_step step w) (from_step (excess_after p q a) w) _ (ap (λ (o : Option (List ℕ)). from_step o w) (cond-true (may_follow a last) (excess_after p q a) None follows))
        (iff_trans _ _ _ kept (λ both. (sparse.1 (follows, both.0), both.1), λ both. ((sparse.0 both.0).1, both.1)))
    by (inr not) kept = never_true (from_step step w) _ (ap (λ (o : Option (List ℕ)). from_step o w) (cond-false (may_follow a last) (excess_after p q a) None not)) (λ both. false≢true (sym not ∙ (sparse.0 both.0).0))
