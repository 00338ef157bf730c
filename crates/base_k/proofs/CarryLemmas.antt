-- Automata whose states are carries accept the words whose third track has the sum of the values of the others.
use Rattle.std.proofs.Common.{◌≡◌, ℕ, zero, suc, ◌+◌, ◌*◌, ◌/◌, ◌^◌, ◌<◌, ◌≤◌, true, false, cond, nat_eq, IsTrue, ◌↔◌, ◌⊎◌, inl, inr, List, [], ◌∷◌, map, length, Option, Some, None, refl, sym, ap, ◌∙◌, eq-eqb, arith}
use Rattle.std.specs.Option.{option_map_or}
use Rattle.std.proofs.Math.Nat.{pow-zero, pow-suc, mul-div_cancel_left}
use Rattle.std.proofs.lemmas.Bool.{cases_eq, cases_lt, cases_order, cond-true, cond-false, ne_eqb}
use Rattle.std.proofs.lemmas.List.{length-map}
use Rattle.digit_tuple.specs.Letters.{IsWord}
use Rattle.digit_tuple.specs.Deterministic.{Automaton, accepting_of, step_of, accepts_from}
use Rattle.base_k.specs.Positional.{value}
use Rattle.base_k.specs.Carries.{carry_in, carry_out}
use Rattle.base_k.proofs.ValueLemmas.{value_up}
use Rattle.digit_tuple.proofs.TruthLemmas.{true_by, never_true, ever_true, iff_trans, iff_sym}

-- the digits of a letter on three tracks
pub record Tracks : Type 0 where
  pub first : ℕ → ℕ
  pub second : ℕ → ℕ
  pub third : ℕ → ℕ

-- an automaton of two states, one for each carry, and the digits of its letters
pub record IsCarrying (k letters : ℕ) (next : ℕ → ℕ → ℕ → ℕ → Option ℕ) (t : Tracks) (d : Automaton) : Type 0 where
  pub none : accepting_of d 0 ≡ true
  pub one : accepting_of d 1 ≡ false
  pub step : (c a : ℕ) → c < 2 → a < letters → step_of d c a ≡ next c (t.first a) (t.second a) (t.third a)
  pub firsts : (a : ℕ) → a < letters → t.first a < k
  pub seconds : (a : ℕ) → a < letters → t.second a < k
  pub thirds : (a : ℕ) → a < letters → t.third a < k

-- what a step may give: no carry, a carry, or none that fits
pub data Outcome (o : Option ℕ) (none one : Type 0) : Type 0 where
  goes_0 : o ≡ Some 0 → none → Outcome o none one
  goes_1 : o ≡ Some 1 → one → Outcome o none one
  stops : o ≡ None → ¬ none → ¬ one → Outcome o none one

outcome_of : (m n p : ℕ) → Outcome (cond (nat_eq m n) (Some 0) (cond (nat_eq m p) (Some 1) None)) (m ≡ n) (m ≡ p)
outcome_of m n p = elim (cases_eq m n) [
  | inl same ↦ goes_0 (cond-true (nat_eq m n) (Some 0) (cond (nat_eq m p) (Some 1) None) (eq-eqb m n same)) same
  | inr other ↦
      let past = cond-false (nat_eq m n) (Some 0) (cond (nat_eq m p) (Some 1) None) (ne_eqb m n other) in
      elim (cases_eq m p) [
        | inl same ↦ goes_1 (past ∙ cond-true (nat_eq m p) (Some 1) None (eq-eqb m p same)) same
        | inr also ↦ stops (past ∙ cond-false (nat_eq m p) (Some 1) None (ne_eqb m p also)) other also
      ]
]

accepts_step : (d : Automaton) (c a : ℕ) (w : List ℕ) (o : Option ℕ) → step_of d c a ≡ o → accepts_from d c (a ∷ w) ≡ option_map_or (λ p. accepts_from d p w) o false
accepts_step d c a w o same = ap (λ (s : Option ℕ). option_map_or (λ p. accepts_from d p w) s false) same

-- equations between equal numbers
same_sides : (a b c d : ℕ) → a ≡ c → b ≡ d → (a ≡ b) ↔ (c ≡ d)
same_sides a b c d left right = (λ h. sym left ∙ h ∙ right, λ h. left ∙ h ∙ sym right)

-- the value of a track of a word
value_cons : (k : ℕ) (f : ℕ → ℕ) (a : ℕ) (w : List ℕ) → value k (map f (a ∷ w)) ≡ f a * k ^ length w + value k (map f w)
value_cons k f a w = ap (λ (n : ℕ). f a * k ^ n + value k (map f w)) (length-map w f)

scaled : (a b p : ℕ) → a ≤ b → a * p ≤ b * p
scaled a b p le = grind arith

-- a word over digits below k has a value below the power of k by its length
value_less : (k : ℕ) (f : ℕ → ℕ) (letters : ℕ) (w : List ℕ) → ((a : ℕ) → a < letters → f a < k) → IsWord letters w → value k (map f w) < k ^ length w
value_less k f letters [] small over = omega (arith, pow-zero k)
value_less k f letters (a ∷ w) small over =
    let rest = value_less k f letters w small over.1 in
    let here : f a + 1 ≤ k = omega (arith, small a over.0) in
    omega (arith, value_cons k f a w, pow-suc k (length w), rest, scaled (f a + 1) k (k ^ length w) here)

-- a number that is neither the other nor the one after it
apart_from : (m n : ℕ) → ¬ (m ≡ n) → ¬ (m ≡ n + 1) → (m + 1 ≤ n) ⊎ (n + 2 ≤ m)
apart_from m n not_0 not_1 = elim (cases_lt m n) [
  | inl less ↦ inl (omega (arith, less))
  | inr most ↦ inr (omega (arith, most, not_0, not_1))
]

-- From the most significant digit

-- the third value, and the carry that is to go out, are the sum of the others
abbrev pub AddsFrom : ℕ → ℕ → Tracks → List ℕ → Type 0
AddsFrom k c t w = c * k ^ length w + value k (map t.third w) ≡ value k (map t.first w) + value k (map t.second w)

msd_step : (k c x y z p vx vy vz e : ℕ) → c * k + z ≡ x + y + e → (c * (p * k) + (z * p + vz) ≡ (x * p + vx) + (y * p + vy)) ↔ (e * p + vz ≡ vx + vy)
msd_step k c x y z p vx vy vz e digits =
    let scale : (c * k + z) * p ≡ (x + y + e) * p = ap (λ (n : ℕ). n * p) digits in
    (λ h. omega (arith, scale, h), λ h. omega (arith, scale, h))

msd_stop : (k c x y z p vx vy vz : ℕ) → vx < p → vy < p → vz < p → ¬ (c * k + z ≡ x + y) → ¬ (c * k + z ≡ x + y + 1) → ¬ (c * (p * k) + (z * p + vz) ≡ (x * p + vx) + (y * p + vy))
msd_stop k c x y z p vx vy vz bx by bz not_0 not_1 h = by_order (apart_from (c * k + z) (x + y) not_0 not_1)
  where
    by_order : (c * k + z + 1 ≤ x + y) ⊎ (x + y + 2 ≤ c * k + z) → ⊥
    by_order (inl less) = let more : (c * k + z + 1) * p ≤ (x + y) * p = scaled (c * k + z + 1) (x + y) p less in omega (arith, more, h, bx, by, bz)
    by_order (inr less) = let more : (x + y + 2) * p ≤ (c * k + z) * p = scaled (x + y + 2) (c * k + z) p less in omega (arith, more, h, bx, by, bz)

adds_cons : (k c : ℕ) (t : Tracks) (a : ℕ) (w : List ℕ) → AddsFrom k c t (a ∷ w)
    ↔ (c * (k ^ length w * k) + (t.third a * k ^ length w + value k (map t.third w)) ≡ (t.first a * k ^ length w + value k (map t.first w)) + (t.second a * k ^ length w + value k (map t.second w)))
adds_cons k c t a w =
    same_sides _ _ _ _ (ap2 (ap (λ (n : ℕ). c * n) (pow-suc k (length w))) (value_cons k t.third a w)) (ap2 (value_cons k t.first a w) (value_cons k t.second a w))
  where
    ap2 : {m n o p : ℕ} → m ≡ n → o ≡ p → m + o ≡ n + p
    ap2 left right = cc

-- a state accepts exactly the words that add up to its carry
pub msd_accepts : (k letters : ℕ) (t : Tracks) (d : Automaton) (c : ℕ) (w : List ℕ) → IsCarrying k letters (carry_in k) t d → c < 2 → IsWord letters w → IsTrue (accepts_from d c w) ↔ AddsFrom k c t w
msd_accepts k letters t d zero [] carrying small over = ever_true (accepting_of d 0) _ carrying.none (omega (arith, pow-zero k))
msd_accepts k letters t d (suc zero) [] carrying small over = never_true (accepting_of d 1) _ carrying.one (λ h. omega (arith, pow-zero k, h))
msd_accepts k letters t d (suc (suc c)) [] carrying small over = absurd (omega (arith, small))
msd_accepts k letters t d c (a ∷ w) carrying small over =
    iff_trans _ _ _ (by (carry_in k c (t.first a) (t.second a) (t.third a)) (carrying.step c a small over.0) (outcome_of (c * k + t.third a) (t.first a + t.second a) (t.first a + t.second a + 1))
    (λ e few. msd_accepts k letters t d e w carrying few over.1))
    (iff_sym _ _ (adds_cons k c t a w))
  where
    Spread : Type 0
    Spread = c * (k ^ length w * k) + (t.third a * k ^ length w + value k (map t.third w)) ≡ (t.first a * k ^ length w + value k (map t.first w)) + (t.second a * k ^ length w + value k (map t.second w))

    by : (o : Option ℕ) → step_of d c a ≡ o → Outcome o (c * k + t.third a ≡ t.first a + t.second a) (c * k + t.third a ≡ t.first a + t.second a + 1)
        → ((e : ℕ) → e < 2 → IsTrue (accepts_from d e w) ↔ AddsFrom k e t w) → IsTrue (accepts_from d c (a ∷ w)) ↔ Spread
    by o is (goes_0 to digits) rest =
        true_by _ (accepts_from d 0 w) Spread (accepts_step d c a w (Some 0) (is ∙ to))
        (iff_trans _ _ _ (rest 0 (omega arith))
        (iff_sym _ _ (msd_step k c (t.first a) (t.second a) (t.third a) (k ^ length w) _ _ _ 0 (omega (arith, digits)))))
    by o is (goes_1 to digits) rest =
        true_by _ (accepts_from d 1 w) Spread (accepts_step d c a w (Some 1) (is ∙ to))
        (iff_trans _ _ _ (rest 1 (omega arith))
        (iff_sym _ _ (msd_step k c (t.first a) (t.second a) (t.third a) (k ^ length w) _ _ _ 1 digits)))
    by o is (stops to not_0 not_1) rest =
        never_true _ Spread (accepts_step d c a w None (is ∙ to))
        (msd_stop k c (t.first a) (t.second a) (t.third a) (k ^ length w) _ _ _ (value_less k t.first letters w carrying.firsts over.1) (value_less k t.second letters w carrying.seconds over.1)
        (value_less k t.third letters w carrying.thirds over.1) not_0 not_1)

-- From the least significant digit

-- the third value is the sum of the others and the carry that comes in
abbrev pub AddsUp : ℕ → ℕ → Tracks → List ℕ → Type 0
AddsUp k c t w = value_up k (map t.first w) + value_up k (map t.second w) + c ≡ value_up k (map t.third w)

lsd_step : (k c x y z vx vy vz e : ℕ) → 0 < k → x + y + c ≡ z + k * e → ((x + k * vx) + (y + k * vy) + c ≡ z + k * vz) ↔ (vx + vy + e ≡ vz)
lsd_step k c x y z vx vy vz e some digits = (λ h. cancelled (omega (arith, h, digits)), λ h. let scale : k * (vx + vy + e) ≡ k * vz = ap (λ (n : ℕ). k * n) h in omega (arith, scale, digits))
  where
    cancelled : k * (vx + vy + e) ≡ k * vz → vx + vy + e ≡ vz
    cancelled h = sym (mul-div_cancel_left (vx + vy + e) some) ∙ ap (λ (n : ℕ). n / k) h ∙ mul-div_cancel_left vz some

lsd_stop : (k c x y z vx vy vz : ℕ) → c < 2 → x < k → y < k → z < k → ¬ (x + y + c ≡ z) → ¬ (x + y + c ≡ z + k) → ¬ ((x + k * vx) + (y + k * vy) + c ≡ z + k * vz)
lsd_stop k c x y z vx vy vz few bx by bz not_0 not_1 h = by_order (cases_order (vx + vy) vz)
  where
    by_order : (vx + vy ≡ vz) ⊎ ((vx + vy < vz) ⊎ (vz < vx + vy)) → ⊥
    by_order (inl same) = not_0 (let scale : k * (vx + vy) ≡ k * vz = ap (λ (n : ℕ). k * n) same in omega (arith, scale, h))
    by_order (inr (inr more)) = let scale : (vz + 1) * k ≤ (vx + vy) * k = scaled (vz + 1) (vx + vy) k (omega (arith, more)) in omega (arith, scale, h, bz)
    by_order (inr (inl less)) = elim (cases_eq (vx + vy + 1) vz) [
      | inl same ↦ not_1 (let scale : k * (vx + vy + 1) ≡ k * vz = ap (λ (n : ℕ). k * n) same in omega (arith, scale, h))
      | inr other ↦ let scale : (vx + vy + 2) * k ≤ vz * k = scaled (vx + vy + 2) vz k (omega (arith, less, other)) in omega (arith, scale, h, bx, by, few)
    ]

pub lsd_accepts : (k letters : ℕ) (t : Tracks) (d : Automaton) (c : ℕ) (w : List ℕ) → IsCarrying k letters (carry_out k) t d → c < 2 → IsWord letters w → IsTrue (accepts_from d c w) ↔ AddsUp k c t w
lsd_accepts k letters t d zero [] carrying small over = ever_true (accepting_of d 0) _ carrying.none refl
lsd_accepts k letters t d (suc zero) [] carrying small over = never_true (accepting_of d 1) _ carrying.one (λ h. omega (arith, h))
lsd_accepts k letters t d (suc (suc c)) [] carrying small over = absurd (omega (arith, small))
lsd_accepts k letters t d c (a ∷ w) carrying small over =
    by (carry_out k c (t.first a) (t.second a) (t.third a)) (carrying.step c a small over.0) (outcome_of (t.first a + t.second a + c) (t.third a) (t.third a + k))
    (λ e few. lsd_accepts k letters t d e w carrying few over.1)
  where
    some : 0 < k
    some = omega (arith, carrying.firsts a over.0)

    by : (o : Option ℕ) → step_of d c a ≡ o → Outcome o (t.first a + t.second a + c ≡ t.third a) (t.first a + t.second a + c ≡ t.third a + k)
        → ((e : ℕ) → e < 2 → IsTrue (accepts_from d e w) ↔ AddsUp k e t w) → IsTrue (accepts_from d c (a ∷ w)) ↔ AddsUp k c t (a ∷ w)
    by o is (goes_0 to digits) rest =
        true_by _ (accepts_from d 0 w) (AddsUp k c t (a ∷ w)) (accepts_step d c a w (Some 0) (is ∙ to))
        (iff_trans _ _ _ (rest 0 (omega arith))
        (iff_sym _ _ (lsd_step k c (t.first a) (t.second a) (t.third a) _ _ _ 0 some (omega (arith, digits)))))
    by o is (goes_1 to digits) rest =
        true_by _ (accepts_from d 1 w) (AddsUp k c t (a ∷ w)) (accepts_step d c a w (Some 1) (is ∙ to))
        (iff_trans _ _ _ (rest 1 (omega arith))
        (iff_sym _ _ (lsd_step k c (t.first a) (t.second a) (t.third a) _ _ _ 1 some (omega (arith, digits)))))
    by o is (stops to not_0 not_1) rest =
        never_true _ (AddsUp k c t (a ∷ w)) (accepts_step d c a w None (is ∙ to))
        (lsd_stop k c (t.first a) (t.second a) (t.third a) _ _ _ small (carrying.firsts a over.0) (carrying.seconds a over.0) (carrying.thirds a over.0) not_0 not_1)
