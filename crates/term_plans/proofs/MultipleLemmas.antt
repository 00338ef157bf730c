-- What the plan of a multiple means.
use Rattle.std.specs.Prelude.{⊤}
use Rattle.std.proofs.lemmas.Bool.{eqb-true, eqb-false}
use Rattle.std.proofs.Common.{◌≡◌, ◌≢◌, ◌↔◌, ℕ, zero, suc, ◌+◌, ◌-◌, ◌*◌, ◌/◌, ◌%◌, ◌<◌, ◌≤◌, ◌==◌, Bool, true, false, if◌then◌else◌, [], refl, sym, ◌∙◌, ap, arith}
use Rattle.formula_parse.specs.Tokens.{Name, equal}
use Rattle.formula_truth.specs.Truth.{Meanings}
use Rattle.term_plans.specs.Tracks.{Track, own, fresh, Numbers, with_number}
use Rattle.term_plans.specs.Plans.{Plan, compared, added, Made}
use Rattle.term_plans.specs.TermPlans.{no_times, linked, multiple}
use Rattle.term_plans.specs.Means.{Means}
use Rattle.term_plans.proofs.TrackLemmas.{with_number_here, with_number_apart, fresh_apart}

-- a variable's track, or a fresh one below a number
abbrev pub IsBelow : Track → ℕ → Type 0
IsBelow (own n) k = ⊤
IsBelow (fresh j) k = j < k

pub below_more : (t : Track) (k l : ℕ) → IsBelow t k → k ≤ l → IsBelow t l
below_more (own n) k l is up = tt
below_more (fresh j) k l is up = omega (arith, is, up)

-- the number at a track below stays when one is put at a fresh track
pub below_stays : (t : Track) (k : ℕ) → IsBelow t k → (x : ℕ) (a : Numbers) → with_number (fresh k) x a t ≡ a t
below_stays (own n) k is x a = refl
below_stays (fresh j) k is x a = with_number_apart (fresh k) (fresh j) x a (fresh_apart k j (λ same. let s : k ≡ j = same in omega (arith, is, s)))

-- the plan means that the second number is c times the first
abbrev pub IsTimes : Meanings → Plan → Track → Track → ℕ → Type 0
IsTimes m p x y c = (a : Numbers) → Means m p a ↔ (a y ≡ a x * c)

no_times_is : (m : Meanings) (s : Name) (x y : Track) (k c : ℕ) → c ≡ 0 → IsTimes m (no_times s x y k).last x y c
no_times_is m s x y k c none a = (
  λ h. let zero : a y ≡ 0 = h.0 in zero ∙ sym (ap (λ d. a x * d) none ∙ times_zero (a x)),
  λ is. (is ∙ ap (λ d. a x * d) none ∙ times_zero (a x), tt),
)
  where
    times_zero : (n : ℕ) → n * 0 ≡ 0
    times_zero n = omega arith

once_is : (m : Meanings) (s : Name) (x y : Track) (c : ℕ) → c ≡ 1 → IsTimes m (compared s equal x y) x y c
once_is m s x y c one a = (
  λ h. let same : a x ≡ a y = h in sym same ∙ sym (ap (λ d. a x * d) one ∙ times_one (a x)),
  λ is. sym (is ∙ ap (λ d. a x * d) one ∙ times_one (a x)),
)
  where
    times_one : (n : ℕ) → n * 1 ≡ n
    times_one n = omega arith

twice_is : (m : Meanings) (s : Name) (x y : Track) (c : ℕ) → c ≡ 2 → IsTimes m (added s x x y) x y c
twice_is m s x y c two a = (
  λ h. sym h ∙ sym (ap (λ d. a x * d) two ∙ times_two (a x)),
  λ is. sym (is ∙ ap (λ d. a x * d) two ∙ times_two (a x)),
)
  where
    times_two : (n : ℕ) → n * 2 ≡ n + n
    times_two n = omega arith

even_sum : (n c : ℕ) → c % 2 ≡ 0 → n * (c / 2) + n * (c / 2) ≡ n * c
even_sum n c even = halves n (c / 2) ∙ ap (λ d. n * d) (omega (arith, even))
  where
    halves : (n h : ℕ) → n * h + n * h ≡ n * (h + h)
    halves n h = grind arith

odd_sum : (n c : ℕ) → c ≢ 0 → n * (c - 1) + n ≡ n * c
odd_sum n c some = one_more n (c - 1) ∙ ap (λ d. n * d) (less c some)
  where
    one_more : (n h : ℕ) → n * h + n ≡ n * (h + 1)
    one_more n h = grind arith

    less : (c : ℕ) → c ≢ 0 → (c - 1) + 1 ≡ c
    less zero some = absurd (some refl)
    less (suc c) some = omega arith

-- a multiple on a fresh track, joined to a base that makes the second number of it
linked_is : (m : Meanings) (x y : Track) (k c part : ℕ) (made : Made) (base : Plan) → IsBelow x k → IsBelow y k
    → IsTimes m made.last x (fresh k) part
    → ((b : Numbers) → b (fresh k) ≡ b x * part → Means m base b ↔ (b y ≡ b x * c))
    → IsTimes m (linked made (fresh k) base).last x y c
linked_is m x y k c part made base low_x low_y times says a = (λ h. there h.0 h.1.0 h.1.1, λ is. (a x * part, back is))
  where
    there : (z : ℕ) → Means m made.last (with_number (fresh k) z a) → Means m base (with_number (fresh k) z a) → a y ≡ a x * c
    there z first second =
        sym (below_stays y k low_y z a)
        ∙ (says (with_number (fresh k) z a) ((times (with_number (fresh k) z a)).0 first)).0 second
        ∙ ap (λ n. n * c) (below_stays x k low_x z a)

    one : with_number (fresh k) (a x * part) a (fresh k) ≡ with_number (fresh k) (a x * part) a x * part
    one = with_number_here (fresh k) (a x * part) a ∙ ap (λ n. n * part) (sym (below_stays x k low_x (a x * part) a))

    back : a y ≡ a x * c → Means m made.last (with_number (fresh k) (a x * part) a) × Means m base (with_number (fresh k) (a x * part) a)
    back is = (
      (times (with_number (fresh k) (a x * part) a)).1 one,
      (says (with_number (fresh k) (a x * part) a) one).1
          (below_stays y k low_y (a x * part) a ∙ is ∙ ap (λ n. n * c) (sym (below_stays x k low_x (a x * part) a))),
    )

even_says : (m : Meanings) (s : Name) (x y : Track) (k c : ℕ) → c % 2 ≡ 0 → (b : Numbers) → b (fresh k) ≡ b x * (c / 2) → Means m (added s (fresh k) (fresh k) y) b ↔ (b y ≡ b x * c)
even_says m s x y k c even b half = (λ sum. sym sum ∙ doubled, λ is. doubled ∙ sym is)
  where
    doubled : b (fresh k) + b (fresh k) ≡ b x * c
    doubled = ap (λ n. n + n) half ∙ even_sum (b x) c even

odd_says : (m : Meanings) (s : Name) (x y : Track) (k c : ℕ) → c ≢ 0 → (b : Numbers) → b (fresh k) ≡ b x * (c - 1) → Means m (added s (fresh k) x y) b ↔ (b y ≡ b x * c)
odd_says m s x y k c some b less = (λ sum. sym sum ∙ raised, λ is. raised ∙ sym is)
  where
    raised : b (fresh k) + b x ≡ b x * c
    raised = ap (λ n. n + b x) less ∙ odd_sum (b x) c some

-- one doubling, over the multiples of smaller numbers
multiple_step : (m : Meanings) (most : ℕ) (s : Name) (c : ℕ) (x y : Track) (k : ℕ) → c ≤ suc most → IsBelow x k → IsBelow y k
    → ((d l : ℕ) (z : Track) → d ≤ most → IsBelow x l → IsBelow z l → IsTimes m (multiple most s d x z l).last x z d)
    → IsTimes m (multiple (suc most) s c x y k).last x y c
multiple_step m most s c x y k within low_x low_y former = by_zero (c == 0) refl
  where
    some_one : (n : ℕ) → n ≢ 0 → 1 ≤ n
    some_one zero some = absurd (some refl)
    some_one (suc n) some = omega arith

    half : Made
    half = multiple most s (c / 2) x (fresh k) (k + 1)

    less : Made
    less = multiple most s (c - 1) x (fresh k) (k + 1)

    even : Plan
    even = added s (fresh k) (fresh k) y

    odd : Plan
    odd = added s (fresh k) x y

    by_parity : (b : Bool) → (c % 2 == 0) ≡ b → c ≢ 0 → IsTimes m (if b then linked half (fresh k) even else linked less (fresh k) odd).last x y c
    by_parity true is some =
        let is_even : c % 2 ≡ 0 = eqb-true (c % 2) 0 is in
        linked_is m x y k c (c / 2) half even low_x low_y
        (former (c / 2) (k + 1) (fresh k) (omega (arith, within, some_one c some)) (below_more x k (k + 1) low_x (omega arith)) (omega arith))
        (even_says m s x y k c is_even)
    by_parity false is some =
        linked_is m x y k c (c - 1) less odd low_x low_y
        (former (c - 1) (k + 1) (fresh k) (omega (arith, within, some_one c some)) (below_more x k (k + 1) low_x (omega arith)) (omega arith))
        (odd_says m s x y k c some)

    by_two : (b : Bool) → (c == 2) ≡ b → c ≢ 0 → IsTimes m (if b then record { steps = []; last = added s x x y; next = k } else (if c % 2 == 0 then linked half (fresh k) even else linked less (fresh k) odd)).last x y c
    by_two true is some = twice_is m s x y c (eqb-true c 2 is)
    by_two false is some = by_parity (c % 2 == 0) refl some

    by_one : (b : Bool) → (c == 1) ≡ b → c ≢ 0 → IsTimes m (if b then record { steps = []; last = compared s equal x y; next = k } else (if c == 2 then record { steps = []; last = added s x x y; next = k } else (if c % 2 == 0 then linked half (fresh k) even else linked less (fresh k) odd))).last x y c
    by_one true is some = once_is m s x y c (eqb-true c 1 is)
    by_one false is some = by_two (c == 2) refl some

    by_zero : (b : Bool) → (c == 0) ≡ b → IsTimes m (if b then no_times s x y k else (if c == 1 then record { steps = []; last = compared s equal x y; next = k } else (if c == 2 then record { steps = []; last = added s x x y; next = k } else (if c % 2 == 0 then linked half (fresh k) even else linked less (fresh k) odd)))).last x y c
    by_zero true is = no_times_is m s x y k c (eqb-true c 0 is)
    by_zero false is = by_one (c == 1) refl (eqb-false c 0 is)

pub multiple_is : (m : Meanings) (most : ℕ) (s : Name) (c : ℕ) (x y : Track) (k : ℕ) → c ≤ most → IsBelow x k → IsBelow y k
    → IsTimes m (multiple most s c x y k).last x y c
multiple_is m zero s c x y k within low_x low_y = no_times_is m s x y k c (omega (arith, within))
multiple_is m (suc most) s c x y k within low_x low_y = multiple_step m most s c x y k within low_x low_y (λ d l z. multiple_is m most s d x z l)
