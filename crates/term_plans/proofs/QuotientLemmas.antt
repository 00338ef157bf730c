-- What the plan of a quotient means.
use Rattle.std.proofs.lemmas.Bool.{eqb-true, eqb-false}
use Rattle.std.proofs.lemmas.Nat.{div-mul-add, div-add-mod'}
use Rattle.std.proofs.lemmas.Option.{none-some, same_Some}
use Rattle.std.proofs.Math.Nat.{mod-lt, div-one}
use Rattle.std.proofs.Common.{◌≡◌, ◌≢◌, ◌↔◌, ℕ, zero, suc, ◌+◌, ◌*◌, ◌/◌, ◌%◌, ◌<◌, ◌==◌, Bool, true, false, if◌then◌else◌, [], ◌++◌, Option, None, Some, refl, sym, ◌∙◌, ap, subst, arith}
use Rattle.formula_parse.specs.Tokens.{Name, equal}
use Rattle.formula_truth.specs.Truth.{Meanings}
use Rattle.formula_truth.specs.Values.{quotient}
use Rattle.term_plans.specs.Tracks.{Track, fresh, Numbers, with_number}
use Rattle.term_plans.specs.Plans.{Plan, compared, Made}
use Rattle.term_plans.specs.TermPlans.{linked, multiple, parted, below, quotient_made, Scaling, by_numeral, by_divisor, scaling_made}
use Rattle.term_plans.specs.Means.{Means}
use Rattle.term_plans.proofs.TrackLemmas.{with_number_here, with_number_apart, fresh_apart}
use Rattle.term_plans.proofs.MultipleLemmas.{IsBelow, below_more, below_stays, multiple_is}

-- what a scaling makes of a number
abbrev pub scaled_number : Scaling → ℕ → Option ℕ
scaled_number (by_numeral c) n = Some (n * c)
scaled_number (by_divisor c) n = quotient c n

-- the plan means that the second number is what the scaling makes of the first
abbrev pub IsScaled : Meanings → Plan → Track → Track → Scaling → Type 0
IsScaled m p x y f = (a : Numbers) → Means m p a ↔ (scaled_number f (a x) ≡ Some (a y))

-- the quotient is what is left when a rest below the divisor is taken away
quotient_there : (c n q r : ℕ) → r < c → q * c + r ≡ n → quotient c n ≡ Some q
quotient_there c n q r small sum = by (c == 0) refl
  where
    by : (b : Bool) → (c == 0) ≡ b → (if b then None else Some (n / c)) ≡ Some q
    by true none = let zero : c ≡ 0 = eqb-true c 0 none in absurd (omega (arith, small, zero))
    by false some = ap Some (ap (λ l. l / c) (sym sum) ∙ div-mul-add q c r small)

quotient_back : (c n q : ℕ) → quotient c n ≡ Some q → (n % c < c) × (q * c + n % c ≡ n)
quotient_back c n q = by (c == 0) refl
  where
    positive : (d : ℕ) → d ≢ 0 → zero < d
    positive zero none = absurd (none refl)
    positive (suc d) none = omega arith

    by : (b : Bool) → (c == 0) ≡ b → (if b then None else Some (n / c)) ≡ Some q → (n % c < c) × (q * c + n % c ≡ n)
    by true none is = absurd (none-some q is)
    by false some is = (mod-lt n (positive c (eqb-false c 0 some)), ap (λ l. l * c + n % c) (sym (same_Some (n / c) q is)) ∙ div-add-mod' n c)

module _ (m : Meanings) (s : Name) (c : ℕ) (x y : Track) (k : ℕ) (low_x : IsBelow x k) (low_y : IsBelow y k) where
  rest_stays : (z : ℕ) (a : Numbers) → with_number (fresh k) z a (fresh (k + 1)) ≡ a (fresh (k + 1))
  rest_stays z a = with_number_apart (fresh k) (fresh (k + 1)) z a (fresh_apart k (k + 1) (λ same. let s : k ≡ k + 1 = same in omega (arith, s)))

  rest_there : (z : ℕ) (a : Numbers) → with_number (fresh (k + 2)) z a (fresh (k + 1)) ≡ a (fresh (k + 1))
  rest_there z a = with_number_apart (fresh (k + 2)) (fresh (k + 1)) z a (fresh_apart (k + 2) (k + 1) (λ same. let s : k + 2 ≡ k + 1 = same in omega (arith, s)))

  abbrev whole : Made
  whole = parted s c x y (fresh k) (fresh (k + 1)) (k + 3)

  abbrev small : ℕ → Made
  small next = below s c (fresh (k + 1)) (fresh (k + 2)) next

  times_is : (b : Numbers) → Means m (multiple c s c y (fresh k) (k + 3)).last b ↔ (b (fresh k) ≡ b y * c)
  times_is = multiple_is m c s c y (fresh k) (k + 3) (omega arith) (below_more y k (k + 3) low_y (omega arith)) (omega arith)

  whole_is : (a : Numbers) → Means m whole.last a ↔ (a y * c + a (fresh (k + 1)) ≡ a x)
  whole_is a = (λ h. there h.0 h.1.0 h.1.1, λ is. (a y * c, (back_times, back_sum is)))
    where
      there : (z : ℕ) → Means m (multiple c s c y (fresh k) (k + 3)).last (with_number (fresh k) z a)
          → with_number (fresh k) z a (fresh k) + with_number (fresh k) z a (fresh (k + 1)) ≡ with_number (fresh k) z a x → a y * c + a (fresh (k + 1)) ≡ a x
      there z first second =
          ap (λ n. n + a (fresh (k + 1))) (sym ((times_is (with_number (fresh k) z a)).0 first ∙ ap (λ n. n * c) (below_stays y k low_y z a)))
          ∙ ap (λ n. with_number (fresh k) z a (fresh k) + n) (sym (rest_stays z a)) ∙ second ∙ below_stays x k low_x z a

      back_times : Means m (multiple c s c y (fresh k) (k + 3)).last (with_number (fresh k) (a y * c) a)
      back_times = (times_is (with_number (fresh k) (a y * c) a)).1 (with_number_here (fresh k) (a y * c) a ∙ ap (λ n. n * c) (sym (below_stays y k low_y (a y * c) a)))

      back_sum : a y * c + a (fresh (k + 1)) ≡ a x → with_number (fresh k) (a y * c) a (fresh k) + with_number (fresh k) (a y * c) a (fresh (k + 1)) ≡ with_number (fresh k) (a y * c) a x
      back_sum is =
          ap (λ n. n + with_number (fresh k) (a y * c) a (fresh (k + 1))) (with_number_here (fresh k) (a y * c) a)
          ∙ ap (λ n. a y * c + n) (rest_stays (a y * c) a) ∙ is ∙ sym (below_stays x k low_x (a y * c) a)

  small_is : (next : ℕ) (a : Numbers) → Means m (small next).last a ↔ (a (fresh (k + 1)) < c)
  small_is next a = (λ h. there h.0 h.1.0 h.1.1, λ is. (c, (with_number_here (fresh (k + 2)) c a, back is)))
    where
      there : (z : ℕ) → with_number (fresh (k + 2)) z a (fresh (k + 2)) ≡ c → with_number (fresh (k + 2)) z a (fresh (k + 1)) < with_number (fresh (k + 2)) z a (fresh (k + 2)) → a (fresh (k + 1)) < c
      there z bound less = subst (λ n. n < c) (rest_there z a) (subst (λ n. with_number (fresh (k + 2)) z a (fresh (k + 1)) < n) bound less)

      back : a (fresh (k + 1)) < c → with_number (fresh (k + 2)) c a (fresh (k + 1)) < with_number (fresh (k + 2)) c a (fresh (k + 2))
      back less = subst (λ n. with_number (fresh (k + 2)) c a (fresh (k + 1)) < n) (sym (with_number_here (fresh (k + 2)) c a)) (subst (λ n. n < c) (sym (rest_there c a)) less)

  abbrev parts : Made
  parts = record { steps = whole.steps ++ (small whole.next).steps; last = (small whole.next).last; next = (small whole.next).next }

  parts_are : IsScaled m (linked parts (fresh (k + 1)) whole.last).last x y (by_divisor c)
  parts_are a = (λ h. there h.0 h.1.0 h.1.1, back)
    where
      same_x : (r : ℕ) → with_number (fresh (k + 1)) r a x ≡ a x
      same_x r = below_stays x (k + 1) (below_more x k (k + 1) low_x (omega arith)) r a

      same_y : (r : ℕ) → with_number (fresh (k + 1)) r a y ≡ a y
      same_y r = below_stays y (k + 1) (below_more y k (k + 1) low_y (omega arith)) r a

      there : (r : ℕ) → Means m (small whole.next).last (with_number (fresh (k + 1)) r a) → Means m whole.last (with_number (fresh (k + 1)) r a) → quotient c (a x) ≡ Some (a y)
      there r first second =
          quotient_there c (a x) (a y) r (subst (λ n. n < c) (with_number_here (fresh (k + 1)) r a) ((small_is whole.next (with_number (fresh (k + 1)) r a)).0 first))
          (ap (λ n. n * c + r) (sym (same_y r)) ∙ ap (λ n. with_number (fresh (k + 1)) r a y * c + n) (sym (with_number_here (fresh (k + 1)) r a))
          ∙ (whole_is (with_number (fresh (k + 1)) r a)).0 second ∙ same_x r)

      back : quotient c (a x) ≡ Some (a y) → Means m (linked parts (fresh (k + 1)) whole.last).last a
      back is =
          let known = quotient_back c (a x) (a y) is in
          let r : ℕ = a x % c in
          let b : Numbers = with_number (fresh (k + 1)) r a in (
            r,
            (
              (small_is whole.next b).1 (subst (λ n. n < c) (sym (with_number_here (fresh (k + 1)) r a)) known.0),
              (whole_is b).1 (ap (λ n. n * c + b (fresh (k + 1))) (same_y r) ∙ ap (λ n. a y * c + n) (with_number_here (fresh (k + 1)) r a) ∙ known.1 ∙ sym (same_x r)),
            ),
          )

  one_is : c ≡ 1 → IsScaled m (compared s equal x y) x y (by_divisor c)
  one_is one a = (λ h. let same : a x ≡ a y = h in by_one ∙ ap Some same, λ is. same_Some (a x) (a y) (sym by_one ∙ is))
    where
      by_one : quotient c (a x) ≡ Some (a x)
      by_one = ap (λ d. quotient d (a x)) one ∙ ap Some (div-one (a x))

  pub quotient_is : IsScaled m (quotient_made s c x y k).last x y (by_divisor c)
  quotient_is = by (c == 1) refl
    where
      by : (b : Bool) → (c == 1) ≡ b → IsScaled m (if b then record { steps = []; last = compared s equal x y; next = k } else linked parts (fresh (k + 1)) whole.last).last x y (by_divisor c)
      by true is = one_is (eqb-true c 1 is)
      by false is = parts_are

pub scaling_is : (m : Meanings) (s : Name) (f : Scaling) (x y : Track) (k : ℕ) → IsBelow x k → IsBelow y k → IsScaled m (scaling_made s f x y k).last x y f
scaling_is m s (by_numeral c) x y k low_x low_y a =
    let is = multiple_is m c s c x y k (omega arith) low_x low_y a in
    (λ h. ap Some (sym (is.0 h)), λ same. is.1 (sym (same_Some (a x * c) (a y) same)))
scaling_is m s (by_divisor c) x y k low_x low_y a = quotient_is m s c x y k low_x low_y a
