-- The value of a term is where its plan places it.
use Rattle.std.proofs.Common.{◌≡◌, ℕ, zero, suc, ◌+◌, ◌-◌, ◌*◌, ◌/◌, ◌%◌, ◌==◌, ◌≤◌, Bool, true, false, if◌then◌else◌, List, [], ◌∷◌, ◌++◌, map, slice_index_or, Option, None, Some, refl, sym, ◌∙◌, ap, subst, arith}
use Rattle.std.specs.Prelude.{⊤}
use Rattle.std.specs.Option.{option_and_then}
use Rattle.std.proofs.lemmas.Option.{none-some, same_Some}
use Rattle.formula_parse.specs.Tokens.{Name, Sign, plus, minus, equal}
use Rattle.formula_parse.specs.Trees.{Term, variable, numeral, product, sum, Factors, no_factors, factors, times, divided, Terms, no_terms, terms, Addends, no_addends, addends}
use Rattle.formula_truth.specs.Assignments.{Assignment}
use Rattle.formula_truth.specs.Values.{both, by_sign, multiplied, value, product_value, sum_value, and_value, values}
use Rattle.formula_truth.specs.Truth.{Meanings}
use Rattle.term_plans.specs.Tracks.{Track, own, fresh, Numbers, of_variables}
use Rattle.term_plans.specs.Plans.{Plan, compared, added, Made}
use Rattle.term_plans.specs.TermPlans.{TermPlan, no_times, linked, multiple, parted, below, quotient_made, Scaling, by_numeral, by_divisor, scaling_made, scaled, scaled_all, sum_relation, with_addend, numeral_plan, begun, term_plan, factor_plans, sum_plan}
use Rattle.term_plans.specs.ArgumentPlans.{Places, no_places, places, tracks_of, count, argument_plans}
use Rattle.term_plans.specs.Linear.{IsLinear, AreLinearFactors, AreLinearAddends, AreLinear, others}
use Rattle.term_plans.specs.Means.{Means}
use Rattle.term_plans.proofs.OptionLemmas.{both_some, both_at, and_some, difference_there, difference_back}
use Rattle.term_plans.proofs.PlacedValues.{Value, IsPlaced, placed_up, IsValuePlaced, value_placed_same, Values, no_values, listed, read_all, AreValuesPlaced, Reads, reads_outside, list_there, list_back}
use Rattle.term_plans.proofs.MultipleLemmas.{IsBelow}
use Rattle.term_plans.proofs.QuotientLemmas.{scaled_number, IsScaled, scaling_is}

numeral_is_placed : (m : Meanings) (s : Name) (c k : ℕ) → IsValuePlaced m (λ b. Some c) (numeral_plan s c k).placed k (numeral_plan s c k).next
numeral_is_placed m s c k = record {
  there = λ a is. ap Some (sym is);
  back = λ a is. sym (same_Some c (a (fresh k)) is);
  placed = (omega arith, omega arith);
}

-- one value, listed
one_read : (v : Value) (b : Assignment) (x : ℕ) → v b ≡ Some x → read_all (listed no_values v) b ≡ Some (x ∷ [])
one_read v b x is = ap (λ o. and_value (Some []) o) is

read_one : (v : Value) (b : Assignment) (ns : List ℕ) → read_all (listed no_values v) b ≡ Some ns → (x : ℕ) × (v b ≡ Some x) × (ns ≡ x ∷ [])
read_one v b ns is =
    let parts = and_some (Some []) (v b) ns is in
    let none : [] ≡ parts.0 = same_Some [] parts.0 parts.2 in
    (parts.1, parts.3, sym parts.4 ∙ ap (λ xs. xs ++ parts.1 ∷ []) (sym none))

-- two values, listed
pub two_read : (v w : Value) (b : Assignment) (x y : ℕ) → v b ≡ Some x → w b ≡ Some y → read_all (listed (listed no_values v) w) b ≡ Some (x ∷ y ∷ [])
two_read v w b x y first second = ap (λ o. and_value o (w b)) (one_read v b x first) ∙ ap (λ o. and_value (Some (x ∷ [])) o) second

pub read_two : (v w : Value) (b : Assignment) (ns : List ℕ) → read_all (listed (listed no_values v) w) b ≡ Some ns → (x : ℕ) × (y : ℕ) × (v b ≡ Some x) × (w b ≡ Some y) × (ns ≡ x ∷ y ∷ [])
read_two v w b ns is =
    let parts = and_some (read_all (listed no_values v) b) (w b) ns is in
    let first = read_one v b parts.0 parts.2 in
    (first.0, parts.1, first.1, parts.3, sym parts.4 ∙ ap (λ xs. xs ++ parts.1 ∷ []) first.2)

-- what a sum or a difference says of three numbers
sum_there : (m : Meanings) (s : Name) (sign : Sign) (x y z : Track) (b : Numbers) → Means m (sum_relation s sign x y z) b → by_sign sign (b x) (b y) ≡ Some (b z)
sum_there m s plus x y z b h = ap Some h
sum_there m s minus x y z b h = difference_back (b x) (b y) (b z) h

sum_back : (m : Meanings) (s : Name) (sign : Sign) (x y z : Track) (b : Numbers) → by_sign sign (b x) (b y) ≡ Some (b z) → Means m (sum_relation s sign x y z) b
sum_back m s plus x y z b h = same_Some (b x + b y) (b z) h
sum_back m s minus x y z b h = difference_there (b x) (b y) (b z) h

addend_is_placed : (m : Meanings) (s : Name) (sign : Sign) (v w : Value) (p q : TermPlan) (k : ℕ) → IsValuePlaced m v p.placed k p.next → IsValuePlaced m w q.placed p.next q.next
    → IsValuePlaced m (λ b. both (by_sign sign) (v b) (w b)) (with_addend s sign p q).placed k (with_addend s sign p q).next
addend_is_placed m s sign v w p q k first second = record {
  there = λ a h.
      let read = list_there m vs ps k q.next all_placed base (Says a) a (says_there a) h in
      let two = read_two v w (of_variables a) read.0 read.1 in
      both_at (by_sign sign) (v (of_variables a)) (w (of_variables a)) two.0 two.1 two.2 two.3
      ∙ subst (λ ns. Says a ns) two.4 read.2;
  back = λ a is.
      let parts = both_some (by_sign sign) (v (of_variables a)) (w (of_variables a)) (a (fresh q.next)) is in
      list_back m vs ps k q.next all_placed base (Says a) a (says_back a) (parts.0 ∷ parts.1 ∷ []) (two_read v w (of_variables a) parts.0 parts.1 parts.2 parts.3) parts.4;
  placed = (
    let one = placed_up p.placed.track p.placed.relation k p.next first.placed in
        let two = placed_up q.placed.track q.placed.relation p.next q.next second.placed in omega (arith, one, two),
    omega arith,
  );
}
  where
    vs : Values
    vs = listed (listed no_values v) w

    ps : Places
    ps = places (places no_places p.placed) q.placed

    base : Plan
    base = sum_relation s sign p.placed.track q.placed.track (fresh q.next)

    all_placed : AreValuesPlaced m vs ps k q.next
    all_placed = (p.next, (k, omega arith, first), second)

    Says : Numbers → List ℕ → Type 0
    Says a ns = by_sign sign (slice_index_or ns 0 0) (slice_index_or ns 1 0) ≡ Some (a (fresh q.next))

    says_there : (a b : Numbers) → Reads vs ps a b → Means m base b → Says a (map b (tracks_of ps))
    says_there a b reads h = sum_there m s sign p.placed.track q.placed.track (fresh q.next) b h ∙ ap Some (reads_outside m vs ps k q.next all_placed a b reads q.next (omega arith))

    says_back : (a b : Numbers) → Reads vs ps a b → Says a (map b (tracks_of ps)) → Means m base b
    says_back a b reads h = sum_back m s sign p.placed.track q.placed.track (fresh q.next) b (h ∙ ap Some (sym (reads_outside m vs ps k q.next all_placed a b reads q.next (omega arith))))

placed_below : (t : Track) (r : Option Plan) (k next : ℕ) → IsPlaced t r k next → IsBelow t (next + 1)
placed_below (own n) None k next is = tt
placed_below (fresh j) (Some r) k next is = omega (arith, is.1)
placed_below (own n) (Some r) k next is = absurd is
placed_below (fresh j) None k next is = absurd is

if_next : (b : Bool) (p q : Made) (k : ℕ) → k ≤ p.next → k ≤ q.next → k ≤ (if b then p else q).next
if_next true p q k first second = first
if_next false p q k first second = second

multiple_next : (most : ℕ) (s : Name) (c : ℕ) (x y : Track) (k : ℕ) → k ≤ (multiple most s c x y k).next
multiple_next zero s c x y k = omega arith
multiple_next (suc most) s c x y k =
    if_next (c == 0) (no_times s x y k) (if c == 1 then one else (if c == 2 then two else (if c % 2 == 0 then even else odd))) k (omega arith)
    (if_next (c == 1) one (if c == 2 then two else (if c % 2 == 0 then even else odd)) k (omega arith)
    (if_next (c == 2) two (if c % 2 == 0 then even else odd) k (omega arith)
    (if_next (c % 2 == 0) even odd k
    (let up = multiple_next most s (c / 2) x (fresh k) (k + 1) in omega (arith, up))
    (let up = multiple_next most s (c - 1) x (fresh k) (k + 1) in omega (arith, up)))))
  where
    one : Made
    one = record { steps = []; last = compared s equal x y; next = k }

    two : Made
    two = record { steps = []; last = added s x x y; next = k }

    even : Made
    even = linked (multiple most s (c / 2) x (fresh k) (k + 1)) (fresh k) (added s (fresh k) (fresh k) y)

    odd : Made
    odd = linked (multiple most s (c - 1) x (fresh k) (k + 1)) (fresh k) (added s (fresh k) x y)

quotient_next : (s : Name) (c : ℕ) (x y : Track) (k : ℕ) → k ≤ (quotient_made s c x y k).next
quotient_next s c x y k = by (c == 1)
  where
    whole : Made
    whole = parted s c x y (fresh k) (fresh (k + 1)) (k + 3)

    small : Made
    small = below s c (fresh (k + 1)) (fresh (k + 2)) whole.next

    by : (b : Bool) → k ≤ (if b then record { steps = []; last = compared s equal x y; next = k } else linked (record { steps = whole.steps ++ small.steps; last = small.last; next = small.next }) (fresh (k + 1)) whole.last).next
    by true = omega arith
    by false = let up = multiple_next c s c y (fresh k) (k + 3) in omega (arith, up)

scaling_next : (s : Name) (f : Scaling) (x y : Track) (k : ℕ) → k ≤ (scaling_made s f x y k).next
scaling_next s (by_numeral c) x y k = multiple_next c s c x y k
scaling_next s (by_divisor c) x y k = quotient_next s c x y k

-- what a scaling makes of a value
abbrev pub scaled_value : Scaling → Option ℕ → Option ℕ
scaled_value f x = option_and_then (scaled_number f) x

value_at : (f : Scaling) (x : Option ℕ) (n : ℕ) → x ≡ Some n → scaled_value f x ≡ scaled_number f n
value_at f x n is = ap (scaled_value f) is

value_of : (f : Scaling) (x : Option ℕ) (z : ℕ) → scaled_value f x ≡ Some z → (n : ℕ) × (x ≡ Some n) × (scaled_number f n ≡ Some z)
value_of f None z is = absurd (none-some z is)
value_of f (Some n) z is = (n, refl, is)

scaled_is_placed : (m : Meanings) (s : Name) (v : Value) (p : TermPlan) (f : Scaling) (k : ℕ) → IsValuePlaced m v p.placed k p.next
    → IsValuePlaced m (λ b. scaled_value f (v b)) (scaled s p f).placed k (scaled s p f).next
scaled_is_placed m s v p f k value_placed = record {
  there = λ a h.
      let read = list_there m vs ps k p.next all_placed base (Says a) a (says_there a) h in
      let one = read_one v (of_variables a) read.0 read.1 in
      value_at f (v (of_variables a)) one.0 one.1 ∙ subst (λ ns. Says a ns) one.2 read.2;
  back = λ a is.
      let found = value_of f (v (of_variables a)) (a (fresh p.next)) is in
      list_back m vs ps k p.next all_placed base (Says a) a (says_back a) (found.0 ∷ []) (one_read v (of_variables a) found.0 found.1) found.2;
  placed = (
    placed_up p.placed.track p.placed.relation k p.next value_placed.placed,
    let up = scaling_next s f p.placed.track (fresh p.next) (p.next + 1) in omega (arith, up),
  );
}
  where
    vs : Values
    vs = listed no_values v

    ps : Places
    ps = places no_places p.placed

    base : Plan
    base = (scaling_made s f p.placed.track (fresh p.next) (p.next + 1)).last

    all_placed : AreValuesPlaced m vs ps k p.next
    all_placed = (k, omega arith, value_placed)

    Says : Numbers → List ℕ → Type 0
    Says a ns = scaled_number f (slice_index_or ns 0 0) ≡ Some (a (fresh p.next))

    base_is : IsScaled m base p.placed.track (fresh p.next) f
    base_is = scaling_is m s f p.placed.track (fresh p.next) (p.next + 1) (placed_below p.placed.track p.placed.relation k p.next value_placed.placed) (omega arith)

    says_there : (a b : Numbers) → Reads vs ps a b → Means m base b → Says a (map b (tracks_of ps))
    says_there a b reads h = (base_is b).0 h ∙ ap Some (reads_outside m vs ps k p.next all_placed a b reads p.next (omega arith))

    says_back : (a b : Numbers) → Reads vs ps a b → Says a (map b (tracks_of ps)) → Means m base b
    says_back a b reads h = (base_is b).1 (h ∙ ap Some (sym (reads_outside m vs ps k p.next all_placed a b reads p.next (omega arith))))

-- a value scaled several times, in their order
abbrev pub all_scaled : Option ℕ → List Scaling → Option ℕ
all_scaled x [] = x
all_scaled x (f ∷ fs) = all_scaled (scaled_value f x) fs

all_scaled_more : (x : Option ℕ) (fs : List Scaling) (f : Scaling) → all_scaled x (fs ++ f ∷ []) ≡ scaled_value f (all_scaled x fs)
all_scaled_more x [] f = refl
all_scaled_more x (g ∷ fs) f = all_scaled_more (scaled_value g x) fs f

all_are_placed : (m : Meanings) (s : Name) (fs : List Scaling) (v : Value) (p : TermPlan) (k : ℕ) → IsValuePlaced m v p.placed k p.next
    → IsValuePlaced m (λ b. all_scaled (v b) fs) (scaled_all s p fs).placed k (scaled_all s p fs).next
all_are_placed m s [] v p k value_placed = value_placed
all_are_placed m s (f ∷ fs) v p k value_placed = all_are_placed m s fs (λ b. scaled_value f (v b)) (scaled s p f) k (scaled_is_placed m s v p f k value_placed)

-- some numerals
abbrev AreNumerals : List Scaling → Type 0
AreNumerals [] = ⊤
AreNumerals (by_numeral c ∷ fs) = AreNumerals fs
AreNumerals (by_divisor c ∷ fs) = ⊥

numerals_more : (fs : List Scaling) (c : ℕ) → AreNumerals fs → AreNumerals (fs ++ by_numeral c ∷ [])
numerals_more [] c are = tt
numerals_more (by_numeral d ∷ fs) c are = numerals_more fs c are
numerals_more (by_divisor d ∷ fs) c are = absurd are

times_swapped : (n c : ℕ) (x : Option ℕ) → both multiplied (Some (n * c)) x ≡ scaled_value (by_numeral c) (both multiplied (Some n) x)
times_swapped n c None = refl
times_swapped n c (Some x) = ap Some (swapped n c x)
  where
    swapped : (n c x : ℕ) → n * c * x ≡ n * x * c
    swapped n c x = grind arith

-- a factor after some numerals may come before them
numerals_swapped : (fs : List Scaling) (n : ℕ) (x : Option ℕ) → AreNumerals fs → both multiplied (all_scaled (Some n) fs) x ≡ all_scaled (both multiplied (Some n) x) fs
numerals_swapped [] n x are = refl
numerals_swapped (by_numeral c ∷ fs) n x are = numerals_swapped fs (n * c) x are ∙ ap (λ y. all_scaled y fs) (times_swapped n c x)
numerals_swapped (by_divisor c ∷ fs) n x are = absurd are

-- a numeral multiplies
times_is : (x : Option ℕ) (c : ℕ) → both multiplied x (Some c) ≡ scaled_value (by_numeral c) x
times_is None c = refl
times_is (Some n) c = refl

once : (x : Option ℕ) → both multiplied (Some 1) x ≡ x
once None = refl
once (Some x) = ap Some (one x)
  where
    one : (n : ℕ) → 1 * n ≡ n
    one n = omega arith

-- the value is that of the other factor, if there is one, scaled
abbrev IsFactored : Meanings → Option (ℕ → TermPlan) → List Scaling → Value → Type 0
IsFactored m None fs v = (b : Assignment) → v b ≡ all_scaled (Some 1) fs
IsFactored m (Some plan) fs v = (w : Value) × ((k : ℕ) → IsValuePlaced m w (plan k).placed k (plan k).next) × ((b : Assignment) → v b ≡ all_scaled (w b) fs)

begun_is_placed : (m : Meanings) (s : Name) (other : Option (ℕ → TermPlan)) (fs : List Scaling) (v : Value) → IsFactored m other fs v
    → (k : ℕ) → IsValuePlaced m v (begun s other fs k).placed k (begun s other fs k).next
begun_is_placed m s (Some plan) fs v is k =
    value_placed_same m (λ b. all_scaled (is.0 b) fs) v (scaled_all s (plan k) fs).placed k (scaled_all s (plan k) fs).next
    (λ b. sym (is.2 b)) (all_are_placed m s fs is.0 (plan k) k (is.1 k))
begun_is_placed m s None [] v is k =
    value_placed_same m (λ b. Some 1) v (numeral_plan s 1 k).placed k (numeral_plan s 1 k).next (λ b. sym (is b)) (numeral_is_placed m s 1 k)
begun_is_placed m s None (by_numeral c ∷ fs) v is k =
    value_placed_same m (λ b. all_scaled (Some c) fs) v (scaled_all s (numeral_plan s c k) fs).placed k (scaled_all s (numeral_plan s c k) fs).next
    (λ b. ap (λ x. all_scaled x fs) (sym (once (Some c))) ∙ sym (is b)) (all_are_placed m s fs (λ b. Some c) (numeral_plan s c k) k (numeral_is_placed m s c k))
begun_is_placed m s None (by_divisor c ∷ fs) v is k =
    value_placed_same m (λ b. all_scaled (Some 1) (by_divisor c ∷ fs)) v (scaled_all s (numeral_plan s 1 k) (by_divisor c ∷ fs)).placed k (scaled_all s (numeral_plan s 1 k) (by_divisor c ∷ fs)).next
    (λ b. sym (is b)) (all_are_placed m s (by_divisor c ∷ fs) (λ b. Some 1) (numeral_plan s 1 k) k (numeral_is_placed m s 1 k))

scaling_factored : (m : Meanings) (other : Option (ℕ → TermPlan)) (fs : List Scaling) (v : Value) (f : Scaling) → IsFactored m other fs v
    → IsFactored m other (fs ++ f ∷ []) (λ b. scaled_value f (v b))
scaling_factored m None fs v f is = λ b. ap (scaled_value f) (is b) ∙ sym (all_scaled_more (Some 1) fs f)
scaling_factored m (Some plan) fs v f is = (is.0, is.1, λ b. ap (scaled_value f) (is.2 b) ∙ sym (all_scaled_more (is.0 b) fs f))

value_factored : (m : Meanings) (other : Option (ℕ → TermPlan)) (fs : List Scaling) (v w : Value) → ((b : Assignment) → w b ≡ v b) → IsFactored m other fs v → IsFactored m other fs w
value_factored m None fs v w same is = λ b. same b ∙ is b
value_factored m (Some plan) fs v w same is = (is.0, is.1, λ b. same b ∙ is.2 b)

numeral_factored : (m : Meanings) (other : Option (ℕ → TermPlan)) (fs : List Scaling) (v : Value) (c : ℕ) → IsFactored m other fs v
    → IsFactored m other (fs ++ by_numeral c ∷ []) (λ b. both multiplied (v b) (Some c))
numeral_factored m other fs v c is =
    value_factored m other (fs ++ by_numeral c ∷ []) (λ b. scaled_value (by_numeral c) (v b)) (λ b. both multiplied (v b) (Some c)) (λ b. times_is (v b) c)
    (scaling_factored m other fs v (by_numeral c) is)

-- where all factors are numerals, the next one may be another
other_factored : (m : Meanings) (other : Option (ℕ → TermPlan)) (fs : List Scaling) (v w : Value) (plan : ℕ → TermPlan) → (other ≡ None) × AreNumerals fs → IsFactored m other fs v
    → ((k : ℕ) → IsValuePlaced m w (plan k).placed k (plan k).next) → IsFactored m (Some plan) fs (λ b. both multiplied (v b) (w b))
other_factored m None fs v w plan none is value_placed = (w, value_placed, λ b. ap (λ x. both multiplied x (w b)) (is b) ∙ numerals_swapped fs 1 (w b) none.1 ∙ ap (λ x. all_scaled x fs) (once (w b)))
other_factored m (Some other) fs v w plan none is value_placed = absurd (none-some other (sym none.0))

no_other : (s : Name) (fs : Factors) → others fs ≡ 0 → ((factor_plans s fs).other ≡ None) × AreNumerals (factor_plans s fs).scalings
no_other s no_factors none = (refl, tt)
no_other s (factors fs (times (numeral c))) none = let before = no_other s fs none in (before.0, numerals_more (factor_plans s fs).scalings c before.1)
no_other s (factors fs (times (variable n))) none = absurd (omega (arith, none))
no_other s (factors fs (times (product gs))) none = absurd (omega (arith, none))
no_other s (factors fs (times (sum ss t))) none = absurd (omega (arith, none))
no_other s (factors fs (divided c)) none = absurd (omega (arith, none))

mutual
  pub term_is_placed : (m : Meanings) (s : Name) (t : Term) → IsLinear t → (k : ℕ) → IsValuePlaced m (value t) (term_plan s t k).placed k (term_plan s t k).next
  term_is_placed m s (variable n) linear k = record { there = λ a h. refl; back = λ a is. tt; placed = omega arith }
  term_is_placed m s (numeral c) linear k = numeral_is_placed m s c k
  term_is_placed m s (product fs) linear k = begun_is_placed m s (factor_plans s fs).other (factor_plans s fs).scalings (product_value fs) (factors_are m s fs linear.0 linear.1) k
  term_is_placed m s (sum ss t) linear k = sum_is_placed m s ss linear.0 (value t) (term_plan s t) (term_is_placed m s t linear.1) k

  factors_are : (m : Meanings) (s : Name) (fs : Factors) → others fs ≤ 1 → AreLinearFactors fs → IsFactored m (factor_plans s fs).other (factor_plans s fs).scalings (product_value fs)
  factors_are m s no_factors few linear = λ b. refl
  factors_are m s (factors fs (times (numeral c))) few linear = numeral_factored m (factor_plans s fs).other (factor_plans s fs).scalings (product_value fs) c (factors_are m s fs few linear.0)
  factors_are m s (factors fs (divided c)) few linear =
      scaling_factored m (factor_plans s fs).other (factor_plans s fs).scalings (product_value fs) (by_divisor c) (factors_are m s fs (omega (arith, few)) linear)
  factors_are m s (factors fs (times (variable n))) few linear =
      other_factored m (factor_plans s fs).other (factor_plans s fs).scalings (product_value fs) (value (variable n)) (term_plan s (variable n)) (no_other s fs (omega (arith, few)))
      (factors_are m s fs (omega (arith, few)) linear.0) (term_is_placed m s (variable n) linear.1)
  factors_are m s (factors fs (times (product gs))) few linear =
      other_factored m (factor_plans s fs).other (factor_plans s fs).scalings (product_value fs) (value (product gs)) (term_plan s (product gs)) (no_other s fs (omega (arith, few)))
      (factors_are m s fs (omega (arith, few)) linear.0) (term_is_placed m s (product gs) linear.1)
  factors_are m s (factors fs (times (sum ss t))) few linear =
      other_factored m (factor_plans s fs).other (factor_plans s fs).scalings (product_value fs) (value (sum ss t)) (term_plan s (sum ss t)) (no_other s fs (omega (arith, few)))
      (factors_are m s fs (omega (arith, few)) linear.0) (term_is_placed m s (sum ss t) linear.1)

  sum_is_placed : (m : Meanings) (s : Name) (ss : Addends) → AreLinearAddends ss → (w : Value) (last : ℕ → TermPlan)
      → ((k : ℕ) → IsValuePlaced m w (last k).placed k (last k).next) → (k : ℕ)
      → IsValuePlaced m (λ b. sum_value ss b (w b)) (sum_plan s ss last k).placed k (sum_plan s ss last k).next
  sum_is_placed m s no_addends linear w last value_placed k = value_placed k
  sum_is_placed m s (addends ss t sign) linear w last value_placed k =
      let p = sum_plan s ss (term_plan s t) k in
      addend_is_placed m s sign (λ b. sum_value ss b (value t b)) w p (last p.next) k
      (sum_is_placed m s ss linear.0 (value t) (term_plan s t) (term_is_placed m s t linear.1) k) (value_placed p.next)

-- the values of some terms
abbrev pub values_of : Terms → Values
values_of no_terms = no_values
values_of (terms ts t) = listed (values_of ts) (value t)

pub values_are : (ts : Terms) (b : Assignment) → read_all (values_of ts) b ≡ values ts b
values_are no_terms b = refl
values_are (terms ts t) b = ap (λ o. and_value o (value t b)) (values_are ts b)

pub arguments_are_placed : (m : Meanings) (ss : List Name) (ts : Terms) → AreLinear ts → (k : ℕ) → AreValuesPlaced m (values_of ts) (argument_plans ss ts k).placed k (argument_plans ss ts k).next
arguments_are_placed m ss no_terms linear k = omega arith
arguments_are_placed m ss (terms ts t) linear k =
    ((argument_plans ss ts k).next, arguments_are_placed m ss ts linear.0 k, term_is_placed m (slice_index_or ss (count ts) []) t linear.1 (argument_plans ss ts k).next)
