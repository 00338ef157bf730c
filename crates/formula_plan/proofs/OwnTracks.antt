-- The own tracks of a plan: those of parts, of closed bases, and of the plans of terms.
use Rattle.std.specs.Prelude.{⊤}
use Rattle.std.specs.Str.{bytes_eq}
use Rattle.std.proofs.Common.{◌≡◌, ℕ, zero, suc, ◌+◌, ◌-◌, ◌/◌, ◌%◌, ◌==◌, Bool, true, false, ◌||◌, ◌&&◌, not, if◌then◌else◌, List, [], ◌∷◌, ◌++◌, Option, None, Some, refl, sym, ◌∙◌, ap, subst}
use Rattle.std.proofs.lemmas.Slice.Eq.{bytes_eq-Decides}
use Rattle.std.proofs.lemmas.Bool.{false≢true, false_from_ne_true}
use Rattle.formula_parse.specs.Tokens.{Name, Sign, plus, minus, equal}
use Rattle.formula_parse.specs.Trees.{Term, variable, numeral, product, sum, Factors, no_factors, factors, times, divided, Addends, no_addends, addends}
use Rattle.term_plans.specs.Tracks.{Track, own, fresh, same_track, has_track, without}
use Rattle.term_plans.specs.Plans.{Plan, compared, added, tracks, Made}
use Rattle.term_plans.specs.TermPlans.{Placed, TermPlan, closed_by, closed, no_times, linked, multiple, parted, below, quotient_made, Scaling, by_numeral, by_divisor, scaling_made, scaled, scaled_all, with_addend, numeral_plan, begun, term_plan, factor_plans, sum_plan}
use Rattle.formula_plan.specs.OwnNames.{own_names, own_multiplied, own_before, without_name, has_name}

pub or_assoc : (a b c : Bool) → ((a || b) || c) ≡ (a || (b || c))
or_assoc true b c = refl
or_assoc false b c = refl

pub or_false : (a : Bool) → (a || false) ≡ a
or_false true = refl
or_false false = refl

pub or_comm : (a b : Bool) → (a || b) ≡ (b || a)
or_comm true true = refl
or_comm true false = refl
or_comm false true = refl
or_comm false false = refl

and_false : (a : Bool) → (a && false) ≡ false
and_false true = refl
and_false false = refl

absorb : (b h : Bool) → (not b && h) ≡ (not b && (b || h))
absorb true h = refl
absorb false h = refl

-- two lists of tracks, or of names
pub has_both : (xs ys : List Track) (t : Track) → has_track (xs ++ ys) t ≡ (has_track xs t || has_track ys t)
has_both [] ys t = refl
has_both (x ∷ xs) ys t = ap (λ b. same_track x t || b) (has_both xs ys t) ∙ sym (or_assoc (same_track x t) (has_track xs t) (has_track ys t))

pub named_both : (xs ys : List Name) (n : Name) → has_name (xs ++ ys) n ≡ (has_name xs n || has_name ys n)
named_both [] ys n = refl
named_both (x ∷ xs) ys n = ap (λ b. bytes_eq x n || b) (named_both xs ys n) ∙ sym (or_assoc (bytes_eq x n) (has_name xs n) (has_name ys n))

-- a fresh track left out
pub without_fresh : (j : ℕ) (xs : List Track) (n : Name) → has_track (without (fresh j) xs) (own n) ≡ has_track xs (own n)
without_fresh j [] n = refl
without_fresh j (own m ∷ xs) n = ap (λ b. bytes_eq m n || b) (without_fresh j xs n)
without_fresh j (fresh i ∷ xs) n = by (j == i) (without_fresh j xs n)
  where
    by : (b : Bool) → has_track (without (fresh j) xs) (own n) ≡ has_track xs (own n) → has_track (if not b then fresh i ∷ without (fresh j) xs else without (fresh j) xs) (own n) ≡ has_track xs (own n)
    by true rest = rest
    by false rest = rest

-- an own track left out, and a name
eq_back : (m n : Name) → bytes_eq m n ≡ false → bytes_eq n m ≡ false
eq_back m n apart = false_from_ne_true (bytes_eq n m) (λ same. false≢true (sym apart ∙ (bytes_eq-Decides m n).1 (sym ((bytes_eq-Decides n m).0 same))))

step_same : (m l n : Name) (rest prefix : Bool) → bytes_eq m l ≡ true → rest ≡ (not (bytes_eq m n) && prefix) → rest ≡ (not (bytes_eq m n) && (bytes_eq l n || prefix))
step_same m l n rest prefix same is = is ∙ absorb (bytes_eq m n) prefix ∙ ap (λ k. not (bytes_eq m n) && (bytes_eq k n || prefix)) ((bytes_eq-Decides m l).0 same)

step_apart : (m l n : Name) (rest prefix : Bool) → bytes_eq m l ≡ false → rest ≡ (not (bytes_eq m n) && prefix) → (bytes_eq l n || rest) ≡ (not (bytes_eq m n) && (bytes_eq l n || prefix))
step_apart m l n rest prefix apart is = ap (λ b. bytes_eq l n || b) is ∙ by (bytes_eq m n) refl
  where
    by : (b : Bool) → bytes_eq m n ≡ b → (bytes_eq l n || (not b && prefix)) ≡ (not b && (bytes_eq l n || prefix))
    by true same = ap (λ k. bytes_eq l k || false) (sym ((bytes_eq-Decides m n).0 same)) ∙ ap (λ b. b || false) (eq_back m l apart)
    by false none = refl

pub without_own : (m : Name) (xs : List Track) (n : Name) → has_track (without (own m) xs) (own n) ≡ (not (bytes_eq m n) && has_track xs (own n))
without_own m [] n = sym (and_false (not (bytes_eq m n)))
without_own m (fresh i ∷ xs) n = without_own m xs n
without_own m (own l ∷ xs) n = by (bytes_eq m l) refl (without_own m xs n)
  where
    by : (b : Bool) → bytes_eq m l ≡ b → has_track (without (own m) xs) (own n) ≡ (not (bytes_eq m n) && has_track xs (own n)) → has_track (if not b then own l ∷ without (own m) xs else without (own m) xs) (own n) ≡ (not (bytes_eq m n) && (bytes_eq l n || has_track xs (own n)))
    by true same rest = step_same m l n (has_track (without (own m) xs) (own n)) (has_track xs (own n)) same rest
    by false apart rest = step_apart m l n (has_track (without (own m) xs) (own n)) (has_track xs (own n)) apart rest

pub without_named : (m : Name) (xs : List Name) (n : Name) → has_name (without_name m xs) n ≡ (not (bytes_eq m n) && has_name xs n)
without_named m [] n = sym (and_false (not (bytes_eq m n)))
without_named m (l ∷ xs) n = by (bytes_eq m l) refl (without_named m xs n)
  where
    by : (b : Bool) → bytes_eq m l ≡ b → has_name (without_name m xs) n ≡ (not (bytes_eq m n) && has_name xs n) → has_name (if not b then l ∷ without_name m xs else without_name m xs) n ≡ (not (bytes_eq m n) && (bytes_eq l n || has_name xs n))
    by true same rest = step_same m l n (has_name (without_name m xs) n) (has_name xs n) same rest
    by false apart rest = step_apart m l n (has_name (without_name m xs) n) (has_name xs n) apart rest

pub first_no : (a b : Bool) → (a || b) ≡ false → a ≡ false
first_no true b is = is
first_no false b is = refl

pub second_no : (a b : Bool) → (a || b) ≡ false → b ≡ false
second_no true b is = absurd (false≢true (sym is))
second_no false b is = is

-- a name that is not there
pub without_none : (m : Name) (xs : List Name) → has_name xs m ≡ false → without_name m xs ≡ xs
without_none m [] none = refl
without_none m (l ∷ xs) none = by (bytes_eq m l) refl (without_none m xs (second_no (bytes_eq l m) (has_name xs m) none))
  where
    by : (b : Bool) → bytes_eq m l ≡ b → without_name m xs ≡ xs → (if not b then l ∷ without_name m xs else without_name m xs) ≡ l ∷ xs
    by true same rest = absurd (false≢true (sym (eq_back l m (first_no (bytes_eq l m) (has_name xs m) none)) ∙ same))
    by false apart rest = ap (λ ys. l ∷ ys) rest

-- a value with a relation is at a fresh track
abbrev pub IsClosable : Track → Option Plan → Type 0
IsClosable (own n) None = ⊤
IsClosable (own n) (Some r) = ⊥
IsClosable (fresh j) o = ⊤

abbrev pub in_relation : Option Plan → Name → Bool
in_relation None n = false
in_relation (Some r) n = has_track (tracks r) (own n)

pub closed_own : (t : Track) (o : Option Plan) (base : Plan) (n : Name) → IsClosable t o → has_track (tracks (closed_by t o base)) (own n) ≡ (in_relation o n || has_track (tracks base) (own n))
closed_own (own m) None base n is = refl
closed_own (own m) (Some r) base n is = absurd is
closed_own (fresh j) None base n is = refl
closed_own (fresh j) (Some r) base n is = without_fresh j (tracks r ++ tracks base) n ∙ has_both (tracks r) (tracks base) (own n)

abbrev pub in_placed : Placed → Name → Bool
in_placed p n = same_track p.track (own n) || in_relation p.relation n

-- these are the variables of a value
pub record IsOwn (p : Placed) (ms : List Name) : Type 0 where
  pub closable : IsClosable p.track p.relation
  pub has : (n : Name) → in_placed p n ≡ has_name ms n

-- multiples have no other own track than the value's
abbrev OwnOf : Track → Name → Made → Type 0
OwnOf x n m = has_track (tracks m.last) (own n) ≡ same_track x (own n)

pick : (x : Track) (n : Name) (b : Bool) (m k : Made) → OwnOf x n m → OwnOf x n k → OwnOf x n (if b then m else k)
pick x n true m k first second = first
pick x n false m k first second = second

linked_own : (x : Track) (n : Name) (m : Made) (k : ℕ) (base : Plan) → OwnOf x n m → (same_track x (own n) || has_track (tracks base) (own n)) ≡ same_track x (own n) → OwnOf x n (linked m (fresh k) base)
linked_own x n m k base first more =
    without_fresh k (tracks m.last ++ tracks base) n ∙ has_both (tracks m.last) (tracks base) (own n) ∙ ap (λ b. b || has_track (tracks base) (own n)) first ∙ more

twice : (a : Bool) → (a || (a || false)) ≡ a
twice true = refl
twice false = refl

multiple_own : (most : ℕ) (s : Name) (c : ℕ) (x : Track) (j k : ℕ) (n : Name) → OwnOf x n (multiple most s c x (fresh j) k)
multiple_own zero s c x j k n = or_false (same_track x (own n))
multiple_own (suc most) s c x j k n =
    pick x n (c == 0) (no_times s x (fresh j) k) _ (or_false (same_track x (own n)))
    (pick x n (c == 1) (record { steps = []; last = compared s equal x (fresh j); next = k }) _ (or_false (same_track x (own n)))
    (pick x n (c == 2) (record { steps = []; last = added s x x (fresh j); next = k }) _ (twice (same_track x (own n)))
    (pick x n (c % 2 == 0) (linked (multiple most s (c / 2) x (fresh k) (k + 1)) (fresh k) (added s (fresh k) (fresh k) (fresh j))) (linked (multiple most s (c - 1) x (fresh k) (k + 1)) (fresh k) (added s (fresh k) x (fresh j)))
    (linked_own x n (multiple most s (c / 2) x (fresh k) (k + 1)) k (added s (fresh k) (fresh k) (fresh j)) (multiple_own most s (c / 2) x k (k + 1) n) (or_false (same_track x (own n))))
    (linked_own x n (multiple most s (c - 1) x (fresh k) (k + 1)) k (added s (fresh k) x (fresh j)) (multiple_own most s (c - 1) x k (k + 1) n) (twice (same_track x (own n)))))))

-- nor have quotients
quotient_own : (s : Name) (c : ℕ) (x : Track) (j k : ℕ) (n : Name) → OwnOf x n (quotient_made s c x (fresh j) k)
quotient_own s c x j k n =
    pick x n (c == 1) (record { steps = []; last = compared s equal x (fresh j); next = k }) _ (or_false (same_track x (own n)))
    (without_fresh (k + 1) (tracks small.last ++ tracks whole.last) n ∙ has_both (tracks small.last) (tracks whole.last) (own n)
    ∙ ap (λ b. b || has_track (tracks whole.last) (own n)) (without_fresh (k + 2) (fresh (k + 2) ∷ fresh (k + 1) ∷ fresh (k + 2) ∷ []) n)
    ∙ whole_own)
  where
    times : Made
    times = multiple c s c (fresh j) (fresh k) (k + 3)

    whole : Made
    whole = parted s c x (fresh j) (fresh k) (fresh (k + 1)) (k + 3)

    small : Made
    small = below s c (fresh (k + 1)) (fresh (k + 2)) whole.next

    whole_own : has_track (tracks whole.last) (own n) ≡ same_track x (own n)
    whole_own =
        without_fresh k (tracks times.last ++ (fresh k ∷ fresh (k + 1) ∷ x ∷ [])) n ∙ has_both (tracks times.last) (fresh k ∷ fresh (k + 1) ∷ x ∷ []) (own n)
        ∙ ap (λ b. b || (same_track x (own n) || false)) (multiple_own c s c (fresh j) k (k + 3) n) ∙ or_false (same_track x (own n))

scaling_own : (s : Name) (f : Scaling) (x : Track) (j k : ℕ) (n : Name) → OwnOf x n (scaling_made s f x (fresh j) k)
scaling_own s (by_numeral c) x j k n = multiple_own c s c x j k n
scaling_own s (by_divisor c) x j k n = quotient_own s c x j k n

scaled_own : (s : Name) (p : TermPlan) (f : Scaling) (ms : List Name) → IsOwn p.placed ms → IsOwn (scaled s p f).placed ms
scaled_own s p f ms is = record {
  closable = tt;
  has = λ n. closed_own p.placed.track p.placed.relation (scaling_made s f p.placed.track (fresh p.next) (p.next + 1)).last n is.closable
      ∙ ap (λ b. in_relation p.placed.relation n || b) (scaling_own s f p.placed.track p.next (p.next + 1) n)
      ∙ or_comm (in_relation p.placed.relation n) (same_track p.placed.track (own n)) ∙ is.has n;
}

all_scaled_own : (s : Name) (p : TermPlan) (fs : List Scaling) (ms : List Name) → IsOwn p.placed ms → IsOwn (scaled_all s p fs).placed ms
all_scaled_own s p [] ms is = is
all_scaled_own s p (f ∷ fs) ms is = all_scaled_own s (scaled s p f) fs ms (scaled_own s p f ms is)

numeral_own : (s : Name) (c k : ℕ) → IsOwn (numeral_plan s c k).placed []
numeral_own s c k = record { closable = tt; has = λ n. refl }

-- sums
plus_bool : (rq rp sx sy : Bool) → (rq || (rp || (sx || (sy || (false || false))))) ≡ ((sx || rp) || (sy || rq))
plus_bool true true true sy = refl
plus_bool true true false true = refl
plus_bool true true false false = refl
plus_bool true false true sy = refl
plus_bool true false false true = refl
plus_bool true false false false = refl
plus_bool false true true sy = refl
plus_bool false true false sy = refl
plus_bool false false true sy = refl
plus_bool false false false true = refl
plus_bool false false false false = refl

minus_bool : (rq rp sx sy : Bool) → (rq || (rp || (sy || (false || (sx || false))))) ≡ ((sx || rp) || (sy || rq))
minus_bool true true true sy = refl
minus_bool true true false true = refl
minus_bool true true false false = refl
minus_bool true false true sy = refl
minus_bool true false false true = refl
minus_bool true false false false = refl
minus_bool false true true sy = refl
minus_bool false true false sy = refl
minus_bool false false true true = refl
minus_bool false false true false = refl
minus_bool false false false true = refl
minus_bool false false false false = refl

pub both_closed : (p q : Placed) (base : Plan) (n : Name) → IsClosable p.track p.relation → IsClosable q.track q.relation
    → has_track (tracks (closed q (closed p base))) (own n) ≡ (in_relation q.relation n || (in_relation p.relation n || has_track (tracks base) (own n)))
both_closed p q base n first second = closed_own q.track q.relation (closed p base) n second ∙ ap (λ b. in_relation q.relation n || b) (closed_own p.track p.relation base n first)

sum_own : (s : Name) (sign : Sign) (p q : TermPlan) (ms ns : List Name) → IsOwn p.placed ms → IsOwn q.placed ns → IsOwn (with_addend s sign p q).placed (ms ++ ns)
sum_own s plus p q ms ns first second = record {
  closable = tt;
  has = λ n. both_closed p.placed q.placed (added s p.placed.track q.placed.track (fresh q.next)) n first.closable second.closable
      ∙ plus_bool (in_relation q.placed.relation n) (in_relation p.placed.relation n) (same_track p.placed.track (own n)) (same_track q.placed.track (own n))
      ∙ ap (λ b. b || in_placed q.placed n) (first.has n) ∙ ap (λ b. has_name ms n || b) (second.has n) ∙ sym (named_both ms ns n);
}
sum_own s minus p q ms ns first second = record {
  closable = tt;
  has = λ n. both_closed p.placed q.placed (added s q.placed.track (fresh q.next) p.placed.track) n first.closable second.closable
      ∙ minus_bool (in_relation q.placed.relation n) (in_relation p.placed.relation n) (same_track p.placed.track (own n)) (same_track q.placed.track (own n))
      ∙ ap (λ b. b || in_placed q.placed n) (first.has n) ∙ ap (λ b. has_name ms n || b) (second.has n) ∙ sym (named_both ms ns n);
}

-- products
abbrev IsOther : Option (ℕ → TermPlan) → List Name → Type 0
IsOther None ms = ms ≡ []
IsOther (Some plan) ms = (k : ℕ) → IsOwn (plan k).placed ms

begun_own : (s : Name) (o : Option (ℕ → TermPlan)) (fs : List Scaling) (k : ℕ) (ms : List Name) → IsOther o ms → IsOwn (begun s o fs k).placed ms
begun_own s (Some plan) fs k ms is = all_scaled_own s (plan k) fs ms (is k)
begun_own s None [] k ms is = subst (λ l. IsOwn (numeral_plan s 1 k).placed l) (sym is) (numeral_own s 1 k)
begun_own s None (by_numeral c ∷ fs) k ms is = subst (λ l. IsOwn (scaled_all s (numeral_plan s c k) fs).placed l) (sym is) (all_scaled_own s (numeral_plan s c k) fs [] (numeral_own s c k))
begun_own s None (by_divisor c ∷ fs) k ms is =
    subst (λ l. IsOwn (scaled_all s (numeral_plan s 1 k) (by_divisor c ∷ fs)).placed l) (sym is) (all_scaled_own s (numeral_plan s 1 k) (by_divisor c ∷ fs) [] (numeral_own s 1 k))

mutual
  pub term_own : (s : Name) (t : Term) (k : ℕ) → IsOwn (term_plan s t k).placed (own_names t)
  term_own s (variable m) k = record { closable = tt; has = λ n. refl }
  term_own s (numeral c) k = numeral_own s c k
  term_own s (product fs) k = begun_own s (factor_plans s fs).other (factor_plans s fs).scalings k (own_multiplied fs) (factors_own s fs)
  term_own s (sum ss t) k = addends_own s ss (term_plan s t) (own_names t) (term_own s t) k

  factors_own : (s : Name) (fs : Factors) → IsOther (factor_plans s fs).other (own_multiplied fs)
  factors_own s no_factors = refl
  factors_own s (factors fs (times (numeral c))) = factors_own s fs
  factors_own s (factors fs (divided c)) = factors_own s fs
  factors_own s (factors fs (times (variable n))) = term_own s (variable n)
  factors_own s (factors fs (times (product gs))) = term_own s (product gs)
  factors_own s (factors fs (times (sum ss t))) = term_own s (sum ss t)

  addends_own : (s : Name) (ss : Addends) (last : ℕ → TermPlan) (ms : List Name) → ((k : ℕ) → IsOwn (last k).placed ms) → (k : ℕ) → IsOwn (sum_plan s ss last k).placed (own_before ss ++ ms)
  addends_own s no_addends last ms is k = is k
  addends_own s (addends ss t sign) last ms is k =
      let p : TermPlan = sum_plan s ss (term_plan s t) k in
      sum_own s sign p (last p.next) (own_before ss ++ own_names t) ms (addends_own s ss (term_plan s t) (own_names t) (term_own s t) k) (is p.next)
