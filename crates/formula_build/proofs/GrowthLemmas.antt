-- The numbers of fresh tracks grow.
use Rattle.std.specs.Prelude.{⊤}
use Rattle.std.proofs.Common.{◌≡◌, ℕ, zero, suc, ◌+◌, ◌-◌, ◌/◌, ◌%◌, ◌==◌, ◌≤◌, Bool, true, false, if◌then◌else◌, List, [], ◌∷◌, ◌++◌, slice_index_or, Option, None, Some, refl, arith}
use Rattle.formula_parse.specs.Tokens.{Name, Relation, equal, Quantifier, some, every, infinite}
use Rattle.formula_parse.specs.Trees.{Names, no_names, names, Term, variable, numeral, product, sum, Factors, no_factors, factors, times, divided, Terms, no_terms, terms, Addends, no_addends, addends, Fact, compare, words, word_letter, letter_word, call, Formula, atom, negated, chain, quantified, marked, Operands, no_operands, operands}
use Rattle.term_plans.specs.Tracks.{Track, own, fresh, has_track}
use Rattle.term_plans.specs.Plans.{compared, added, tracks, Made}
use Rattle.term_plans.specs.TermPlans.{TermPlan, no_times, linked, multiple, parted, below, quotient_made, Scaling, by_numeral, by_divisor, scaling_made, scaled, scaled_all, numeral_plan, begun, term_plan, factor_plans, sum_plan}
use Rattle.term_plans.specs.ArgumentPlans.{count, argument_plans}
use Rattle.formula_plan.specs.FactPlans.{Headers, Form, long, variable_left, variable_right, form_by, is_equal, as_variable, compare_by, fact_plan}
use Rattle.formula_plan.specs.FormulaPlans.{kept, for_every, for_infinitely, for_infinitely_many, quantified_made, plan_of, operand_plans}

if_up : (b : Bool) (m n : Made) (k : ℕ) → k ≤ m.next → k ≤ n.next → k ≤ (if b then m else n).next
if_up true m n k first second = first
if_up false m n k first second = second

pub multiple_up : (most : ℕ) (s : Name) (c : ℕ) (x y : Track) (k : ℕ) → k ≤ (multiple most s c x y k).next
multiple_up zero s c x y k = omega arith
multiple_up (suc most) s c x y k =
    if_up (c == 0) (no_times s x y k) (if c == 1 then one else (if c == 2 then two else (if c % 2 == 0 then even else odd))) k (omega arith)
    (if_up (c == 1) one (if c == 2 then two else (if c % 2 == 0 then even else odd)) k (omega arith)
    (if_up (c == 2) two (if c % 2 == 0 then even else odd) k (omega arith)
    (if_up (c % 2 == 0) even odd k
    (let up = multiple_up most s (c / 2) x (fresh k) (k + 1) in omega (arith, up))
    (let up = multiple_up most s (c - 1) x (fresh k) (k + 1) in omega (arith, up)))))
  where
    one : Made
    one = record { steps = []; last = compared s equal x y; next = k }

    two : Made
    two = record { steps = []; last = added s x x y; next = k }

    even : Made
    even = linked (multiple most s (c / 2) x (fresh k) (k + 1)) (fresh k) (added s (fresh k) (fresh k) y)

    odd : Made
    odd = linked (multiple most s (c - 1) x (fresh k) (k + 1)) (fresh k) (added s (fresh k) x y)

quotient_up : (s : Name) (c : ℕ) (x y : Track) (k : ℕ) → k ≤ (quotient_made s c x y k).next
quotient_up s c x y k =
    if_up (c == 1) (record { steps = []; last = compared s equal x y; next = k })
    (linked (record { steps = whole.steps ++ small.steps; last = small.last; next = small.next }) (fresh (k + 1)) whole.last) k (omega arith)
    (let up = multiple_up c s c y (fresh k) (k + 3) in omega (arith, up))
  where
    whole : Made
    whole = parted s c x y (fresh k) (fresh (k + 1)) (k + 3)

    small : Made
    small = below s c (fresh (k + 1)) (fresh (k + 2)) whole.next

pub scaling_up : (s : Name) (f : Scaling) (x y : Track) (k : ℕ) → k ≤ (scaling_made s f x y k).next
scaling_up s (by_numeral c) x y k = multiple_up c s c x y k
scaling_up s (by_divisor c) x y k = quotient_up s c x y k

pub scaled_up : (s : Name) (p : TermPlan) (f : Scaling) → p.next + 1 ≤ (scaled s p f).next
scaled_up s p f = scaling_up s f p.placed.track (fresh p.next) (p.next + 1)

all_scaled_up : (s : Name) (p : TermPlan) (fs : List Scaling) → p.next ≤ (scaled_all s p fs).next
all_scaled_up s p [] = omega arith
all_scaled_up s p (f ∷ fs) =
    let first = scaled_up s p f in
    let rest = all_scaled_up s (scaled s p f) fs in
    omega (arith, first, rest)

abbrev IsUp : Option (ℕ → TermPlan) → Type 0
IsUp None = ⊤
IsUp (Some plan) = (k : ℕ) → k ≤ (plan k).next

begun_up : (s : Name) (other : Option (ℕ → TermPlan)) (fs : List Scaling) (k : ℕ) → IsUp other → k ≤ (begun s other fs k).next
begun_up s (Some plan) fs k up =
    let first = up k in
    let rest = all_scaled_up s (plan k) fs in
    omega (arith, first, rest)
begun_up s None [] k up = omega arith
begun_up s None (by_numeral c ∷ fs) k up = let rest = all_scaled_up s (numeral_plan s c k) fs in omega (arith, rest)
begun_up s None (by_divisor c ∷ fs) k up = let rest = all_scaled_up s (numeral_plan s 1 k) (by_divisor c ∷ fs) in omega (arith, rest)

mutual
  pub term_up : (s : Name) (t : Term) (k : ℕ) → k ≤ (term_plan s t k).next
  term_up s (variable n) k = omega arith
  term_up s (numeral c) k = omega arith
  term_up s (product fs) k = begun_up s (factor_plans s fs).other (factor_plans s fs).scalings k (factors_up s fs)
  term_up s (sum ss t) k = sum_up s ss (term_plan s t) (term_up s t) k

  factors_up : (s : Name) (fs : Factors) → IsUp (factor_plans s fs).other
  factors_up s no_factors = tt
  factors_up s (factors fs (times (numeral c))) = factors_up s fs
  factors_up s (factors fs (divided c)) = factors_up s fs
  factors_up s (factors fs (times (variable n))) = term_up s (variable n)
  factors_up s (factors fs (times (product gs))) = term_up s (product gs)
  factors_up s (factors fs (times (sum ss t))) = term_up s (sum ss t)

  pub sum_up : (s : Name) (ss : Addends) (last : ℕ → TermPlan) → ((k : ℕ) → k ≤ (last k).next) → (k : ℕ) → k ≤ (sum_plan s ss last k).next
  sum_up s no_addends last up k = up k
  sum_up s (addends ss t sign) last up k =
      let first = sum_up s ss (term_plan s t) (term_up s t) k in
      let second = up (sum_plan s ss (term_plan s t) k).next in
      omega (arith, first, second)

pub arguments_up : (ss : List Name) (ts : Terms) (k : ℕ) → k ≤ (argument_plans ss ts k).next
arguments_up ss no_terms k = omega arith
arguments_up ss (terms ts t) k =
    let first = arguments_up ss ts k in
    let second = term_up (slice_index_or ss (count ts) []) t (argument_plans ss ts k).next in
    omega (arith, first, second)

compare_up : (form : Form) (s : Name) (t : Term) (r : Relation) (u : Term) (k : ℕ) → k ≤ (compare_by form s t r u k).next
compare_up long s t r u k =
    let first = term_up s t k in
    let second = term_up s u (term_plan s t k).next in
    omega (arith, first, second)
compare_up (variable_left n) s t r u k = term_up s u k
compare_up (variable_right n) s t r u k = term_up s t k

fact_up : (h : Headers) (s : Name) (x : Fact) (k : ℕ) → k ≤ (fact_plan h s x k).next
fact_up h s (compare t r u) k = compare_up (form_by (is_equal r) (as_variable t) (as_variable u)) s t r u k
fact_up h s (call n ts) k = arguments_up (h.of_automaton n) ts k
fact_up h s (word_letter x r l) k = arguments_up (h.of_word x.word) x.places k
fact_up h s (letter_word l r x) k = arguments_up (h.of_word x.word) x.places k
fact_up h s (words x r y) k =
    let first = arguments_up (h.of_word x.word) x.places k in
    let second = arguments_up (h.of_word y.word) y.places (argument_plans (h.of_word x.word) x.places k).next in
    omega (arith, first, second)

every_next : (ks : List Name) (m : Made) → (for_every ks m).next ≡ m.next
every_next [] m = refl
every_next (n ∷ ks) m = refl

pub many_up : (on : Name → Name) (ns : Names) (m : Made) → m.next ≤ (for_infinitely_many on ns m).next
many_up on no_names m = omega arith
many_up on (names ns n) m =
    let first = if_up (has_track (tracks m.last) (own n)) (for_infinitely (on n) n m) m m.next (omega arith) (omega arith) in
    let rest = many_up on ns (if has_track (tracks m.last) (own n) then for_infinitely (on n) n m else m) in
    omega (arith, first, rest)

pub quantified_up : (q : Quantifier) (on : Name → Name) (ns : Names) (m : Made) → m.next ≤ (quantified_made q on ns m).next
quantified_up some on ns m = omega arith
quantified_up every on ns m = let same = every_next (kept ns (tracks m.last)) m in omega (arith, same)
quantified_up infinite on ns m = many_up on ns m

mutual
  pub plan_up : (h : Headers) (f : Formula) (k : ℕ) → k ≤ (plan_of h f k).next
  plan_up h (atom x) k = fact_up h x.system x.fact k
  plan_up h (negated f) k = plan_up h f k
  plan_up h (chain os f) k =
      let first = operands_up h os k in
      let second = plan_up h f (operand_plans h os k).next in
      omega (arith, first, second)
  plan_up h (quantified q ns f) k =
      let up = plan_up h f k in
      let more = quantified_up q (h.of_variable f) ns (plan_of h f k) in
      omega (arith, up, more)
  plan_up h (marked ms f) k = plan_up h f k

  pub operands_up : (h : Headers) (os : Operands) (k : ℕ) → k ≤ (operand_plans h os k).next
  operands_up h no_operands k = omega arith
  operands_up h (operands os f j) k =
      let first = operands_up h os k in
      let second = plan_up h f (operand_plans h os k).next in
      omega (arith, first, second)
