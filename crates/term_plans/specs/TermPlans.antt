-- The plans of terms: a track on which a term's value is, and where it is fresh, the relation of the term's variables and its value.
use Rattle.std.specs.Prelude.{ℕ, zero, suc, ◌+◌, ◌-◌, ◌/◌, ◌%◌, ◌==◌, List, [], ◌∷◌, ◌++◌, Option, None, Some, if◌then◌else◌}
use Rattle.formula_parse.specs.Tokens.{Name, Sign, plus, minus, equal, less}
use Rattle.formula_parse.specs.Trees.{Term, variable, numeral, product, sum, Factors, no_factors, factors, times, divided, Addends, no_addends, addends, and}
use Rattle.term_plans.specs.Tracks.{Track, own, fresh}
use Rattle.term_plans.specs.Plans.{Plan, compared, added, number, constant, joined, projected, Made}

-- a value's track, and its relation where the track is fresh
pub record Placed : Type 0 where
  pub track : Track
  pub relation : Option Plan

-- the steps of a term, where its value is placed, and the number of the next fresh track
pub record TermPlan : Type 0 where
  pub steps : List Plan
  pub placed : Placed
  pub next : ℕ

-- a base with a value's track closed: where it is fresh, the value's relation is joined to it, and the track projected
abbrev pub closed_by : Track → Option Plan → Plan → Plan
closed_by t None base = base
closed_by t (Some r) base = projected t (joined and r base)

abbrev pub closed : Placed → Plan → Plan
closed p base = closed_by p.track p.relation base

-- the steps by which it is closed
abbrev pub closing_by : Track → Option Plan → Plan → List Plan
closing_by t None base = []
closing_by t (Some r) base = joined and r base ∷ projected t (joined and r base) ∷ []

abbrev pub closing : Placed → Plan → List Plan
closing p base = closing_by p.track p.relation base

-- two relations joined on a track, which is projected then
abbrev pub linked : Made → Track → Plan → Made
linked m t base = record {
  steps = m.steps ++ joined and m.last base ∷ projected t (joined and m.last base) ∷ [];
  last = projected t (joined and m.last base);
  next = m.next;
}

-- 0, and any number: 0 times x is y
abbrev pub no_times : Name → Track → Track → ℕ → Made
no_times s x y k = record {
  steps = constant s 0 y ∷ joined and (constant s 0 y) (number s x) ∷ [];
  last = joined and (constant s 0 y) (number s x);
  next = k;
}

-- c times x is y, by doubling; the first number is at least c
abbrev pub multiple : ℕ → Name → ℕ → Track → Track → ℕ → Made
multiple zero s c x y k = no_times s x y k
multiple (suc most) s c x y k =
    if c == 0 then no_times s x y k
    else if c == 1 then record { steps = []; last = compared s equal x y; next = k }
    else if c == 2 then record { steps = []; last = added s x x y; next = k }
    else if c % 2 == 0 then linked (multiple most s (c / 2) x (fresh k) (k + 1)) (fresh k) (added s (fresh k) (fresh k) y)
    else linked (multiple most s (c - 1) x (fresh k) (k + 1)) (fresh k) (added s (fresh k) x y)

-- c times a number, and what is left, are x, and the number is y
abbrev pub parted : Name → ℕ → Track → Track → Track → Track → ℕ → Made
parted s c x y part rest k = linked (multiple c s c y part k) part (added s part rest x)

-- what is left is below c
abbrev pub below : Name → ℕ → Track → Track → ℕ → Made
below s c rest bound k = linked (record { steps = constant s c bound ∷ []; last = constant s c bound; next = k }) bound (compared s less rest bound)

-- y is the greatest number that, times c, is at most x
abbrev pub quotient_made : Name → ℕ → Track → Track → ℕ → Made
quotient_made s c x y k =
    if c == 1 then record { steps = []; last = compared s equal x y; next = k }
    else
    let whole = parted s c x y (fresh k) (fresh (k + 1)) (k + 3) in
    let small = below s c (fresh (k + 1)) (fresh (k + 2)) whole.next in
    linked (record { steps = whole.steps ++ small.steps; last = small.last; next = small.next }) (fresh (k + 1)) whole.last

-- by what the value that a product begins with is multiplied, or divided
pub data Scaling : Type 0 where
  by_numeral : ℕ → Scaling
  by_divisor : ℕ → Scaling

abbrev pub scaling_made : Name → Scaling → Track → Track → ℕ → Made
scaling_made s (by_numeral c) x y k = multiple c s c x y k
scaling_made s (by_divisor c) x y k = quotient_made s c x y k

-- a value scaled
abbrev pub scaled : Name → TermPlan → Scaling → TermPlan
scaled s p f =
    let m = scaling_made s f p.placed.track (fresh p.next) (p.next + 1) in
    record {
      steps = p.steps ++ (m.steps ++ closing p.placed m.last);
      placed = record { track = fresh p.next; relation = Some (closed p.placed m.last) };
      next = m.next;
    }

-- and scaled several times, in their order
abbrev pub scaled_all : Name → TermPlan → List Scaling → TermPlan
scaled_all s p [] = p
scaled_all s p (f ∷ fs) = scaled_all s (scaled s p f) fs

-- two values and their sum, or their difference
abbrev pub sum_relation : Name → Sign → Track → Track → Track → Plan
sum_relation s plus x y z = added s x y z
sum_relation s minus x y z = added s y z x

abbrev pub with_addend : Name → Sign → TermPlan → TermPlan → TermPlan
with_addend s sign p q =
    let base = sum_relation s sign p.placed.track q.placed.track (fresh q.next) in
    record {
      steps = p.steps ++ (q.steps ++ (closing p.placed base ++ closing q.placed (closed p.placed base)));
      placed = record { track = fresh q.next; relation = Some (closed q.placed (closed p.placed base)) };
      next = q.next + 1;
    }

abbrev pub numeral_plan : Name → ℕ → ℕ → TermPlan
numeral_plan s c k = record {
  steps = constant s c (fresh k) ∷ [];
  placed = record { track = fresh k; relation = Some (constant s c (fresh k)) };
  next = k + 1;
}

-- the factors of a product: the plan of the one that is no numeral, if there is one, and the numerals and divisors in their order
pub record FactorPlans : Type 0 where
  pub other : Option (ℕ → TermPlan)
  pub scalings : List Scaling

abbrev pub with_scaling : FactorPlans → Scaling → FactorPlans
with_scaling ps f = record { other = ps.other; scalings = ps.scalings ++ f ∷ [] }

abbrev pub with_other : FactorPlans → (ℕ → TermPlan) → FactorPlans
with_other ps plan = record { other = Some plan; scalings = ps.scalings }

-- A product begins with the factor that is no numeral, or else with its first numeral, or 1. Where it has divisors, each
-- divides all that is before it, and the factor that is no numeral is before the first of them.
abbrev pub begun : Name → Option (ℕ → TermPlan) → List Scaling → ℕ → TermPlan
begun s (Some plan) fs k = scaled_all s (plan k) fs
begun s None [] k = numeral_plan s 1 k
begun s None (by_numeral c ∷ fs) k = scaled_all s (numeral_plan s c k) fs
begun s None (by_divisor c ∷ fs) k = scaled_all s (numeral_plan s 1 k) (by_divisor c ∷ fs)

abbrev mutual
  pub term_plan : Name → Term → ℕ → TermPlan
  term_plan s (variable n) k = record { steps = []; placed = record { track = own n; relation = None }; next = k }
  term_plan s (numeral c) k = numeral_plan s c k
  term_plan s (product fs) k = let ps = factor_plans s fs in begun s ps.other ps.scalings k
  term_plan s (sum ss t) k = sum_plan s ss (term_plan s t) k

  pub factor_plans : Name → Factors → FactorPlans
  factor_plans s no_factors = record { other = None; scalings = [] }
  factor_plans s (factors fs (times (numeral c))) = with_scaling (factor_plans s fs) (by_numeral c)
  factor_plans s (factors fs (divided c)) = with_scaling (factor_plans s fs) (by_divisor c)
  factor_plans s (factors fs (times t)) = with_other (factor_plans s fs) (term_plan s t)

  -- the addends, read from the left, and then the last one, which has this plan
  pub sum_plan : Name → Addends → (ℕ → TermPlan) → ℕ → TermPlan
  sum_plan s no_addends last k = last k
  sum_plan s (addends ss t sign) last k = let p = sum_plan s ss (term_plan s t) k in with_addend s sign p (last p.next)
