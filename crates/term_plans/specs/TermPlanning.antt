-- Terms part by part: the factor that is no numeral, the numerals and divisors, and a sum so far.
use Rattle.std.specs.Prelude.{◌≡◌, ℕ, ◌<◌, List, map, length, Option, None, Some, slice_index_or, ⊤}
use Rattle.formula_parse.specs.Tokens.{Name}
use Rattle.formula_parse.specs.Trees.{Term, variable, numeral, product, sum, Factors, no_factors, factors, Factor, times, divided, Addends, no_addends}
use Rattle.formula_parse.specs.Views.{factor_view, factors_view, sign_view}
use Rattle.formula_parse.specs.declared.tree.Factor as parsed
use Rattle.term_plans.specs.Plans.{Plan}
use Rattle.term_plans.specs.TermPlans.{Placed, TermPlan, Scaling, by_numeral, by_divisor, scaled_all, numeral_plan, begun, with_addend, sum_plan}
use Rattle.term_plans.specs.Planning.{IsWithin, placed_at, placed_plan, DoesTerm}
use Rattle.term_plans.specs.declared.planner.Planner.{Planner}
use Rattle.term_plans.specs.declared.terms.Before.{Before}
use Rattle.term_plans.specs.declared.multiples.Scaling as parsed_scaling
use Rattle.term_plans.specs.declared.multiples.Scaling.TheVariants as scalings

-- the term that a factor multiplies by; of a divisor, any
abbrev pub term_of : Factor → Term
term_of (times t) = t
term_of (divided c) = numeral c

-- the scaling that a factor is, if it is a numeral or a divisor
abbrev pub scaling_in : Factor → Option Scaling
scaling_in (times (numeral c)) = Some (by_numeral c)
scaling_in (times (variable n)) = None
scaling_in (times (product fs)) = None
scaling_in (times (sum ss t)) = None
scaling_in (divided c) = Some (by_divisor c)

abbrev pub scaling_view : parsed_scaling.Scaling → Scaling
scaling_view (scalings.Times c) = by_numeral c
scaling_view (scalings.Over c) = by_divisor c

-- a product without another factor begins with this numeral, which these scale
abbrev pub Begins : List parsed_scaling.Scaling → ℕ → List parsed_scaling.Scaling → Type 0
Begins all c rest = (s : Name) (k : ℕ) → begun s None (map scaling_view all) k ≡ scaled_all s (numeral_plan s c k) (map scaling_view rest)

-- the last term among some factors that is no numeral
abbrev pub other_of : Factors → Option Term
other_of no_factors = None
other_of (factors fs (times (numeral c))) = other_of fs
other_of (factors fs (divided c)) = other_of fs
other_of (factors fs (times (variable n))) = Some (variable n)
other_of (factors fs (times (product gs))) = Some (product gs)
other_of (factors fs (times (sum ss t))) = Some (sum ss t)

-- the index is that of the last factor that is no numeral, and there is none where there is no such factor
abbrev pub IsOther : List parsed.Factor → Option ℕ → Type 0
IsOther fs None = other_of (factors_view fs) ≡ None
IsOther fs (Some i) = (i < length fs) × ((d : parsed.Factor) → other_of (factors_view fs) ≡ Some (term_of (factor_view (slice_index_or fs i d))))

abbrev pub IsSumWithin : List Plan → Option Before → Type 0
IsSumWithin plans None = ⊤
IsSumWithin plans (Some b) = IsWithin plans b.sum.relation

-- a value after what came before it, which is there already
abbrev pub sum_of : Name → List Plan → Option Before → Placed → ℕ → TermPlan
sum_of s plans None p k = placed_plan p k
sum_of s plans (Some b) p k = with_addend s (sign_view b.sign) (placed_plan (placed_at plans b.sum) k) (placed_plan p k)

-- the sum of some addends is there, for what comes after it
abbrev pub IsSumSoFar : Name → Addends → Planner → Planner → Option Before → Type 0
IsSumSoFar s ss old new None = (ss ≡ no_addends) × (new ≡ old)
IsSumSoFar s ss old new (Some b) =
    (p : TermPlan) × DoesTerm old new b.sum p × ((last : ℕ → TermPlan) → sum_plan s ss last old.next ≡ with_addend s (sign_view b.sign) p (last p.next))
