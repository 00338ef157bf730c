-- The plans of formulas.
use Rattle.std.specs.Prelude.{ℕ, ◌+◌, List, [], ◌∷◌, ◌++◌, if◌then◌else◌}
use Rattle.formula_parse.specs.Tokens.{Name, Quantifier, some, every, infinite, less}
use Rattle.formula_parse.specs.Trees.{Names, no_names, names, Joint, Formula, atom, negated, chain, quantified, marked, Operands, no_operands, operands}
use Rattle.term_plans.specs.Tracks.{Track, own, fresh, has_track, without}
use Rattle.term_plans.specs.Plans.{Plan, compared, joined, complement, projected, tracks, Made}
use Rattle.term_plans.specs.TermPlans.{linked}
use Rattle.formula_plan.specs.FactPlans.{Headers, fact_plan}

-- a step after others, which makes this
abbrev pub and_step : Made → Plan → Made
and_step m p = record { steps = m.steps ++ p ∷ []; last = p; next = m.next }

-- what the operands of a chain make, each with the connective after it
pub data MadeOperands : Type 0 where
  none_made : MadeOperands
  made : MadeOperands → Plan → Joint → MadeOperands

-- the products of a chain, from the left, up to the last operand
abbrev pub chained : MadeOperands → Plan → Plan
chained none_made p = p
chained (made os q j) p = joined j (chained os q) p

abbrev pub chaining : MadeOperands → Plan → List Plan
chaining none_made p = []
chaining (made os q j) p = chaining os q ++ joined j (chained os q) p ∷ []

pub record OperandPlans : Type 0 where
  pub steps : List Plan
  pub operands : MadeOperands
  pub next : ℕ

-- of a list of variables those that are tracks, from the last to the first, each left out once it is projected
abbrev pub kept : Names → List Track → List Name
kept no_names ts = []
kept (names ns n) ts = if has_track ts (own n) then n ∷ kept ns (without (own n) ts) else kept ns ts

-- the projections of some variables, one after another
abbrev pub projected_all : List Name → Plan → Plan
projected_all [] p = p
projected_all (n ∷ ns) p = projected_all ns (projected (own n) p)

abbrev pub projecting : List Name → Plan → List Plan
projecting [] p = []
projecting (n ∷ ns) p = projected (own n) p ∷ projecting ns (projected (own n) p)

-- for some numbers: the projections
abbrev pub for_some : List Name → Made → Made
for_some ns m = record { steps = m.steps ++ projecting ns m.last; last = projected_all ns m.last; next = m.next }

-- for all numbers, where there is a variable left: complement, projections, complement
abbrev pub for_every : List Name → Made → Made
for_every [] m = m
for_every (n ∷ ns) m =
    let inside = and_step m (complement m.last) in
    let projected_inside = for_some (n ∷ ns) inside in
    and_step projected_inside (complement projected_inside.last)

-- for some number above a bound, which is on a fresh track
abbrev pub above_bound : Name → Name → Made → Made
above_bound s n m = linked (record { steps = m.steps; last = m.last; next = m.next + 1 }) (own n) (compared s less (fresh m.next) (own n))

-- for infinitely many numbers of a variable in a system: there is no bound above which there is none
abbrev pub for_infinitely : Name → Name → Made → Made
for_infinitely s n m =
    let none_above = and_step (above_bound s n m) (complement (above_bound s n m).last) in
    let bounded = and_step none_above (projected (fresh m.next) none_above.last) in
    and_step bounded (complement bounded.last)

-- for several variables, from the last to the first, each left out where it is no track
abbrev pub for_infinitely_many : (Name → Name) → Names → Made → Made
for_infinitely_many on no_names m = m
for_infinitely_many on (names ns n) m = for_infinitely_many on ns (if has_track (tracks m.last) (own n) then for_infinitely (on n) n m else m)

-- a quantifier with its variables, which are in these systems
abbrev pub quantified_made : Quantifier → (Name → Name) → Names → Made → Made
quantified_made some on ns m = for_some (kept ns (tracks m.last)) m
quantified_made every on ns m = for_every (kept ns (tracks m.last)) m
quantified_made infinite on ns m = for_infinitely_many on ns m

abbrev mutual
  -- the steps of a formula, with fresh tracks from a number on
  pub plan_of : Headers → Formula → ℕ → Made
  plan_of h (atom x) k = fact_plan h x.system x.fact k
  plan_of h (negated f) k = let m = plan_of h f k in and_step m (complement m.last)
  plan_of h (chain os f) k =
      let ps = operand_plans h os k in
      let m = plan_of h f ps.next in
      record { steps = ps.steps ++ (m.steps ++ chaining ps.operands m.last); last = chained ps.operands m.last; next = m.next }
  plan_of h (quantified q ns f) k = quantified_made q (h.of_variable f) ns (plan_of h f k)
  plan_of h (marked ms f) k = plan_of h f k

  -- all operands before the last, in their order
  pub operand_plans : Headers → Operands → ℕ → OperandPlans
  operand_plans h no_operands k = record { steps = []; operands = none_made; next = k }
  operand_plans h (operands os f j) k =
      let ps = operand_plans h os k in
      let m = plan_of h f ps.next in
      record { steps = ps.steps ++ m.steps; operands = made ps.operands m.last j; next = m.next }
