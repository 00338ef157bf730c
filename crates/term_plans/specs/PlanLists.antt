-- Lists of plans that are the plan of a formula.
use Rattle.std.specs.Prelude.{◌≡◌, ℕ, ◌<◌, List, filter, length}
use Rattle.term_plans.specs.Plans.{Plan, is_step, Made}
use Rattle.term_plans.specs.Makings.{plan_at}

-- the steps of the list are those of what is made, in their order, and what is made at last is at the place
pub record IsPlanOf (plans : List Plan) (last : ℕ) (m : Made) : Type 0 where
  pub steps : filter is_step plans ≡ m.steps
  pub within : last < length plans
  pub last_is : plan_at plans last ≡ m.last
