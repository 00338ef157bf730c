-- What a planner does: it adds plans to its list, some of them steps, and takes fresh tracks.
use Rattle.std.specs.Prelude.{◌≡◌, ℕ, ◌<◌, List, [], ◌∷◌, ◌++◌, map, filter, length, Option, None, Some, slice_index_or, ⊤}
use Rattle.std.specs.List.{fold}
use Rattle.formula_parse.specs.Tokens.{Name}
use Rattle.formula_parse.specs.Trees.{and}
use Rattle.term_plans.specs.Tracks.{Track}
use Rattle.term_plans.specs.Plans.{Plan, constant, joined, projected, is_step, Made}
use Rattle.term_plans.specs.TermPlans.{Placed, TermPlan, closed, closing}
use Rattle.term_plans.specs.ArgumentPlans.{Places, no_places, places, closed_all, closing_all, TermPlans}
use Rattle.term_plans.specs.Makings.{track_view, plan_at, plan_by}
use Rattle.term_plans.specs.declared.making.Making.{Making}
use Rattle.term_plans.specs.declared.planner.Planner.{Planner}
use Rattle.term_plans.specs.declared.planner.Placed as found

-- a list grows by plans of which these are the steps
pub record Adds (old new steps : List Plan) : Type 0 where
  pub more : List Plan
  pub grown : new ≡ old ++ more
  pub are_steps : filter is_step more ≡ steps

-- the plan is at the place
pub record IsAt (plans : List Plan) (i : ℕ) (p : Plan) : Type 0 where
  pub within : i < length plans
  pub is : plan_at plans i ≡ p

-- all that is made is added, and what is made at last is at the place
pub record Does (old new : Planner) (place : ℕ) (m : Made) : Type 0 where
  pub adds : Adds old.plans new.plans m.steps
  pub last : IsAt new.plans place m.last
  pub next : new.next ≡ m.next

-- one plan
abbrev pub made_by : Planner → Making → Made
made_by old m = record { steps = filter is_step (plan_by old.plans m ∷ []); last = plan_by old.plans m; next = old.next }

-- two relations joined on a track, which is projected then
abbrev pub linked_at : Plan → Plan → Track → ℕ → Made
linked_at r base t k = record {
  steps = joined and r base ∷ projected t (joined and r base) ∷ [];
  last = projected t (joined and r base);
  next = k;
}

-- where a value is, its relation being in the list
abbrev pub relation_at : List Plan → Option ℕ → Option Plan
relation_at plans None = None
relation_at plans (Some i) = Some (plan_at plans i)

abbrev pub placed_at : List Plan → found.Placed → Placed
placed_at plans p = record { track = track_view p.track; relation = relation_at plans p.relation }

abbrev pub places_at : List Plan → List found.Placed → Places
places_at plans ps = fold places no_places (map (placed_at plans) ps)

abbrev pub IsWithin : List Plan → Option ℕ → Type 0
IsWithin plans None = ⊤
IsWithin plans (Some i) = i < length plans

abbrev pub AreWithin : List Plan → List found.Placed → Type 0
AreWithin plans ps = (i : ℕ) (d : found.Placed) → i < length ps → IsWithin plans (slice_index_or ps i d).relation

-- a base with one value's track closed, and with several
abbrev pub closed_made : ℕ → Placed → Plan → Made
closed_made k p base = record { steps = closing p base; last = closed p base; next = k }

abbrev pub closed_all_made : ℕ → Places → Plan → Made
closed_all_made k ps base = record { steps = closing_all ps base; last = closed_all ps base; next = k }

-- all that a term makes is added, and its value is so
pub record DoesTerm (old new : Planner) (placed : found.Placed) (p : TermPlan) : Type 0 where
  pub adds : Adds old.plans new.plans p.steps
  pub within : IsWithin new.plans placed.relation
  pub placed_is : placed_at new.plans placed ≡ p.placed
  pub next : new.next ≡ p.next

-- a value that is there already
abbrev pub placed_plan : Placed → ℕ → TermPlan
placed_plan p k = record { steps = []; placed = p; next = k }

-- what is made of no other plan: without a step, by a step, and by `const`
abbrev pub base_made : Plan → ℕ → Made
base_made p k = record { steps = []; last = p; next = k }

abbrev pub step_made : Plan → ℕ → Made
step_made p k = record { steps = p ∷ []; last = p; next = k }

abbrev pub constant_made : Name → ℕ → Track → ℕ → Made
constant_made s c t k = record { steps = constant s c t ∷ []; last = constant s c t; next = k }

-- the tracks of values
abbrev pub tracks_in : List found.Placed → List Track
tracks_in ps = map (λ p. track_view p.track) ps

-- all that several terms make is added, and their values are so
pub record DoesTerms (old new : Planner) (placed : List found.Placed) (ps : TermPlans) : Type 0 where
  pub adds : Adds old.plans new.plans ps.steps
  pub within : AreWithin new.plans placed
  pub places_are : places_at new.plans placed ≡ ps.placed
  pub next : new.next ≡ ps.next
