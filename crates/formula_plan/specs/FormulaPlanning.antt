-- Formulas part by part: the operands of a chain, and quantified variables.
use Rattle.std.specs.Prelude.{◌≡◌, ℕ, ◌<◌, Bool, true, false, List, [], ◌∷◌, map, length, Option, None, Some, slice_index_or, ⊤}
use Rattle.std.specs.List.{fold}
use Rattle.formula_parse.specs.Tokens.{Name}
use Rattle.formula_parse.specs.Trees.{Joint}
use Rattle.formula_parse.specs.Views.{connective_view}
use Rattle.term_plans.specs.Tracks.{own, has_track}
use Rattle.term_plans.specs.Plans.{Plan, joined, projected, tracks, Made}
use Rattle.formula_plan.specs.FormulaPlans.{MadeOperands, none_made, made, chained, chaining, OperandPlans, for_infinitely}
use Rattle.term_plans.specs.Makings.{plan_at}
use Rattle.formula_plan.specs.OwnNames.{has_name}
use Rattle.term_plans.specs.Planning.{Adds, Does}
use Rattle.term_plans.specs.declared.planner.Planner.{Planner}
use Rattle.formula_plan.specs.declared.chains.Prefix.{Prefix}

-- what is at the places of operands
abbrev pub with_made : MadeOperands → (Plan × Joint) → MadeOperands
with_made os o = made os o.0 o.1

abbrev pub operand_at : List Plan → Prefix → Plan × Joint
operand_at plans f = (plan_at plans f.place, connective_view f.connective)

abbrev pub operands_at : List Plan → List Prefix → MadeOperands
operands_at plans fs = fold with_made none_made (map (operand_at plans) fs)

abbrev pub AreOperandsWithin : List Plan → List Prefix → Type 0
AreOperandsWithin plans fs = (i : ℕ) (d : Prefix) → i < length fs → (slice_index_or fs i d).place < length plans

abbrev pub IsPrefixWithin : List Plan → Option Prefix → Type 0
IsPrefixWithin plans None = ⊤
IsPrefixWithin plans (Some f) = f.place < length plans

-- an operand after what came before it
abbrev pub joined_prefix : List Plan → Option Prefix → Plan → ℕ → Made
joined_prefix plans None p k = record { steps = []; last = p; next = k }
joined_prefix plans (Some f) p k = record {
  steps = joined (connective_view f.connective) (plan_at plans f.place) p ∷ [];
  last = joined (connective_view f.connective) (plan_at plans f.place) p;
  next = k;
}

abbrev pub chained_made : ℕ → MadeOperands → Plan → Made
chained_made k os p = record { steps = chaining os p; last = chained os p; next = k }

-- the products of some operands are there, for what comes after them
abbrev pub IsPrefixOf : MadeOperands → Planner → Planner → Option Prefix → Type 0
IsPrefixOf os old new None = (os ≡ none_made) × (new ≡ old)
IsPrefixOf os old new (Some f) =
    (prefix : MadeOperands) × (p : Plan) × (os ≡ made prefix p (connective_view f.connective)) × Does old new f.place (chained_made old.next prefix p)

-- all that operands make is added, and is so
pub record DoesOperands (old new : Planner) (fs : List Prefix) (ps : OperandPlans) : Type 0 where
  pub adds : Adds old.plans new.plans ps.steps
  pub within : AreOperandsWithin new.plans fs
  pub operands_are : operands_at new.plans fs ≡ ps.operands
  pub next : new.next ≡ ps.next

-- the own tracks of a plan are those of these variables
pub record AgreeOn (p : Plan) (ms : List Name) : Type 0 where
  pub agree : (n : Name) → has_track (tracks p) (own n) ≡ has_name ms n

-- a variable projected, where it is to be
abbrev pub projected_where : Bool → Name → Plan → ℕ → Made
projected_where true n p k = record { steps = projected (own n) p ∷ []; last = projected (own n) p; next = k }
projected_where false n p k = record { steps = []; last = p; next = k }

-- infinitely many numbers of a variable, where it is to be
abbrev pub infinitely_if : Bool → Name → Name → Plan → ℕ → Made
infinitely_if true s n p k = for_infinitely s n (record { steps = []; last = p; next = k })
infinitely_if false s n p k = record { steps = []; last = p; next = k }
