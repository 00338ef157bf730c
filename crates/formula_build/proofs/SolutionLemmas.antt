-- What is made of the plan of a resolved formula is its solution.
use Rattle.std.proofs.Common.{ℕ, ◌≤◌, ◌^◌, List, [], map, sym, subst}
use Rattle.std.specs.List.{AllPairs, filter}
use Rattle.digit_tuple.specs.Names.{IsBytesBefore, joint_names}
use Rattle.digit_tuple.proofs.JointNames.{AreJoint-joint_names}
use Rattle.formula_parse.specs.Trees.{Formula}
use Rattle.formula_resolve.specs.Headers.{Headers}
use Rattle.formula_resolve.specs.Occurrences.{all_occurrences}
use Rattle.term_plans.specs.Plans.{Plan, is_step}
use Rattle.term_plans.specs.Makings.{plan_at}
use Rattle.term_plans.specs.PlanLists.{IsPlanOf}
use Rattle.number_relations.specs.Relations.{RelationValue, RelationHolds}
use Rattle.num_system.specs.Tracks.{systems_under}
use Rattle.number_relations.specs.Placed.{IsOrdered}
use Rattle.number_relations.proofs.NamedSteps.{own_named}
use Rattle.formula_build.specs.KnownNames.{AreKnownIn}
use Rattle.plan_relations.specs.Libraries.{LibraryValue, IsLibrary}
use Rattle.plan_relations.specs.Makings.{Makes, IsReady}
use Rattle.plan_relations.specs.Parts.{AreParts}
use Rattle.formula_build.specs.Resolved.{AreDirections, plan_headers, systems_of}
use Rattle.formula_build.specs.Solutions.{IsFormed, IsResolved, IsSolution, formula_plan, direction_named}
use Rattle.plan_relations.specs.TrackNames.{AreNamed}
use Rattle.formula_build.specs.TrackSystems.{Fits, IsKnown, IsOver}
use Rattle.formula_build.proofs.FormulaLemmas.{formulas_hold}
use Rattle.formula_build.proofs.FormulaOverLemmas.{over_plans}
use Rattle.formula_build.proofs.KnownLemmas.{known_plans}
use Rattle.formula_build.proofs.NamedLemmas.{named_plans}
use Rattle.formula_build.proofs.PartLemmas.{steps_are_parts}
use Rattle.formula_build.proofs.TrackSystemLemmas.{over_ready}

-- the steps in a list are parts of the last plan
pub listed_parts : (plans : List Plan) (last : ℕ) (h : Headers) (f : Formula) → IsPlanOf plans last (formula_plan h f) → AreParts (filter is_step plans) (plan_at plans last)
listed_parts plans last h f is =
    subst (λ (ps : List Plan). AreParts ps (plan_at plans last)) (sym is.steps)
    (subst (AreParts (formula_plan h f).steps) (sym is.last_is) (steps_are_parts (plan_headers h) f 0))

module _ (l : LibraryValue) (h : Headers) (f : Formula) (library : IsLibrary l) (formed : IsFormed f) (directions : AreDirections h direction_named) (resolved : IsResolved h f) (few : (formula_plan h f).next ≤ 2 ^ 64)
    (fits : Fits l (plan_headers h) direction_named) (known : AreKnownIn l f) where
  pub named : AreNamed (formula_plan h f).last
  named = named_plans (plan_headers h) f 0 formed.1 few

  pub known_plan : IsKnown l (formula_plan h f).last
  known_plan = known_plans l h direction_named fits f 0 resolved.arity known

  pub over : IsOver (plan_headers h) direction_named (systems_of (all_occurrences h f)) (formula_plan h f).last
  over = over_plans h direction_named directions f 0 resolved.arity resolved.clash resolved.conflict

  -- the plan can be made
  pub plan_ready : IsReady l (formula_plan h f).last
  plan_ready =
      over_ready l (plan_headers h) direction_named fits library (formula_plan h f).last (systems_of (all_occurrences h f)) named known_plan over

  -- and what it makes is the solution, once its tracks are in order
  pub made_solution : (c r : RelationValue) → Makes l (formula_plan h f).last c → IsOrdered c r → IsSolution l f r
  made_solution c r makes is = record {
    relation = is.relation;
    ordered = subst (AllPairs IsBytesBefore) (sym is.names_are) (AreJoint-joint_names c.names []).ordered;
    holds = λ number_of.
        let own = own_named (joint_names c.names []) (systems_under c.names c.systems (joint_names c.names [])) (λ (g : List ℕ → ℕ). RelationHolds c (map g c.names)) r is number_of in
        let truth = formulas_hold l (plan_headers h) f 0 c library formed.0 named plan_ready makes number_of in
        (λ x. truth.0 (own.0 x), λ x. own.1 (truth.1 x));
  }
