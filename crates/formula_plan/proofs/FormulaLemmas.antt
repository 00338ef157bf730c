-- What the plan of a formula means is that the formula is true.
use Rattle.std.proofs.Common.{ℕ}
use Rattle.formula_parse.specs.Tokens.{some, every, infinite}
use Rattle.formula_parse.specs.Trees.{Formula, atom, negated, chain, quantified, marked, Operands, no_operands, operands}
use Rattle.formula_truth.specs.Assignments.{Assignment}
use Rattle.formula_truth.specs.Truth.{Meanings, Holds, ChainHolds}
use Rattle.formula_truth.specs.Tests.{tested}
use Rattle.formula_truth.proofs.MeaningLemmas.{joined_same}
use Rattle.term_plans.specs.Tracks.{of_variables}
use Rattle.term_plans.specs.Plans.{Plan, tracks}
use Rattle.formula_plan.specs.FactPlans.{Headers}
use Rattle.formula_plan.specs.FormulaPlans.{chained, kept, plan_of, operand_plans}
use Rattle.term_plans.specs.Means.{Means, AreDecided}
use Rattle.term_plans.specs.Linear.{IsLinearFormula, AreLinearOperands}
use Rattle.formula_plan.specs.Laws.{PlansMean}
use Rattle.formula_plan.proofs.FactLemmas.{fact_is}
use Rattle.formula_plan.proofs.QuantifierLemmas.{Says, some_says, every_says, infinitely_says, inner}

mutual
  pub formula_says : (f : Formula) (m : Meanings) (h : Headers) (k : ℕ) → IsLinearFormula f → AreDecided m (plan_of h f k).last → Says m (plan_of h f k).last (Holds m f)
  formula_says (atom x) m h k linear decided = λ a. fact_is m h x.system x.fact k linear a
  formula_says (negated f) m h k linear decided = λ a.
      let says = formula_says f m h k linear decided.1 a in
      (λ denied held. denied (says.1 held), λ denied held. denied (says.0 held))
  formula_says (chain os f) m h k linear decided =
      let next = (operand_plans h os k).next in
      chain_says os m h k linear.0 (plan_of h f next).last (Holds m f) decided (λ d. formula_says f m h next linear.1 d)
  formula_says (quantified some ns f) m h k linear decided =
      let made = plan_of h f k in
      some_says ns m made.last (Holds m f) (formula_says f m h k linear (inner (kept ns (tracks made.last)) m made.last decided))
  formula_says (quantified every ns f) m h k linear decided = every_says ns m (plan_of h f k) (Holds m f) decided (λ d. formula_says f m h k linear d)
  formula_says (quantified infinite ns f) m h k linear decided = infinitely_says ns (h.of_variable f) m (plan_of h f k) (Holds m f) decided (λ d. formula_says f m h k linear d)
  formula_says (marked ms f) m h k linear decided = formula_says f m h k linear decided

  chain_says : (os : Operands) (m : Meanings) (h : Headers) (k : ℕ) → AreLinearOperands os → (p : Plan) (P : Assignment → Type 0)
      → AreDecided m (chained (operand_plans h os k).operands p) → (AreDecided m p → Says m p P)
      → Says m (chained (operand_plans h os k).operands p) (λ b. ChainHolds m os b (P b))
  chain_says no_operands m h k linear p P decided says = says decided
  chain_says (operands os f j) m h k linear p P decided says = λ a.
      let ps = operand_plans h os k in
      let q = (plan_of h f ps.next).last in
      let prefix = chain_says os m h k linear.0 q (Holds m f) decided.1 (λ d. formula_says f m h ps.next linear.1 d) a in
      let last = says decided.2 a in (
        joined_same j (Means m (chained ps.operands q) a) (Means m p a) (ChainHolds m os (of_variables a) (Holds m f (of_variables a))) (P (of_variables a)) prefix.0 prefix.1 last.0 last.1,
        joined_same j (ChainHolds m os (of_variables a) (Holds m f (of_variables a))) (P (of_variables a)) (Means m (chained ps.operands q) a) (Means m p a) prefix.1 prefix.0 last.1 last.0,
      )

pub plans_mean : PlansMean
plans_mean t h f k linear decided a = formula_says f (tested t) h k linear decided a
