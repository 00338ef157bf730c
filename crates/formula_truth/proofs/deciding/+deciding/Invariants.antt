use Rattle.std.proofs.Common.{◌↔◌, ℕ, ◌<◌, Bool, IsTrue, take}
use Rattle.formula_parse.specs.Views.{operands_view, formula_view, quantifier_view}
use Rattle.formula_truth.specs.Assignments.{with_value}
use Rattle.formula_truth.specs.Truth.{Holds, ChainHolds}
use Rattle.formula_truth.specs.Given.{assigned}
use Rattle.formula_truth.specs.Bounded.{nothing, bounded, bounded_among, each_below, AfterChain}
use Rattle.formula_truth.proofs.TrialLemmas.{Misses}
use Rattle.formula_truth.proofs.deciding.+deciding.Given as goal

abbrev pub decreases-holds : goal.decreases-holds
decreases-holds l = l.levels

abbrev pub decreases-tried : goal.decreases-tried
decreases-tried l = l.levels

abbrev pub invariant-holds-loop-operand : goal.invariant-holds-loop-operand
invariant-holds-loop-operand l =
    (p : Bool) → ChainHolds nothing (bounded_among l.bound (operands_view (take l.operand-index l.operand-items))) (assigned l.given) (IsTrue p) ↔ AfterChain l.prefix (IsTrue p)

abbrev pub invariant-tried-loop-number : goal.invariant-tried-loop-number
invariant-tried-loop-number l =
    (j : ℕ) → j < l.number → Misses l.wanted (Holds nothing (each_below (quantifier_view l.trial.quantifier) l.inside.names.now l.bound (bounded l.bound (formula_view l.trial.formula.now))) (with_value l.name j (assigned l.given)))
