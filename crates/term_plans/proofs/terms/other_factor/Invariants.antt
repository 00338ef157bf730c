use Rattle.term_plans.proofs.TermsMade.{IsOtherSoFar}
use Rattle.term_plans.proofs.terms.other_factor.Given as goal

abbrev pub invariant-loop-i : goal.invariant-loop-i
invariant-loop-i l = IsOtherSoFar l.factors l.i l.other
