use Rattle.std.proofs.Common.{sym, subst}
use Rattle.digit_tuple.specs.Deterministic.{Automaton}
use Rattle.minimise.specs.Residuals.{SameLanguage}
use Rattle.adder_check.proofs.ZeroSumLemmas.{zero_law_decided}
use Rattle.adder_check.proofs.zero_sums.keeps_zero_law.Goals as goal

pub returns-clause-law : goal.returns-clause-law
returns-clause-law c = λ direction s test system sums equal.
    let decided = zero_law_decided test direction s c.args.sums.now.automaton c.args.equal.now system sums equal in
    let here = subst (λ (d : Automaton). SameLanguage d c.args.equal.now) c.dfa.ensures.value in
    let back = subst (λ (d : Automaton). SameLanguage d c.args.equal.now) (sym c.dfa.ensures.value) in
    ((λ t. decided.0 (here (c.same.ensures.0 t))), (λ law. c.same.ensures.1 (back (decided.1 law))))
