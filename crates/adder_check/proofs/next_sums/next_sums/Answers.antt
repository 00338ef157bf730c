use Rattle.std.proofs.Common.{inl, inr, refl}
use Rattle.std.proofs.lemmas.Result.{err_from_is_err_and}
use Rattle.adder_check.proofs.NextSumLemmas.{compared, successor_law_decided}
use Rattle.adder_check.proofs.HandedOn.{handed_on}
use Rattle.adder_check.proofs.next_sums.next_sums.Goals as goal

pub returns-in_err-of_sums-clause-steps : goal.returns-in_err-of_sums-clause-steps
returns-in_err-of_sums-clause-steps c =
    inl (
      c.in_ok-with_next.with_next,
      c.sums_with_next.new.steps,
      c.in_ok-with_next.ensures.steps,
      inr (c.in_err-of_sums.field-0.0, c.in_err-of_sums.ensures.steps, (handed_on _ c.from_residual-in_err-of_sums.result c.from_residual-in_err-of_sums.ensures.1)),
    )

pub returns-clause-steps : goal.returns-clause-steps
returns-clause-steps c =
    inl (
      c.in_ok-with_next.with_next,
      c.sums_with_next.new.steps,
      c.in_ok-with_next.ensures.steps,
      inl (
        c.in_ok-of_sums.of_sums,
        c.next_of_sums.new.steps,
        c.in_ok-of_sums.ensures.steps,
        (compared c.same.result c.dfa.result.now c.dfa-2.result.now c.in_ok-with_next.with_next.automaton c.in_ok-of_sums.of_sums.automaton c.dfa.ensures.value c.dfa-2.ensures.value c.same.ensures, refl),
      ),
    )

pub returns-clause-law : goal.returns-clause-law
returns-clause-law c = λ s test system adds follows.
    let decided =
    successor_law_decided test c.args.direction s c.in_ok-with_next.with_next.automaton c.in_ok-of_sums.of_sums.automaton system (c.in_ok-with_next.ensures.sums s test system adds follows) (c.in_ok-of_sums.ensures.sums s test system adds follows) in
    let same = compared c.same.result c.dfa.result.now c.dfa-2.result.now c.in_ok-with_next.with_next.automaton c.in_ok-of_sums.of_sums.automaton c.dfa.ensures.value c.dfa-2.ensures.value c.same.ensures in
    ((λ t. decided.0 (same.0 t)), (λ law. same.1 (decided.1 law)))

pub returns-in_err-with_next-clause-steps : goal.returns-in_err-with_next-clause-steps
returns-in_err-with_next-clause-steps c = inr (c.in_err-with_next.field-0.0, c.in_err-with_next.ensures.steps, (handed_on _ c.from_residual.result c.from_residual.ensures.1))

pub returns-in_err-with_next-clause-law : goal.returns-in_err-with_next-clause-law
returns-in_err-with_next-clause-law c = let p = err_from_is_err_and c.from_residual.result c.from_residual.ensures.1 in rw p.1 tt

pub returns-in_err-of_sums-clause-law : goal.returns-in_err-of_sums-clause-law
returns-in_err-of_sums-clause-law c = let p = err_from_is_err_and c.from_residual-in_err-of_sums.result c.from_residual-in_err-of_sums.ensures.1 in rw p.1 tt
