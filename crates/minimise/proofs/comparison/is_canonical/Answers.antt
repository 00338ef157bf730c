use Rattle.std.proofs.Common.{ap, sym, subst}
use Rattle.minimise.specs.Canonical.{IsCanonical}
use Rattle.minimise.proofs.SameLemmas.{same_automata}
use Rattle.minimise.proofs.CanonicalLemmas.{canonical_forms}
use Rattle.digit_tuple.specs.Deterministic.{Automaton}
use Rattle.std.proofs.lemmas.Result.{IfOk-from_err}
use Rattle.minimise.proofs.comparison.is_canonical.Goals as goal

pub returns : goal.returns
returns c =
    let d = c.args.d.now in
    let minimal = c.in_ok-minimal.minimal in (
      (λ is. subst IsCanonical (same_automata minimal d c.in_ok-minimal.ensures.sizes (c.have_equal_states.ensures.0 is)) c.in_ok-minimal.ensures.canonical),
      (λ is. c.have_equal_states.ensures.1 (ap (λ (x : Automaton). x.states) (sym (canonical_forms d minimal is c.in_ok-minimal.ensures.canonical (sym c.in_ok-minimal.ensures.sizes) c.in_ok-minimal.ensures.language)))),
    )

pub returns-in_err-minimal : goal.returns-in_err-minimal
returns-in_err-minimal c = IfOk-from_err c.from_residual.result _ c.from_residual.ensures.0
