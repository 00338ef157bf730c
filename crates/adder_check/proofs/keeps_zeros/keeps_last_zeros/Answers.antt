use Rattle.std.proofs.Common.{◌∙◌, refl, sym, arith}
use Rattle.std.proofs.lemmas.Bool.{false≢true}
use Rattle.endless.proofs.ZeroLemmas.{keeps_last, kept_last}
use Rattle.adder_check.proofs.keeps_zeros.keeps_last_zeros.Goals as goal

pub returns-then-not-ignores_zero : goal.returns-then-not-ignores_zero
returns-then-not-ignores_zero c = (
  (λ t. absurd (false≢true t)),
  (λ keeps. absurd (false≢true (sym c.if-not-ignores_zero.true ∙ c.ignores_zero.ensures.1 (kept_last c.args.language.now c.requires.canonical keeps c.loop-state.state (omega (arith, c.loop-state-test.true, c.states-state-end.ensures.value)))))),
)

pub returns : goal.returns
returns c = (
  (λ t. keeps_last c.args.language.now c.requires.canonical (sym c.accepting.ensures.accepting ∙ c.if-not-accepting.false) (λ q within. c.loop-state.invariant q (omega (arith, c.loop-state-test.false, c.states-state-end.ensures.value, within)))),
  (λ keeps. refl),
)
