use Rattle.std.proofs.Common.{◌≡◌, true, Option, None, Some, ◌∙◌, sym, ap}
use Rattle.std.specs.Prelude.{eqb}
use Rattle.std.specs.Option.{option_eq}
use Rattle.std.proofs.lemmas.Bool.{false≢true, eqb-true}
use Rattle.endless.proofs.ZeroLemmas.{keeps_first, kept_first}
use Rattle.adder_check.proofs.keeps_zeros.keeps_first_zeros.Goals as goal

some_zero : (o : Option _) → option_eq eqb o (Some 0) ≡ true → o ≡ Some 0
some_zero None is = absurd (false≢true is)
some_zero (Some x) is = ap Some (eqb-true x 0 is)

pub returns-then-accepting : goal.returns-then-accepting
returns-then-accepting c = (
  (λ t. keeps_first c.args.language.now c.requires.canonical (sym c.accepting.ensures.accepting ∙ c.if-accepting.true, sym c.step.ensures.target ∙ some_zero c.step.result (sym c.eq.ensures ∙ t))),
  (λ keeps. c.eq.ensures ∙ ap (λ o. option_eq eqb o (Some 0)) (c.step.ensures.target ∙ (kept_first c.args.language.now c.requires.canonical keeps).1)),
)
