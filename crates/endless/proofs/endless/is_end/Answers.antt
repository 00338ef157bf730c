use Rattle.std.proofs.Common.{◌≡◌, ℕ, true, Option, None, Some, refl, ◌∙◌, sym, ap, eq-eqb}
use Rattle.std.specs.Prelude.{eqb}
use Rattle.std.specs.Option.{option_eq}
use Rattle.std.proofs.lemmas.Bool.{false≢true, eqb-true}
use Rattle.endless.proofs.EndRows.{end_from_one, one_from_end}
use Rattle.endless.proofs.endless.is_end.Goals as goal

some_same : (o : Option ℕ) (q : ℕ) → option_eq eqb o (Some q) ≡ true → o ≡ Some q
some_same None q is = absurd (false≢true is)
some_same (Some x) q is = ap Some (eqb-true x q is)

pub returns-then-len-ne1 : goal.returns-then-len-ne1
returns-then-len-ne1 c = (
  (λ t. absurd (false≢true t)),
  (λ end. absurd (c.if-len-ne1.true (c.len.ensures ∙ c.transitions_into.new.row.ok.0 ∙ one_from_end c.args.language.now c.args.state c.in_ok-transitions_into.ensures.table c.requires.within end c.transitions_into.new.row.items c.in_ok-transitions_into.ensures.transitions))),
)

pub returns : goal.returns
returns c = (
  (λ t. end_from_one c.args.language.now c.args.state c.transitions_into.new.row.items c.in_ok-transitions_into.ensures.transitions (sym c.transitions_into.new.row.ok.0 ∙ sym c.len.ensures ∙ c.if-len-ne1.false)
      (sym c.accepting.ensures.accepting ∙ c.if-not-accepting.false) (sym c.step.ensures.target ∙ some_same c.step.result c.args.state (sym c.eq.ensures ∙ t))),
  (λ end. c.eq.ensures ∙ ap (λ o. option_eq eqb o (Some c.args.state)) (c.step.ensures.target ∙ end.loop) ∙ eq-eqb c.args.state c.args.state refl),
)
