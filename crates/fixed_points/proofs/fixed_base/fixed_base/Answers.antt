use Rattle.std.proofs.Common.{refl, sym, ◌∙◌}
use Rattle.std.proofs.lemmas.Bool.{false≢true}
use Rattle.fixed_points.proofs.LeastLemmas.{closed_from_none}
use Rattle.fixed_points.proofs.fixed_base.fixed_base.Goals as goal

pub returns-then-not-begins_itself-clause-kind : goal.returns-then-not-begins_itself-clause-kind
returns-then-not-begins_itself-clause-kind c = record {
  zero_is = refl;
  k = c.in_ok-base.base;
  base = c.in_ok-base.ensures.length.allowed;
  uniform = c.in_ok-base.ensures.length.uniform;
  closed = closed_from_none c.args.morphism.now c.in_default.ensures;
  begins_not = λ begins. false≢true (sym c.if-not-begins_itself.true ∙ c.begins_itself.ensures.1 begins);
}

pub returns-clause-base : goal.returns-clause-base
returns-clause-base c = record {
  base = c.in_ok-base.ensures.length.allowed;
  uniform = c.in_ok-base.ensures.length.uniform;
  closed = closed_from_none c.args.morphism.now c.in_default.ensures;
  begins = c.begins_itself.ensures.0 c.if-not-begins_itself.false;
}
