use Rattle.term_plans.proofs.TermsMade.{begun_answers}
use Rattle.term_plans.proofs.terms.numeral_product.Goals as goal

pub returns : goal.returns
returns c =
    begun_answers c.scaled_by_all.result c.args.planner.now c.numeral.new.planner c.scaled_by_all.new.planner c.in_ok-value.value c.args.system.now c.args.scalings.now c.first_numeral-first.result.1.now c.first_numeral-first.result.0
    c.first_numeral-first.ensures c.in_ok-value.ensures c.scaled_by_all.ensures
