use Rattle.term_plans.proofs.TermsMade.{begins_none, begins_numeral, begins_divisor}
use Rattle.term_plans.proofs.terms.first_numeral.Goals as goal

pub returns-in-Times : goal.returns-in-Times
returns-in-Times c = begins_numeral c.args.scalings.now c.in-Some.rest.now c.in-Some.first.now c.in-Times.number c.in-Some.ensures.cases.0 c.in-Times.is

pub returns-in-Over : goal.returns-in-Over
returns-in-Over c = begins_divisor c.args.scalings.now c.in-Some.rest.now c.in-Some.first.now c.in-Over.field-0 c.in-Some.ensures.cases.0 c.in-Over.is

pub returns-in_default : goal.returns-in_default
returns-in_default c = begins_none c.args.scalings.now c.in_default.ensures.cases
