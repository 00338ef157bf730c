-- One more, one fewer, or as many.
use Rattle.regex_build.proofs.PostfixSteps.{counts_empty, counts_letter, counts_any, counts_either, counts_follow, counts_other}
use Rattle.regex_build.proofs.postfix.waiting_after.Goals as goal

pub returns-in-Empty-clause-count : goal.returns-in-Empty-clause-count
returns-in-Empty-clause-count c = counts_empty c.args.symbol.now c.args.waiting c.in-Empty.is

pub returns-in-Letter-clause-count : goal.returns-in-Letter-clause-count
returns-in-Letter-clause-count c = counts_letter c.args.symbol.now c.args.waiting c.in-Letter.field-0 c.in-Letter.is

pub returns-in-Any-clause-count : goal.returns-in-Any-clause-count
returns-in-Any-clause-count c = counts_any c.args.symbol.now c.args.waiting c.in-Any.is

pub returns-in-Either-clause-count : goal.returns-in-Either-clause-count
returns-in-Either-clause-count c = counts_either c.args.symbol.now c.args.waiting c.joined.result c.in-Either.is c.joined.ensures.few c.joined.ensures.many

pub returns-in-Follow-clause-count : goal.returns-in-Follow-clause-count
returns-in-Follow-clause-count c = counts_follow c.args.symbol.now c.args.waiting c.joined-in-Follow.result c.in-Follow.is c.joined-in-Follow.ensures.few c.joined-in-Follow.ensures.many

pub returns-in_default-clause-count : goal.returns-in_default-clause-count
returns-in_default-clause-count c = counts_other c.args.symbol.now c.args.waiting c.in_default.not-Empty c.in_default.not-Letter c.in_default.not-Any c.in_default.not-Either c.in_default.not-Follow
