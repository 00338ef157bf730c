use Rattle.std.proofs.Common.{Ok, Err}
use Rattle.std.proofs.lemmas.List.Sorted.{searched}
use Rattle.digit_tuple.proofs.DecisionReads.{rising, not_found}
use Rattle.digit_tuple.proofs.decisions.index_of.Goals as goal

pub returns-in-Ok-clause-found : goal.returns-in-Ok-clause-found
returns-in-Ok-clause-found c =
    let found = searched c.args.digits.now c.args.digit (Ok c.in-Ok.index) c.in-Ok.ensures.position (rising c.args.digits.now c.requires) in
    (found.0, found.1)

pub returns-in-Err-clause-none : goal.returns-in-Err-clause-none
returns-in-Err-clause-none c =
    let parted = searched c.args.digits.now c.args.digit (Err c.in-Err.field-0) c.in-Err.ensures.position (rising c.args.digits.now c.requires) in
    not_found c.args.digits.now c.args.digit c.in-Err.field-0 parted.1 parted.2
