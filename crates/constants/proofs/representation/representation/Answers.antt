use Rattle.std.proofs.Common.{length, rules}
use Rattle.constants.proofs.PlaceLemmas.{system-rep, system-longer}
use Rattle.constants.proofs.representation.representation.Goals as goal

pub returns-in_err-rows-clause-states : goal.returns-in_err-rows-clause-states
returns-in_err-rows-clause-states c refused s laws language = system-longer s c.args.direction c.args.language.now c.args.number c.args.longest laws language (c.rows_past.ensures.states (search rules))

pub returns-clause-word : goal.returns-clause-word
returns-clause-word c s laws language =
    system-rep s c.args.direction c.args.language.now c.args.number (length c.in_ok-rows.rows.items) c.in_ok-word_at.field-0.items laws language c.in_ok-word_at.ensures c.in_ok-rows.ensures.least
