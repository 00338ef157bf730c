use Rattle.std.proofs.Common.{◌≡◌, subst}
use Rattle.word_walk.specs.Sources.{LeadsBack}
use Rattle.word_walk.proofs.SourceLemmas.{LeadsBack-reversal}
use Rattle.word_walk.proofs.sources.Sources.reverse.Goals as goal

pub returns-in_ok-reversed : goal.returns-in_ok-reversed
returns-in_ok-reversed c x is =
    let same : c.in_ok-reversed.field-0 ≡ x = cc in
    subst (LeadsBack c.args.d.now) same (LeadsBack-reversal c.args.d.now c.states-states.ensures.table c.in_ok-reversed.field-0 c.in_ok-reversed.ensures.reversal)
