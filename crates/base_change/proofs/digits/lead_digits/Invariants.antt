use Rattle.std.proofs.Common.{◌≡◌}
use Rattle.minimise.proofs.LeadLemmas.{lead}
use Rattle.base_change.specs.Digits.{lowest_digits}
use Rattle.base_change.proofs.digits.lead_digits.Given as goal

abbrev pub invariant-loop-left : goal.invariant-loop-left
invariant-loop-left l = lead l.dfa l.from (lowest_digits l.root l.digits l.number) ≡ lead l.dfa l.state (lowest_digits l.root l.left l.rest)

abbrev pub decreases-loop-left : goal.decreases-loop-left
decreases-loop-left l = l.left
