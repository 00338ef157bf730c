use Rattle.std.proofs.Common.{◌≡◌, false, get_or, drop}
use Rattle.std.specs.List.{list_any}
use Rattle.word_walk.proofs.level.leads_on.Given as goal

abbrev pub invariant-loop-transition : goal.invariant-loop-transition
invariant-loop-transition l = list_any (λ e. get_or l.flags e.target false) l.row ≡ list_any (λ e. get_or l.flags e.target false) (drop l.transition-index l.row)
