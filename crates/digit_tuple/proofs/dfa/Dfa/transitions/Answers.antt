use Rattle.std.proofs.Common.{◌∙◌}
use Rattle.digit_tuple.proofs.KeptLemmas.{kept-transition_count}
use Rattle.digit_tuple.proofs.dfa.Dfa.transitions.Goals as goal

pub returns : goal.returns
returns c = c.transitions.ensures ∙ kept-transition_count c.self.inside.flags.items c.self.inside.table c.args.self.now c.self.invariant.0 c.self.view_is
