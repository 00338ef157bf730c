use Rattle.std.proofs.Common.{sym, ◌∙◌}
use Rattle.digit_tuple.proofs.KeyTransitionLemmas.{first_numbered}
use Rattle.digit_tuple.proofs.exploration.first_keys.Goals as goal

pub returns : goal.returns
returns g c = sym (first_numbered c.new-keys.result c.number_of.new.self c.deref.result.now (g.G.KeyGraph.start c.args.graph.now) c.in_ok-number_of.field-0 c.new-keys.ensures (c.deref.ensures.value ∙ c.in_ok-first_key.ensures) c.in_ok-number_of.ensures.number)
