use Rattle.std.proofs.Common.{ap, ◌∙◌}
use Rattle.std.proofs.lemmas.Result.{on_ok_weaker}
use Rattle.digit_tuple.specs.Letters.{product}
use Rattle.class_reversal.proofs.TargetLemmas.{AreKeyTransitions-back}
use Rattle.class_reversal.proofs.backward_classes.BackwardClassesKeyGraph.transitions.Goals as goal

pub returns : goal.returns
returns c =
    on_ok_weaker c.lead_to_parts.result
    (AreKeyTransitions-back c.args.self.now.dfa.now c.args.self.now.targets.now c.args.key.now c.push_classes.new.classes.items c.letters-letters.result c.states.result c.lead_to_parts.new.self
    c.requires.graph.1 c.in_ok-push_classes.ensures (c.letters-letters.ensures.value ∙ ap product c.alphabet.ensures.sizes) c.states.ensures.value)
    c.lead_to_parts.ensures
