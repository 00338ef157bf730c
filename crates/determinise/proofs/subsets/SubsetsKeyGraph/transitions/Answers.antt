use Rattle.std.proofs.Common.{List, subst}
use Rattle.std.proofs.lemmas.Result.{on_ok_weaker}
use Rattle.digit_tuple.specs.declared.transitions.Transition.{Transition}
use Rattle.digit_tuple.specs.Groups.{AreGroups}
use Rattle.determinise.proofs.SubsetLemmas.{AreKeyTransitions-groups, AreKeyTransitions-one}
use Rattle.determinise.proofs.subsets.SubsetsKeyGraph.transitions.Goals as goal

pub returns-then-key-eq1 : goal.returns-then-key-eq1
returns-then-key-eq1 c =
    on_ok_weaker c.group_into.result
    (AreKeyTransitions-one c.args.self.now.nfa.now c.requires.graph.0 c.args.key.now c.transitions.result.now c.group_into.new.out c.if-key-eq1.true c.transitions.ensures.transitions c.transitions.ensures.row.ascending)
    c.group_into.ensures

pub returns : goal.returns
returns c =
    on_ok_weaker c.group_into-2.result
    (λ groups. AreKeyTransitions-groups c.args.self.now.nfa.now c.requires.graph.0 c.args.key.now c.in_ok-transitions.transitions.items c.in_ok-transitions.ensures.ascending c.in_ok-transitions.ensures.members c.group_into-2.new.out
    (subst (λ (es : List Transition). AreGroups es c.group_into-2.new.out) c.deref.ensures.value groups))
    c.group_into-2.ensures
