use Rattle.std.proofs.Common.{◌≡◌, ◌++◌, ℕ, List, sym, ◌∙◌, subst}
use Rattle.std.specs.List.{All, Contains}
use Rattle.digit_tuple.specs.Names.{AreJoint}
use Rattle.plan_relations.proofs.PairRelationLemmas.{joint_among}
use Rattle.plan_relations.proofs.word_making.pair_systems.Goals as goal

pub systems_for-requires-clause-there : goal.systems_for-requires-clause-there
systems_for-requires-clause-there c =
    let first = c.in_ok-under.under.items in
    let second = c.in_ok-others.others.items in
    let names = c.in_ok-names.names.items in
    let joint : AreJoint first second names =
    subst (λ (ns : List (List ℕ)). AreJoint ns second names) c.deref.ensures.value
    (subst (λ (ns : List (List ℕ)). AreJoint c.deref.result.now ns names) c.deref-2.ensures.value c.in_ok-names.ensures.joint) in
    let all : c.deref-4.result.now ≡ first ++ second = c.deref-4.ensures.value ∙ c.in_ok-append.ensures.items in
    subst (λ (ns : List (List ℕ)). All (Contains ns) c.deref-5.result.now) (sym all)
    (subst (λ (ns : List (List ℕ)). All (Contains (first ++ second)) ns) (sym c.deref-5.ensures.value) (joint_among first second names joint))
