use Rattle.std.proofs.Common.{◌∙◌, ap, sym, subst}
use Rattle.digit_tuple.specs.Names.{AreJoint, with_names}
use Rattle.digit_tuple.proofs.JointNames.{AreJoint-joint_names}
use Rattle.digit_tuple.proofs.names.joint_names.Goals as goal

pub returns-clause-joint : goal.returns-clause-joint
returns-clause-joint c =
    let all = c.in_ok-insert_names-2.ensures ∙ ap (λ ns. with_names ns c.args.second.now) (c.in_ok-insert_names.ensures ∙ ap (λ ns. with_names ns c.args.first.now) c.new-names.ensures.items) in
    subst (AreJoint c.args.first.now c.args.second.now) (sym all) (AreJoint-joint_names c.args.first.now c.args.second.now)
