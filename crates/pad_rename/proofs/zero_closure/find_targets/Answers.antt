use Rattle.std.proofs.Common.{get_or, subst}
use Rattle.std.proofs.lemmas.List.{get_or_default}
use Rattle.digit_tuple.specs.declared.transitions.Transition.{Transition}
use Rattle.pad_rename.specs.ZeroClosure.{AreFound}
use Rattle.pad_rename.proofs.ZeroClosureLemmas.{AreFoundToo-transition}
use Rattle.pad_rename.proofs.zero_closure.find_targets.Goals as goal

pub loop-transition-preserved : goal.loop-transition-preserved
loop-transition-preserved c =
    let transitions = c.args.transitions.now in
    let place = c.loop-transition.transition-index in
    let z : Transition = record { letter = 0; target = 0 } in
    let transition : Transition = get_or transitions place z in
    record {
      found = subst (λ n. AreFound n c.find_target.new.flags c.find_target.new.found.items) c.loop-transition.invariant.found.size c.in_ok-find_target.ensures.found;
      too = AreFoundToo-transition c.args.letters.now c.args.found.now.items c.loop-transition.found.items c.find_target.new.found.items transitions place transition c.loop-transition-test.true (get_or_default transitions place transition z c.loop-transition-test.true) c.loop-transition.invariant.too c.in_ok-find_target.ensures.too;
    }
