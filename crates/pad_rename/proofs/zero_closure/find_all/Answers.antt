use Rattle.std.proofs.Common.{refl, get_or, subst}
use Rattle.pad_rename.specs.ZeroClosure.{AreFound}
use Rattle.pad_rename.proofs.ZeroClosureLemmas.{AreFoundToo-state}
use Rattle.pad_rename.proofs.zero_closure.find_all.Goals as goal

pub loop-state-preserved : goal.loop-state-preserved
loop-state-preserved c =
    let states = c.args.states.now in
    let place = c.loop-state.state-index in
    record {
      found = subst (λ n. AreFound n c.find.new.flags c.find.new.found.items) c.loop-state.invariant.found.size c.in_ok-find.ensures.found;
      too = AreFoundToo-state c.args.found.now.items c.loop-state.found.items c.find.new.found.items states place (get_or states place 0) c.loop-state-test.true refl c.loop-state.invariant.too c.in_ok-find.ensures.too;
    }
