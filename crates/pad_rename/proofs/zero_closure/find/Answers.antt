use Rattle.pad_rename.proofs.ZeroClosureLemmas.{AreFound-push, AreFoundToo-push}
use Rattle.pad_rename.proofs.zero_closure.find.Goals as goal

pub returns-in_ok-push-clause-found : goal.returns-in_ok-push-clause-found
returns-in_ok-push-clause-found c =
    AreFound-push c.args.flags.now c.args.found.now.items c.push.new.self.items c.args.state c.requires.state c.if-not-flags-state.true c.in_ok-push.ensures.items c.requires.found

pub returns-in_ok-push-clause-too : goal.returns-in_ok-push-clause-too
returns-in_ok-push-clause-too c = AreFoundToo-push c.args.found.now.items c.push.new.self.items c.args.state c.in_ok-push.ensures.items
