use Rattle.std.proofs.Common.{◌≡◌, true, ◌∙◌, sym}
use Rattle.pad_rename.specs.ZeroClosure.{flag_at}
use Rattle.pad_rename.proofs.ZeroClosureLemmas.{AreFoundToo-same}
use Rattle.pad_rename.proofs.zero_closure.find_target.Goals as goal

pub returns-in_ok-find-clause-too : goal.returns-in_ok-find-clause-too
returns-in_ok-find-clause-too c =
    AreFoundToo-same c.args.found.now.items c.find.new.found.items (λ q. c.args.transition.target ≡ q) (λ q. (flag_at c.args.letters.now c.args.transition.letter ≡ true) × (c.args.transition.target ≡ q))
    (λ q is. (sym c.is_set.ensures ∙ c.if-is_set.true, is)) (λ q both. both.1) c.in_ok-find.ensures.too
