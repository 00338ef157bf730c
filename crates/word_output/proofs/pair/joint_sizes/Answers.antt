use Rattle.std.proofs.Common.{◌⊎◌, ℕ, List, sym, subst}
use Rattle.std.specs.List.{Contains}
use Rattle.word_output.proofs.pair.joint_sizes.Goals as goal

pub joint_size-requires-clause-there : goal.joint_size-requires-clause-there
joint_size-requires-clause-there c =
    let first = c.args.first.under.now in
    let second = c.args.second.under.now in
    subst (λ (n : List ℕ). Contains first n ⊎ Contains second n) (sym c.name-item.is) (c.requires.there c.loop-name.name-index c.name-item.result c.loop-name-test.true)
