-- The second list is wanted.
use Rattle.regex_build.proofs.FragmentSteps.{both_wanted}
use Rattle.regex_build.proofs.fragment.merged_if.Goals as goal

pub returns-then-wanted : goal.returns-then-wanted
returns-then-wanted g c = both_wanted c.merged.result c.args.wanted c.args.left.items c.args.right.items c.if-wanted.true c.merged.ensures
