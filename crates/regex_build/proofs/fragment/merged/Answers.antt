-- One list comes after the other.
use Rattle.regex_build.proofs.FragmentSteps.{both_appended, both_turned}
use Rattle.regex_build.proofs.fragment.merged.Goals as goal

pub returns-in_ok-append : goal.returns-in_ok-append
returns-in_ok-append g c = both_turned c.append.new.self.items c.args.left.items c.args.right.items c.in_ok-append.ensures.items

pub returns-in_ok-append-2 : goal.returns-in_ok-append-2
returns-in_ok-append-2 g c = both_appended c.append-else-len.new.self.items c.args.left.items c.args.right.items c.in_ok-append-2.ensures.items
