-- Any number of times is at least once, or not at all.
use Rattle.regex_build.specs.Expression.{plus}
use Rattle.regex_build.proofs.FragmentSteps.{star_fragment}
use Rattle.regex_build.proofs.fragment.Fragment.star.Goals as goal

pub returns : goal.returns
returns c n e rows a = star_fragment c.optional.result n e rows (c.optional.ensures n (plus e) rows (c.in_ok-plus.ensures n e rows a))
