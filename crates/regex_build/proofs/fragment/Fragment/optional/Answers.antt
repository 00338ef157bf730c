-- The fragment matches the empty word as well.
use Rattle.std.proofs.Common.{true, refl}
use Rattle.regex_build.proofs.FragmentSteps.{optional_fragment}
use Rattle.regex_build.proofs.fragment.Fragment.optional.Goals as goal

pub returns : goal.returns
returns c =
    optional_fragment c.args.self (record { nullable = true; repeats = c.args.self.repeats; firsts = c.args.self.firsts; lasts = c.args.self.lasts; owed = c.args.self.owed }) refl refl refl refl refl
