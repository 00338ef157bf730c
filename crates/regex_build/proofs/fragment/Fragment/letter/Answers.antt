-- The fragment of one place.
use Rattle.std.proofs.Common.{false, refl}
use Rattle.regex_build.proofs.FragmentSteps.{place_fragment}
use Rattle.regex_build.proofs.fragment.Fragment.letter.Goals as goal

pub returns : goal.returns
returns c =
    place_fragment c.args.place (record { nullable = false; repeats = false; firsts = c.in_ok-one.field-0; lasts = c.in_ok-one-2.field-0; owed = c.new.result }) refl refl c.in_ok-one.ensures c.in_ok-one-2.ensures c.new.ensures.items
