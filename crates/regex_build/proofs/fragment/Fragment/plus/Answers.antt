-- All that is owed is one crossing.
use Rattle.std.proofs.Common.{true, refl, ◌∙◌}
use Rattle.regex_build.proofs.FragmentSteps.{plus_fragment, plus_again, one_crossing}
use Rattle.regex_build.proofs.fragment.Fragment.plus.Goals as goal

pub returns-then-self : goal.returns-then-self
returns-then-self c = plus_again c.args.self c.if-self.true

pub returns : goal.returns
returns c =
    plus_fragment c.args.self (record { nullable = c.args.self.nullable; repeats = true; firsts = c.args.self.firsts; lasts = c.args.self.lasts; owed = c.push.new.self }) refl refl refl
    (one_crossing c.push.new.self.items c.new-owed.result.items (record { lasts = c.in_ok-from_slice.field-0; firsts = c.in_ok-from_slice-2.field-0 }) c.args.self.lasts.items c.args.self.firsts.items
    c.new-owed.ensures.items c.in_ok-push.ensures.items (c.in_ok-from_slice.ensures.items ∙ c.deref.ensures.value) (c.in_ok-from_slice-2.ensures.items ∙ c.deref-2.ensures.value))
