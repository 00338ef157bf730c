-- The last is taken off, and its sign is put on.
use Rattle.regex_build.proofs.WaitingSteps.{takes_optional, passes_optional, popped, empty_items}
use Rattle.regex_build.proofs.next_places.take_optional.Goals as goal

pub returns-in_ok-push : goal.returns-in_ok-push
returns-in_ok-push c rows =
    takes_optional c.args.waiting.now.items c.pop.new.self.items c.push.new.self.items c.in-Some.fragment c.optional.result rows
    (popped c.args.waiting.now.items c.pop.new.self.items c.pop.result c.in-Some.fragment c.pop.ensures.items c.in-Some.is) c.optional.ensures c.in_ok-push.ensures.items

pub returns-in_default : goal.returns-in_default
returns-in_default c rows =
    passes_optional c.args.waiting.now.items c.pop.new.self.items rows (empty_items c.args.waiting.now c.in_default.ensures.cases.0) (empty_items c.pop.new.self c.in_default.ensures.cases.1)
