-- One of the last two.
use Rattle.regex_build.proofs.WaitingSteps.{takes_either, passes_either}
use Rattle.regex_build.proofs.next_places.take_either.Goals as goal

pub returns-in_ok-push : goal.returns-in_ok-push
returns-in_ok-push c rows =
    takes_either c.args.waiting.now.items c.pop_two.new.waiting.items c.push.new.self.items c.in-Some.left c.in-Some.right c.in_ok-either.field-0 rows c.in-Some.ensures c.in_ok-either.ensures c.in_ok-push.ensures.items

pub returns-in_default : goal.returns-in_default
returns-in_default c rows = passes_either c.args.waiting.now.items c.pop_two.new.waiting.items rows c.in_default.ensures.1 c.in_default.ensures.0
