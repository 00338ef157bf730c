-- One more place, after all others.
use Rattle.std.proofs.Common.{◌≡◌, length, ◌∙◌, sym, arith}
use Rattle.regex_build.specs.Fragments.{rows_in}
use Rattle.regex_build.proofs.FinishSteps.{rows_in-push}
use Rattle.regex_build.proofs.LinkSteps.{length-rows_in}
use Rattle.regex_build.proofs.WaitingSteps.{takes_occurrence}
use Rattle.regex_build.proofs.next_places.take_letter.Goals as goal

pub returns-clause-waits : goal.returns-clause-waits
returns-clause-waits c =
    let place : c.len-place.result ≡ length c.args.next.now.items = omega (arith, c.len-place.ensures) in
    takes_occurrence c.args.waiting.now.items c.push-2.new.self.items c.in_ok-letter.field-0 (rows_in c.args.next.now.items) (rows_in c.push.new.self.items) c.len-place.result
    (place ∙ sym (length-rows_in c.args.next.now.items)) c.in_ok-letter.ensures (rows_in-push c.args.next.now.items c.push.new.self.items c.new.result c.new.ensures.items c.in_ok-push.ensures.items) c.in_ok-push-2.ensures.items
