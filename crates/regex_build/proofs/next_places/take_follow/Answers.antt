-- The last two, one after the other.
use Rattle.std.proofs.Common.{ℕ, refl, subst, sym, ◌∙◌}
use Rattle.regex_build.specs.Fragments.{rows_in, HasRows}
use Rattle.regex_build.proofs.LinkSteps.{length-rows_in}
use Rattle.regex_build.proofs.WaitingSteps.{takes_follow, passes_follow, rows_of_two}
use Rattle.regex_build.proofs.next_places.take_follow.Goals as goal

pub follow-requires : goal.follow-requires
follow-requires c =
    let two = rows_of_two c.args.waiting.now.items c.pop_two.new.waiting.items c.in-Some.left c.in-Some.right (rows_in c.args.next.now.items) c.in-Some.ensures c.requires in
    let P : ℕ → Type 0 = λ n. HasRows n c.in-Some.left in
    let Q : ℕ → Type 0 = λ n. HasRows n c.in-Some.right in
    record { left = subst P (length-rows_in c.args.next.now.items) two.0; right = subst Q (length-rows_in c.args.next.now.items) two.1 }

pub returns-in_ok-push-clause-count : goal.returns-in_ok-push-clause-count
returns-in_ok-push-clause-count c =
    sym (length-rows_in c.follow.new.next.items) ∙ (c.in_ok-follow.ensures.count ∙ length-rows_in c.args.next.now.items)

pub returns-in_ok-push-clause-waits : goal.returns-in_ok-push-clause-waits
returns-in_ok-push-clause-waits c =
    takes_follow c.args.waiting.now.items c.pop_two.new.waiting.items c.push.new.self.items c.in-Some.left c.in-Some.right c.in_ok-follow.field-0 (rows_in c.args.next.now.items) (rows_in c.follow.new.next.items)
    c.in-Some.ensures c.in_ok-follow.ensures c.in_ok-push.ensures.items

pub returns-in_default-clause-waits : goal.returns-in_default-clause-waits
returns-in_default-clause-waits c =
    passes_follow c.args.waiting.now.items c.pop_two.new.waiting.items (rows_in c.args.next.now.items) (rows_in c.args.next.now.items) c.in_default.ensures.1 c.in_default.ensures.0 refl
