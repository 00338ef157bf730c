-- The crossings are owed, or paid.
use Rattle.std.proofs.Common.{List, subst}
use Rattle.regex_build.specs.declared.fragment.Crossing.{Crossing}
use Rattle.regex_build.specs.Fragments.{rows_in, Crosses, AreLinked}
use Rattle.regex_build.proofs.LinkSteps.{settled_owed, settled_paid}
use Rattle.regex_build.proofs.links.settled.Goals as goal

pub returns-then-may_owe : goal.returns-then-may_owe
returns-then-may_owe c = settled_owed (Crosses c.args.owed.items) c.args.may_owe c.args.owed.items (rows_in c.args.next.now.items) c.if-may_owe.true (λ p q. (λ h. h, λ h. h))

pub pay-requires : goal.pay-requires
pay-requires c p q h = let P : List Crossing → Type 0 = λ xs. Crosses xs p q in c.requires p q (subst P c.deref.ensures.value h)

pub returns : goal.returns
returns c =
    let P : List Crossing → Type 0 = λ xs. AreLinked (Crosses xs) (rows_in c.args.next.now.items) (rows_in c.pay.new.next.items) in
    settled_paid (Crosses c.args.owed.items) c.args.may_owe c.new.result.items (rows_in c.args.next.now.items) (rows_in c.pay.new.next.items) c.new.ensures.items (subst P c.deref.ensures.value c.in_ok-pay.ensures)
