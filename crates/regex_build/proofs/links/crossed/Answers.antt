-- The crossing is owed, or paid.
use Rattle.std.proofs.Common.{ℕ, sym, subst}
use Rattle.std.specs.Prelude.{Contains, Vec}
use Rattle.std.specs.declared.alloc.Global.{Global}
use Rattle.regex_build.specs.declared.fragment.Crossing.{Crossing}
use Rattle.regex_build.specs.Fragments.{rows_in, AreSettled}
use Rattle.regex_build.proofs.FragmentSteps.{one_crossing}
use Rattle.regex_build.proofs.LinkSteps.{settled_owed, settled_paid}
use Rattle.regex_build.proofs.links.crossed.Goals as goal
use Rattle.regex_build.proofs.links.crossed.Goals.{then-may_owe+in_ok-from_slice+in_ok-from_slice-2+in_ok-push, else-may_owe+in_ok-link}

pub link-requires : goal.link-requires
link-requires c p q h k = c.requires p h

pub returns : goal.returns
returns c =
    let Pair : ℕ → ℕ → Type 0 = λ p q. Contains c.args.lasts.now p × Contains c.args.firsts.now q in
    let P : Vec Crossing Global → Type 0 = λ v. AreSettled Pair c.args.may_owe v.items (rows_in c.args.next.now.items) (rows_in c.if-may_owe.next.items) in
    elim c.if-may_owe.branch [
      | then-may_owe+in_ok-from_slice+in_ok-from_slice-2+in_ok-push w ↦
          let Q : Vec (Vec ℕ Global) Global → Type 0 = λ v. AreSettled Pair c.args.may_owe w.push.new.self.items (rows_in c.args.next.now.items) (rows_in v.items) in
          subst P (sym w.owed-is) (subst Q (sym w.next-is) (settled_owed Pair c.args.may_owe w.push.new.self.items (rows_in c.args.next.now.items) w.if-may_owe.true
          (one_crossing w.push.new.self.items c.new-owed.result.items (record { lasts = w.in_ok-from_slice.field-0; firsts = w.in_ok-from_slice-2.field-0 }) c.args.lasts.now c.args.firsts.now
          c.new-owed.ensures.items w.in_ok-push.ensures.items w.in_ok-from_slice.ensures.items w.in_ok-from_slice-2.ensures.items)))
      | else-may_owe+in_ok-link w ↦
          let Q : Vec (Vec ℕ Global) Global → Type 0 = λ v. AreSettled Pair c.args.may_owe c.new-owed.result.items (rows_in c.args.next.now.items) (rows_in v.items) in
          subst P (sym w.owed-is) (subst Q (sym w.next-is) (settled_paid Pair c.args.may_owe c.new-owed.result.items (rows_in c.args.next.now.items) (rows_in w.link.new.next.items) c.new-owed.ensures.items w.in_ok-link.ensures))
    ]
