-- Each symbol in turn.
use Rattle.std.proofs.Common.{inl, inr, sym, subst}
use Rattle.regex_build.specs.declared.postfix_symbol.PostfixSymbol.{PostfixSymbol}
use Rattle.regex_build.specs.Fragments.{rows_in}
use Rattle.regex_build.specs.Waiting.{Takes}
use Rattle.regex_build.proofs.WaitingSteps.{takes_empty, occurrence_is_letter, occurrence_is_any}
use Rattle.regex_build.proofs.next_places.take.Goals as goal

pub take_follow-requires : goal.take_follow-requires
take_follow-requires c = c.requires.waits

pub returns-in_ok-push-in-Empty-clause-waits : goal.returns-in_ok-push-in-Empty-clause-waits
returns-in_ok-push-in-Empty-clause-waits c =
    let P : PostfixSymbol → Type 0 = λ s. Takes c.args.waiting.now.items (rows_in c.args.next.now.items) s c.push.new.self.items (rows_in c.args.next.now.items) in
    subst P (sym c.in-Empty.is) (takes_empty c.args.waiting.now.items c.push.new.self.items c.empty.result (rows_in c.args.next.now.items) c.empty.ensures c.in_ok-push-in-Empty.ensures.items)

pub returns-in_ok-take_letter-in-Letter-clause-waits : goal.returns-in_ok-take_letter-in-Letter-clause-waits
returns-in_ok-take_letter-in-Letter-clause-waits c =
    let adds = c.in_ok-take_letter-in-Letter.ensures.waits in
    let P : PostfixSymbol → Type 0 = λ s. Takes c.args.waiting.now.items (rows_in c.args.next.now.items) s c.take_letter.new.waiting.items (rows_in c.take_letter.new.next.items) in
    elim c.in-Letter.is [
      | inl h ↦ subst P (sym h.1) (occurrence_is_letter h.0 c.args.waiting.now.items c.take_letter.new.waiting.items (rows_in c.args.next.now.items) (rows_in c.take_letter.new.next.items) adds)
      | inr h ↦ subst P (sym h) (occurrence_is_any c.args.waiting.now.items c.take_letter.new.waiting.items (rows_in c.args.next.now.items) (rows_in c.take_letter.new.next.items) adds)
    ]

pub returns-in_ok-take_star-in-Star-clause-waits : goal.returns-in_ok-take_star-in-Star-clause-waits
returns-in_ok-take_star-in-Star-clause-waits c =
    let P : PostfixSymbol → Type 0 = λ s. Takes c.args.waiting.now.items (rows_in c.args.next.now.items) s c.take_star.new.waiting.items (rows_in c.args.next.now.items) in
    subst P (sym (c.in-Star).is) ((c.in_ok-take_star-in-Star).ensures (rows_in c.args.next.now.items))

pub returns-in_ok-take_plus-in-Plus-clause-waits : goal.returns-in_ok-take_plus-in-Plus-clause-waits
returns-in_ok-take_plus-in-Plus-clause-waits c =
    let P : PostfixSymbol → Type 0 = λ s. Takes c.args.waiting.now.items (rows_in c.args.next.now.items) s c.take_plus.new.waiting.items (rows_in c.args.next.now.items) in
    subst P (sym (c.in-Plus).is) ((c.in_ok-take_plus-in-Plus).ensures (rows_in c.args.next.now.items))

pub returns-in_ok-take_optional-in-Optional-clause-waits : goal.returns-in_ok-take_optional-in-Optional-clause-waits
returns-in_ok-take_optional-in-Optional-clause-waits c =
    let P : PostfixSymbol → Type 0 = λ s. Takes c.args.waiting.now.items (rows_in c.args.next.now.items) s c.take_optional.new.waiting.items (rows_in c.args.next.now.items) in
    subst P (sym (c.in-Optional).is) ((c.in_ok-take_optional-in-Optional).ensures (rows_in c.args.next.now.items))

pub returns-in_ok-take_either-in-Either-clause-waits : goal.returns-in_ok-take_either-in-Either-clause-waits
returns-in_ok-take_either-in-Either-clause-waits c =
    let P : PostfixSymbol → Type 0 = λ s. Takes c.args.waiting.now.items (rows_in c.args.next.now.items) s c.take_either.new.waiting.items (rows_in c.args.next.now.items) in
    subst P (sym (c.in-Either).is) ((c.in_ok-take_either-in-Either).ensures (rows_in c.args.next.now.items))

pub returns-in_ok-take_follow-in-Follow-clause-waits : goal.returns-in_ok-take_follow-in-Follow-clause-waits
returns-in_ok-take_follow-in-Follow-clause-waits c =
    let P : PostfixSymbol → Type 0 = λ s. Takes c.args.waiting.now.items (rows_in c.args.next.now.items) s c.take_follow.new.waiting.items (rows_in c.take_follow.new.next.items) in
    subst P (sym c.in-Follow.is) c.in_ok-take_follow-in-Follow.ensures.waits
