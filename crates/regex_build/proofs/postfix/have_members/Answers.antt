-- One symbol more.
use Rattle.std.proofs.Common.{List, ℤ, refl, sym, subst}
use Rattle.std.specs.Prelude.{All}
use Rattle.std.proofs.lemmas.List.{take_all}
use Rattle.std.proofs.lemmas.List.Elements.{All-more}
use Rattle.regex_build.specs.declared.postfix_symbol.PostfixSymbol.{PostfixSymbol}
use Rattle.regex_build.specs.Patterns.{AreMembers, IsOver}
use Rattle.regex_build.proofs.PostfixSteps.{over_other}
use Rattle.regex_build.proofs.postfix.have_members.Goals as goal
use Rattle.regex_build.proofs.postfix.have_members.Goals.{in-Letter+else-not-are_members, in_default}

pub loop-symbol-preserved : goal.loop-symbol-preserved
loop-symbol-preserved c =
    let P : PostfixSymbol → Type 0 = λ s. IsOver c.args.sets.now s in
    let Q : List ℤ → Type 0 = λ x. AreMembers c.args.sets.now x in
    let over : IsOver c.args.sets.now c.symbol-item.result = elim c.match-symbol.branch [
      | in-Letter+else-not-are_members w ↦ subst P (sym w.in-Letter.is) (subst Q w.members.ensures (w.are_members.ensures.0 w.if-not-are_members.false))
      | in_default w ↦ over_other c.args.sets.now c.symbol-item.result w.in_default.not-Letter
    ] in
    All-more (IsOver c.args.sets.now) c.args.symbols.now c.loop-symbol.symbol-index c.symbol-item.result c.loop-symbol-test.true c.loop-symbol.invariant (subst P c.symbol-item.is over)

pub returns : goal.returns
returns c = let P : List PostfixSymbol → Type 0 = λ xs. All (IsOver c.args.sets.now) xs in (λ e. subst P (take_all c.loop-symbol.symbol-index c.args.symbols.now c.loop-symbol-test.false) c.loop-symbol.invariant, λ h. refl)
