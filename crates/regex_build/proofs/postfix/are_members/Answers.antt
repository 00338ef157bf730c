-- One member more.
use Rattle.std.specs.Prelude.{ℤ, pos, Contains}
use Rattle.std.proofs.Common.{◌≡◌, get_or, refl, sym, ◌∙◌, subst, rules}
use Rattle.std.proofs.lemmas.Bool.{false≢true}
use Rattle.std.proofs.lemmas.Int.{to_z-of_z}
use mir.Val.{to_z, of_z}
use mir.Syntax.{w32}
use Rattle.regex_build.proofs.CodeSteps.{member_at}
use Rattle.regex_build.proofs.ListSteps.{length_zip}
use Rattle.regex_build.proofs.PostfixSteps.{members_more, members_all}
use Rattle.regex_build.proofs.postfix.are_members.Goals as goal

pub returns-then-sets-members : goal.returns-then-sets-members
returns-then-sets-members c = (λ e. absurd (false≢true e), λ h. absurd (c.if-sets-members.true (length_zip (Contains {X = ℤ}) c.args.sets.now c.args.members.now h)))

pub returns-then-is_none : goal.returns-then-is_none
returns-then-is_none c =
    let m : ℤ = get_or c.args.members.now c.loop-track.track (pos 0) in
    let e : to_z w32 (of_z w32 m) ≡ m = search (rules, to_z-of_z) in
    let P : ℤ → Type 0 = λ x. Contains {X = ℤ} c.index-sets-track.result x in (
      λ f. absurd (false≢true f),
      λ h. absurd (false≢true (sym c.if-is_none.ensures
          ∙ c.place_of.ensures.member.1 (subst P (sym e) (member_at c.args.sets.now c.args.members.now c.loop-track.track c.index-sets-track.result (pos 0) h c.loop-track-test.true c.index-sets-track.is)))),
    )

pub loop-track-preserved : goal.loop-track-preserved
loop-track-preserved c =
    let m : ℤ = get_or c.args.members.now c.loop-track.track (pos 0) in
    let e : to_z w32 (of_z w32 m) ≡ m = search (rules, to_z-of_z) in
    let P : ℤ → Type 0 = λ x. Contains {X = ℤ} c.index-sets-track.result x in
    members_more c.args.sets.now c.args.members.now c.loop-track.track c.index-sets-track.result (pos 0) c.if-sets-members.false c.loop-track-test.true c.index-sets-track.is c.loop-track.invariant
    (subst P e (c.place_of.ensures.member.0 c.if-is_none.ensures))

pub returns : goal.returns
returns c = (λ e. members_all c.args.sets.now c.args.members.now c.loop-track.track c.if-sets-members.false c.loop-track-test.false c.loop-track.invariant, λ h. refl)
