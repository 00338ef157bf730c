-- Each member has an index in its set.
use Rattle.std.specs.Prelude.{ℤ, pos, Contains}
use Rattle.std.proofs.Common.{◌≡◌, length, get_or, sym, subst, ◌∙◌, arith, rules}
use Rattle.std.proofs.lemmas.Int.{to_z-of_z}
use mir.Val.{to_z, of_z}
use mir.Syntax.{w32}
use Rattle.regex_build.proofs.ListSteps.{length_zip}
use Rattle.regex_build.proofs.CodeSteps.{member_at, indices_more, indices_all}
use Rattle.regex_build.proofs.codes.indices_in.Goals as goal

pub bounds-members-track : goal.bounds-members-track
bounds-members-track c = let e : length c.args.sets.now ≡ length c.args.members.now = length_zip (Contains {X = ℤ}) c.args.sets.now c.args.members.now c.requires in omega arith

pub unwrap-requires : goal.unwrap-requires
unwrap-requires c =
    let m : ℤ = get_or c.args.members.now c.loop-track.track (pos 0) in
    let e : to_z w32 (of_z w32 m) ≡ m = search (rules, to_z-of_z) in
    let P : ℤ → Type 0 = λ x. Contains {X = ℤ} c.index-sets-track.result x in
    c.place_of.ensures.member.1 (subst P (sym e) (member_at c.args.sets.now c.args.members.now c.loop-track.track c.index-sets-track.result (pos 0) c.requires c.loop-track-test.true c.index-sets-track.is))

pub loop-track-preserved : goal.loop-track-preserved
loop-track-preserved c =
    let m : ℤ = get_or c.args.members.now c.loop-track.track (pos 0) in
    let e : to_z w32 (of_z w32 m) ≡ m = search (rules, to_z-of_z) in
    let h = rw c.unwrap.ensures at c.place_of.ensures.place in
    indices_more c.args.sets.now c.args.members.now c.loop-track.indices.items c.push.new.self.items c.loop-track.track c.index-sets-track.result (pos 0) c.unwrap.result
    c.requires c.loop-track-test.true c.index-sets-track.is c.loop-track.invariant h.0 (h.1 ∙ e) c.in_ok-push.ensures.ok

pub returns : goal.returns
returns c = indices_all c.args.sets.now c.args.members.now c.loop-track.indices.items c.loop-track.track c.requires (omega arith) c.loop-track.invariant
