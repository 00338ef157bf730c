-- Each digit has a place in its set.
use Rattle.std.specs.Prelude.{ℤ, pos, Contains}
use Rattle.std.proofs.Common.{◌≡◌, false, true, get_or, sym, subst, ◌∙◌, rules}
use Rattle.std.proofs.lemmas.Int.{to_z-of_z}
use mir.Val.{to_z, of_z}
use mir.Syntax.{w32}
use Rattle.listings.proofs.TrackLemmas.{has_at, more_at}
use Rattle.listings.proofs.tracks.places_of.Goals as goal

pub loop-track-preserved : goal.loop-track-preserved
loop-track-preserved c =
    let m : ℤ = get_or c.args.digits.now c.loop-track.track (pos 0) in
    let e : to_z w32 (of_z w32 m) ≡ m = search (rules, to_z-of_z) in
    let h = c.in-Some.ensures.place in
    more_at c.args.sets.now c.args.digits.now c.loop-track.places.items c.push.new.self.items c.loop-track.track c.index-sets-track.result (pos 0) c.in-Some.place
    c.requires c.loop-track-test.true c.index-sets-track.is c.loop-track.invariant h.0 (h.1 ∙ e) c.in_ok-push-in-Some.ensures.items

pub returns-in-None : goal.returns-in-None
returns-in-None c =
    let m : ℤ = get_or c.args.digits.now c.loop-track.track (pos 0) in
    let e : to_z w32 (of_z w32 m) ≡ m = search (rules, to_z-of_z) in
    let P : ℤ → Type 0 = λ x. Contains {X = ℤ} c.index-sets-track.result x in
    λ h. let none : false ≡ true = c.in-None.ensures.member.1 (subst P (sym e) (has_at c.args.sets.now c.args.digits.now c.loop-track.track c.index-sets-track.result (pos 0) h c.loop-track-test.true c.index-sets-track.is)) in cc
