use Rattle.std.specs.Prelude.{ℤ, pos, Contains}
use Rattle.std.proofs.Common.{◌≡◌, ◌<◌, false, true, length, get_or, sym, subst, arith, rules}
use Rattle.std.proofs.lemmas.Int.{to_z-of_z}
use mir.Val.{to_z, of_z}
use mir.Syntax.{w32}
use Rattle.listings.proofs.TrackLemmas.{has_at, has_length}
use Rattle.table_listings.proofs.DigitLemmas.{digits_more}
use Rattle.table_listings.proofs.on_tracks.has_digits.Goals as goal

pub returns-then-sets-digits : goal.returns-then-sets-digits
returns-then-sets-digits c =
    (λ no. let e : false ≡ true = no in absurd cc, λ h. absurd (let e : length c.args.sets.now ≡ length c.args.digits.now = has_length c.args.sets.now c.args.digits.now h in omega arith))

pub loop-track-preserved : goal.loop-track-preserved
loop-track-preserved c =
    let sets = c.args.sets.now in
    let digits = c.args.digits.now in
    let m : ℤ = get_or digits c.loop-track.track (pos 0) in
    let e : to_z w32 (of_z w32 m) ≡ m = search (rules, to_z-of_z) in
    let P : ℤ → Type 0 = λ x. Contains {X = ℤ} c.index-sets-track.result x in
    let inside : c.loop-track.track < length digits = omega (arith, c.loop-track-test.true, c.if-sets-digits.false) in
    digits_more sets digits c.loop-track.track c.index-sets-track.result (pos 0) c.loop-track-test.true inside c.index-sets-track.is c.loop-track.invariant (subst P e (c.in-Some.ensures.member.0 (λ i. true)))

pub returns-in-None : goal.returns-in-None
returns-in-None c =
    let m : ℤ = get_or c.args.digits.now c.loop-track.track (pos 0) in
    let e : to_z w32 (of_z w32 m) ≡ m = search (rules, to_z-of_z) in
    let P : ℤ → Type 0 = λ x. Contains {X = ℤ} c.index-sets-track.result x in (
      λ no. let e : false ≡ true = no in absurd cc,
      λ h. let none : false ≡ true = c.in-None.ensures.member.1 (subst P (sym e) (has_at c.args.sets.now c.args.digits.now c.loop-track.track c.index-sets-track.result (pos 0) h c.loop-track-test.true c.index-sets-track.is)) in absurd cc,
    )
