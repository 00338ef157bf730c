use Rattle.std.proofs.Common.{◌≡◌, ℕ, suc, ◌+◌, ◌<◌, ◌∷◌, ◌++◌, [], length, map, take, get_or, sym, ap, ◌∙◌, subst, arith}
use Rattle.std.specs.Rc.{rc_value}
use Rattle.std.proofs.lemmas.List.{length-map, get_or-map}
use Rattle.digit_tuple.specs.Systems.{IsDigitCount}
use Rattle.digit_tuple.specs.declared.systems.SystemTrack.{SystemTrack}
use Rattle.num_system.specs.Sealed.{SystemValue}
use Rattle.command_parts.specs.WordPrinting.{tracks_named}
use Rattle.command_parts.proofs.NamedTracks.{digits_at, named_more}
use Rattle.command_parts.proofs.named_tracks.tracks_of.Goals as goal

pub push-requires : goal.push-requires
push-requires c =
    let items = c.args.systems.now in
    let i = c.loop-place.place in
    let s : SystemValue = c.index-systems-place.result.value in
    let within : i < length items = omega (arith, c.loop-place-test.true, c.requires.count, length-map items rc_value) in
    let is : s ≡ get_or (map rc_value items) i s = ap rc_value c.index-systems-place.is ∙ sym (get_or-map rc_value items i c.index-systems-place.result s within) in
    let here : IsDigitCount s.digits = digits_at (map rc_value items) i s c.requires.digits (omega (arith, within, length-map items rc_value)) is in
    rw (c.digits.ensures.value, c.deref.ensures) here

pub loop-place-preserved : goal.loop-place-preserved
loop-place-preserved c =
    let items = c.args.systems.now in
    let i = c.loop-place.place in
    let n = c.index-names-place.result in
    let s : SystemValue = c.index-systems-place.result.value in
    let within : i < length items = omega (arith, c.loop-place-test.true, c.requires.count, length-map items rc_value) in
    let is : s ≡ get_or (map rc_value items) i s = ap rc_value c.index-systems-place.is ∙ sym (get_or-map rc_value items i c.index-systems-place.result s within) in
    let more = named_more c.args.names.now (map rc_value items) i n s c.loop-place-test.true (omega (arith, within, length-map items rc_value)) c.index-names-place.is is in
    let digits : c.digits.result ≡ s.digits = c.digits.ensures.value ∙ ap (λ (x : SystemValue). x.digits) c.deref.ensures in
    let step : suc i ≡ i + 1 = omega arith in
    subst (λ (n : ℕ). c.push.new.self ≡ tracks_named (take n c.args.names.now) (map rc_value items)) step
    (c.in_ok-push.ensures.ok ∙ (λ j. c.loop-place.invariant j ++ (let t : SystemTrack = record { name = c.in_ok-copy.ensures j; digits = digits j } in t) ∷ []) ∙ sym more)
