use Rattle.std.proofs.Common.{◌≡◌, ◌∙◌, ◌+◌, ◌<◌, [], ◌∷◌, ◌++◌, length, take, get_or, ap, sym, subst, arith}
use Rattle.std.proofs.lemmas.List.{take_more}
use Rattle.digit_tuple.specs.Systems.{IsDigitCount}
use Rattle.digit_tuple.specs.declared.systems.SystemTrack.{SystemTrack}
use Rattle.definitions.specs.Tracks.{header_tracks}
use Rattle.command_parts.specs.TrackSystems.{named_in}
use Rattle.named_systems.specs.TrackSystems.{system_of}
use Rattle.language_commands.proofs.TrackSystemSteps.{tracks_push, digits_at}
use Rattle.language_commands.proofs.track_systems.tracks.Goals as goal

pub push-requires : goal.push-requires
push-requires c =
    let items = c.args.systems.now.systems.items in
    let i = c.loop-system.system-index in
    let s = c.system-item.result in
    let within : i < length items = omega (arith, c.loop-system-test.true, ap length c.deref-system-items.ensures.value) in
    let is : s ≡ get_or items i s = c.system-item.is ∙ ap (λ xs. get_or xs i s) c.deref-system-items.ensures.value in
    subst IsDigitCount (sym c.digits.ensures) (digits_at c.requires.0 c.args.systems.now.direction items i s within is c.requires.1)

pub loop-system-preserved : goal.loop-system-preserved
loop-system-preserved c =
    let items = c.args.systems.now.systems.items in
    let i = c.loop-system.system-index in
    let s = c.system-item.result in
    let within : i < length items = omega (arith, c.loop-system-test.true, ap length c.deref-system-items.ensures.value) in
    let is : s ≡ get_or items i s = c.system-item.is ∙ ap (λ xs. get_or xs i s) c.deref-system-items.ensures.value in
    let prefix : take (i + 1) items ≡ take i items ++ s ∷ [] = take_more items i s within ∙ ap (λ x. take i items ++ x ∷ []) (sym is) in
    c.in_ok-push.ensures.ok
    ∙ ap (λ n. c.loop-system.tracks ++ (let t : SystemTrack = record { name = c.in_ok-copy.field-0; digits = n } in t) ∷ []) c.digits.ensures
    ∙ ap (λ ts. ts ++ (let t : SystemTrack = record { name = c.in_ok-copy.field-0; digits = (system_of s).digits } in t) ∷ []) c.loop-system.invariant
    ∙ ap (λ n. header_tracks (named_in (take i items)) ++ (let t : SystemTrack = record { name = n; digits = (system_of s).digits } in t) ∷ []) c.in_ok-copy.ensures
    ∙ sym (tracks_push (take i items) s)
    ∙ ap (λ xs. header_tracks (named_in xs)) (sym prefix)
