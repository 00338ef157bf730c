use Rattle.std.proofs.Common.{map, sym, ap, ◌∙◌}
use Rattle.std.proofs.lemmas.List.{take_all}
use Rattle.digit_tuple.specs.declared.systems.SystemTrack.{SystemTrack}
use Rattle.digit_tuple.proofs.SystemLemmas.{sizes_of-digit_sets}
use Rattle.digit_tuple.proofs.alphabet.digit_counts.Goals as goal

pub returns : goal.returns
returns c =
    c.loop-track.invariant
    ∙ ap (λ ts. map (λ (track : SystemTrack). track.digits) ts) (take_all c.loop-track.track-index c.args.systems.now c.loop-track-test.false)
    ∙ sym (sizes_of-digit_sets c.args.systems.now)
