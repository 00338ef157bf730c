use Rattle.std.proofs.Common.{◌≡◌, length, subst, sym, ap, refl, arith, true, false}
use Rattle.std.specs.List.{Contains}
use Rattle.digit_tuple.specs.Deterministic.{Automaton}
use Rattle.digit_tuple.proofs.NameLemmas.{place_of-contained}
use Rattle.product_op.proofs.SizeLemmas.{size_of-missing}
use Rattle.product_op.proofs.joint_tracks.size_in.Goals as goal

pub overflow_cast-place : goal.overflow_cast-place
overflow_cast-place c =
    let spot = place_of-contained c.names.result.now c.args.name.now (c.in-Some.ensures.there.0 refl) in
    omega (arith, c.in-Some.ensures.place, spot.0, ap (λ ns. length ns) c.names.ensures.value, c.names.ensures.tracked.count, ap (λ ss. length ss) c.alphabet-alphabet.ensures.sizes, ap (λ ss. length ss) (ap (λ (d : Automaton). d.sizes) c.dfa.ensures.value), c.tracks-tracks.ensures.alphabet.tracks)

pub size-requires : goal.size-requires
size-requires c =
    let spot = place_of-contained c.names.result.now c.args.name.now (c.in-Some.ensures.there.0 refl) in
    omega (arith, c.in-Some.ensures.place, spot.0, ap (λ ns. length ns) c.names.ensures.value, c.names.ensures.tracked.count, ap (λ ss. length ss) c.alphabet-alphabet.ensures.sizes, ap (λ ss. length ss) (ap (λ (d : Automaton). d.sizes) c.dfa.ensures.value))

pub returns-in-None : goal.returns-in-None
returns-in-None c =
    sym (size_of-missing c.args.tracked.now c.args.name.now c.names.ensures.tracked.count
    (λ found. let no : false ≡ true = c.in-None.ensures.there.1 (subst (λ ns. Contains ns c.args.name.now) (sym c.names.ensures.value) found) in cc))
