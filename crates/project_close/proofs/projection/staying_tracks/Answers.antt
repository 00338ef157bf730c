use Rattle.std.proofs.Common.{◌≡◌, ◌<◌, ℕ, List, length, sym, ap, ◌∙◌, subst}
use Rattle.std.specs.List.{All, Contains}
use Rattle.digit_tuple.specs.Deterministic.{Automaton}
use Rattle.digit_tuple.specs.Names.{places_of, names_without}
use Rattle.pad_rename.specs.StayingTracks.{staying_places}
use Rattle.project_close.proofs.ProjectionLemmas.{names_without-there, staying_places-within}
use Rattle.project_close.proofs.projection.staying_tracks.Goals as goal

pub places_in-requires-clause-there : goal.places_in-requires-clause-there
places_in-requires-clause-there c =
    let all = c.names-all.result.now in
    subst (λ (ns : List (List ℕ)). All (Contains all) ns) (sym (c.deref.ensures.value ∙ c.in_ok-names.ensures)) (names_without-there all c.args.track.now)

pub sizes_at-requires : goal.sizes_at-requires
sizes_at-requires c =
    let a = c.args.a.now in
    let track = c.args.track.now in
    let names : c.deref.result.now ≡ names_without a.names track = c.deref.ensures.value ∙ c.in_ok-names.ensures ∙ ap (λ (ns : List (List ℕ)). names_without ns track) c.names-all.ensures.value in
    let places : c.deref-2.result.now ≡ staying_places a track =
    c.deref-2.ensures.value ∙ c.in_ok-places.ensures ∙ ap (λ (ns : List (List ℕ)). places_of ns c.deref.result.now) c.names-all.ensures.value ∙ ap (λ (ns : List (List ℕ)). places_of a.names ns) names in
    let sizes : c.sizes-sizes.result.now ≡ a.automaton.sizes = c.sizes-sizes.ensures.sizes ∙ c.alphabet.ensures.sizes ∙ ap (λ (d : Automaton). d.sizes) c.dfa.ensures.value in
    subst (λ (ps : List ℕ). All (λ place. place < length c.sizes-sizes.result.now) ps) (sym places)
    (subst (λ (ss : List ℕ). All (λ place. place < length ss) (staying_places a track)) (sym sizes) (staying_places-within a c.names-all.ensures.tracked track))
