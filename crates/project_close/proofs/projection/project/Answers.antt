use Rattle.std.proofs.Common.{◌≡◌, ◌<◌, ◌↔◌, ℕ, List, IsTrue, length, sym, ap, ◌∙◌, subst}
use Rattle.std.specs.List.{All}
use Rattle.digit_tuple.specs.Deterministic.{Automaton, accepts_of}
use Rattle.digit_tuple.specs.Letters.{IsWord, product}
use Rattle.digit_tuple.specs.Names.{AreDistinct}
use Rattle.minimise.specs.Tracked.{NamedAutomaton}
use Rattle.pad_rename.specs.StayingTracks.{staying_places}
use Rattle.project_close.specs.Projection.{InProjection}
use Rattle.project_close.proofs.ProjectionLemmas.{names_without-distinct, staying_places-within}
use Rattle.project_close.proofs.projection.project.Goals as goal

pub projected-requires-clause-places : goal.projected-requires-clause-places
projected-requires-clause-places c =
    let a = c.args.a.now in
    let track = c.args.track.now in
    subst (λ (ps : List ℕ). All (λ place. place < length c.dfa.result.now.sizes) ps) (sym (c.deref.ensures.value ∙ c.in_ok-names.ensures.places))
    (subst (λ (d : Automaton). All (λ place. place < length d.sizes) (staying_places a track)) (sym c.dfa.ensures.value) (staying_places-within a c.dfa.ensures.tracked track))

pub of_canonical-requires-clause-distinct : goal.of_canonical-requires-clause-distinct
of_canonical-requires-clause-distinct c =
    subst AreDistinct (sym c.in_ok-names.ensures.names) (names_without-distinct c.args.a.now.names c.args.track.now c.dfa.ensures.tracked.distinct)

pub returns-clause-language : goal.returns-clause-language
returns-clause-language c w over =
    let a = c.args.a.now in
    let places = staying_places a c.args.track.now in
    let made = c.in_ok-result.field-0.result in
    let inside = subst (λ (ss : List ℕ). IsWord (product ss) w) (sym c.in_ok-names.ensures.sizes) over in
    let same : accepts_of c.of_canonical.result.automaton w ≡ accepts_of made w = ap (λ (t : NamedAutomaton). accepts_of t.automaton w) c.of_canonical.ensures in
    let one : IsTrue (accepts_of made w) ↔ InProjection a.automaton places c.args.direction w =
    subst (λ (d : Automaton). IsTrue (accepts_of made w) ↔ InProjection d places c.args.direction w) c.dfa.ensures.value
    (subst (λ (ps : List ℕ). IsTrue (accepts_of made w) ↔ InProjection c.dfa.result.now ps c.args.direction w) (c.deref.ensures.value ∙ c.in_ok-names.ensures.places) (c.in_ok-result.ensures.language w inside)) in
    ((λ is. one.0 (sym same ∙ is)), (λ there. same ∙ one.1 there))
