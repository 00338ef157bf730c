use Rattle.std.proofs.Common.{◌≡◌, ◌<◌, List, ℕ, length, ap, sym, ◌∙◌, subst, arith}
use Rattle.std.specs.List.{All}
use Rattle.digit_tuple.specs.Letters.{product}
use Rattle.digit_tuple.specs.Parts.{parts_of_letters, picked}
use Rattle.track_parts.proofs.FoundLetters.{length-parts, parts-below}
use Rattle.track_parts.proofs.track_parts.TrackParts.list_within.Goals as goal

pub new-requires-clause-below : goal.new-requires-clause-below
new-requires-clause-below c =
    let t = c.self.inside in
    let parts : c.in_ok-parts.parts.items ≡ parts_of_letters t.alphabet t.places.items = c.in_ok-parts.ensures ∙ sym c.self.view_is in
    let count : c.letters-then-from-most.result ≡ product (picked t.places.items t.alphabet) = c.letters-then-from-most.ensures.value ∙ ap product c.self.invariant.0.own_is in
    subst (λ (ps : List ℕ). All (λ p. p < c.letters-then-from-most.result) ps) (sym parts)
    (subst (λ n. All (λ p. p < n) (parts_of_letters t.alphabet t.places.items)) (sym count) (parts-below t.alphabet t.places.items c.self.invariant.0.within))

pub new-requires-clause-few : goal.new-requires-clause-few
new-requires-clause-few c =
    let t = c.self.inside in
    let parts : c.in_ok-parts.parts.items ≡ parts_of_letters t.alphabet t.places.items = c.in_ok-parts.ensures ∙ sym c.self.view_is in
    omega (arith, ap (λ (ps : List ℕ). length ps) parts, length-parts t.alphabet t.places.items, c.letters.ensures.value, c.letters.type_inv)
