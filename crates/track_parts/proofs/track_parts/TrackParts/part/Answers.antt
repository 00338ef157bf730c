use Rattle.std.proofs.Common.{◌≡◌, ◌<◌, List, ℕ, length, get_or, ap, sym, ◌∙◌, subst, arith}
use Rattle.digit_tuple.specs.Letters.{product}
use Rattle.track_parts.specs.declared.run.Run.{Run}
use Rattle.track_parts.specs.Runs.{sum_of_runs}
use Rattle.track_parts.proofs.FoundLetters.{length-parts, runs-part, runs-small}
use Rattle.track_parts.proofs.track_parts.TrackParts.part.Goals as goal

pub part_by-requires-clause-small : goal.part_by-requires-clause-small
part_by-requires-clause-small c =
    let t = c.self.inside in
    let below : c.args.letter < product t.alphabet = omega (arith, c.requires, ap (λ (ps : List ℕ). length ps) c.self.view_is, length-parts t.alphabet t.places.items) in
    subst (λ (rs : List Run). sum_of_runs rs c.args.letter < 4294967296) (sym c.deref.ensures.value) (runs-small t.alphabet t.places.items t.own t.runs.items c.args.letter c.self.invariant.0 below)

pub returns-in-None : goal.returns-in-None
returns-in-None c =
    let t = c.self.inside in
    let below : c.args.letter < product t.alphabet = omega (arith, c.requires, ap (λ (ps : List ℕ). length ps) c.self.view_is, length-parts t.alphabet t.places.items) in
    c.part_by.ensures
    ∙ ap (λ (rs : List Run). sum_of_runs rs c.args.letter) c.deref.ensures.value
    ∙ runs-part t.alphabet t.places.items t.own t.runs.items c.args.letter c.self.invariant.0 below
    ∙ ap (λ (ps : List ℕ). get_or ps c.args.letter 0) c.self.view_is
