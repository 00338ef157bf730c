use Rattle.std.proofs.Common.{◌≡◌, ◌<◌, ◌≤◌, List, [], ◌∷◌, ◌++◌, ℕ, length, take, get_or, ap, sym, ◌∙◌, subst, arith}
use Rattle.std.proofs.lemmas.List.{take_all, take_more}
use Rattle.digit_tuple.specs.Letters.{product}
use Rattle.track_parts.specs.declared.run.Run.{Run}
use Rattle.track_parts.specs.Runs.{sum_of_runs}
use Rattle.track_parts.proofs.FoundLetters.{length-parts, runs-part, runs-small}
use Rattle.track_parts.proofs.track_parts.TrackParts.listed.Goals as goal

pub part_by-requires-clause-small : goal.part_by-requires-clause-small
part_by-requires-clause-small c =
    let t = c.self.inside in
    let below : c.loop-letter.letter < product t.alphabet = omega (arith, c.loop-letter-test.true, c.loop-letter.auto.letter-end, c.letters-letters.ensures.value) in
    subst (λ (rs : List Run). sum_of_runs rs c.loop-letter.letter < 4294967296) (sym c.deref.ensures.value) (runs-small t.alphabet t.places.items t.own t.runs.items c.loop-letter.letter c.self.invariant.0 below)

pub loop-letter-preserved : goal.loop-letter-preserved
loop-letter-preserved c =
    let t = c.self.inside in
    let now = c.args.self.now in
    let letter = c.loop-letter.letter in
    let below : letter < product t.alphabet = omega (arith, c.loop-letter-test.true, c.loop-letter.auto.letter-end, c.letters-letters.ensures.value) in
    let inside : letter < length now = omega (arith, below, ap (λ (ps : List ℕ). length ps) c.self.view_is, length-parts t.alphabet t.places.items) in
    let part : c.part_by.result ≡ get_or now letter 0 =
    c.part_by.ensures
    ∙ ap (λ (rs : List Run). sum_of_runs rs letter) c.deref.ensures.value
    ∙ runs-part t.alphabet t.places.items t.own t.runs.items letter c.self.invariant.0 below
    ∙ ap (λ (ps : List ℕ). get_or ps letter 0) c.self.view_is in
    c.in_ok-push.ensures.items
    ∙ ap (λ (ps : List ℕ). ps ++ c.part_by.result ∷ []) c.loop-letter.invariant
    ∙ ap (λ p. take letter now ++ p ∷ []) part
    ∙ sym (take_more now letter 0 inside)

pub returns : goal.returns
returns c =
    let t = c.self.inside in
    let now = c.args.self.now in
    let past : length now ≤ c.loop-letter.letter =
    omega (arith, c.loop-letter-test.false, c.loop-letter.auto.letter-end, c.letters-letters.ensures.value, ap (λ (ps : List ℕ). length ps) c.self.view_is, length-parts t.alphabet t.places.items) in
    c.loop-letter.invariant ∙ take_all c.loop-letter.letter now past
