use Rattle.std.proofs.Common.{◌≡◌, ◌==◌, ◌<◌, ◌++◌, [], List, ℕ, filter, length, get_or, ap, sym, ◌∙◌, subst, arith}
use Rattle.std.specs.List.{All, AllZip}
use Rattle.std.proofs.lemmas.List.{append-nil}
use Rattle.digit_tuple.specs.Letters.{product}
use Rattle.digit_tuple.specs.PartIndex.{letters_with}
use Rattle.digit_tuple.specs.Parts.{digits_of, letter_part, parts_of_letters, picked}
use Rattle.track_parts.specs.declared.span.Span.{Span}
use Rattle.track_parts.specs.Spans.{AreSpans, IsInSpan, letters_in}
use Rattle.track_parts.proofs.LettersInLemmas.{letters_in-All}
use Rattle.track_parts.proofs.FoundLetters.{length-parts, letters_with-no, letters_with-spans, parts-below}
use Rattle.track_parts.proofs.track_parts.TrackParts.add_found.Goals as goal

pub returns-then-part-parts : goal.returns-then-part-parts
returns-then-part-parts c =
    let t = c.self.inside in
    let now = c.args.self.now in
    let below : All (λ p. p < product (picked t.places.items t.alphabet)) now =
    subst (λ (ps : List ℕ). All (λ p. p < product (picked t.places.items t.alphabet)) ps) c.self.view_is (parts-below t.alphabet t.places.items c.self.invariant.0.within) in
    let none : letters_with now c.args.part ≡ [] =
    letters_with-no now c.args.part (λ a less has. omega (arith, below a 0 less, has, c.if-part-parts.true, c.letters-parts.ensures.value, ap product c.self.invariant.0.own_is)) in
    sym (ap (λ (ls : List ℕ). c.args.letters.now.items ++ ls) none ∙ append-nil c.args.letters.now.items)

pub returns-then-count-eq0 : goal.returns-then-count-eq0
returns-then-count-eq0 c =
    let t = c.self.inside in
    let now = c.args.self.now in
    let none : letters_with now c.args.part ≡ [] =
    letters_with-no now c.args.part (λ a less has. omega (arith, less, c.if-count-eq0.true, c.letters-count.ensures.value, ap (λ (ps : List ℕ). length ps) c.self.view_is, length-parts t.alphabet t.places.items)) in
    sym (ap (λ (ls : List ℕ). c.args.letters.now.items ++ ls) none ∙ append-nil c.args.letters.now.items)

pub add_having-requires : goal.add_having-requires
add_having-requires c =
    let t = c.self.inside in
    let found : c.deref-3.result.now ≡ letters_in t.alphabet c.deref-2.result.now = c.deref-3.ensures.value ∙ c.in_ok-found.ensures in
    let are : AreSpans t.alphabet c.deref-2.result.now = subst (λ (cs : List Span). AreSpans t.alphabet cs) (sym c.deref-2.ensures.value) c.in_ok-spans.ensures.spans in
    let long : product t.alphabet ≡ length c.args.self.now = sym (length-parts t.alphabet t.places.items) ∙ ap (λ (ps : List ℕ). length ps) c.self.view_is in
    subst (λ (ls : List ℕ). All (λ letter. letter < length c.args.self.now) ls) (sym found)
    (subst (λ n. All (λ letter. letter < n) (letters_in t.alphabet c.deref-2.result.now)) long (letters_in-All t.alphabet c.deref-2.result.now are))

pub returns : goal.returns
returns c =
    let t = c.self.inside in
    let now = c.args.self.now in
    let part = c.args.part in
    let sizes = t.alphabet in
    let places = t.places.items in
    let spans = c.deref-2.result.now in
    let found : c.deref-3.result.now ≡ letters_in sizes spans = c.deref-3.ensures.value ∙ c.in_ok-found.ensures in
    let are : AreSpans sizes spans = subst (λ (cs : List Span). AreSpans sizes cs) (sym c.deref-2.ensures.value) c.in_ok-spans.ensures.spans in
    let fit : (a : ℕ) → a < product sizes → letter_part sizes places a ≡ part → AllZip IsInSpan (digits_of sizes a) spans =
    λ a below has. subst (λ (cs : List Span). AllZip IsInSpan (digits_of sizes a) cs) (sym c.deref-2.ensures.value)
    (c.in_ok-spans.ensures.fit a below (ap (λ (ps : List ℕ). letter_part sizes ps a) c.deref.ensures.value ∙ has)) in
    c.in_ok-add_having.ensures
    ∙ ap (λ (ls : List ℕ). c.args.letters.now.items ++ ls)
    (ap (λ (ls : List ℕ). filter (λ a. get_or now a 0 == part) ls) found
    ∙ ap (λ (ps : List ℕ). filter (λ a. get_or ps a 0 == part) (letters_in sizes spans)) (sym c.self.view_is)
    ∙ letters_with-spans sizes places part spans are fit
    ∙ ap (λ (ps : List ℕ). letters_with ps part) c.self.view_is)
