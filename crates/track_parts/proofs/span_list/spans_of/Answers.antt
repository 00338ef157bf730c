use Rattle.std.proofs.Common.{◌≡◌, ◌<◌, length, ap, sym, ◌∙◌, subst, arith}
use Rattle.std.proofs.lemmas.List.Elements.{length_all_zip}
use Rattle.digit_tuple.specs.Letters.{AreDigits, code_of}
use Rattle.digit_tuple.specs.Parts.{picked}
use Rattle.digit_tuple.proofs.PartLemmas.{digits_of-is}
use Rattle.track_parts.proofs.SpanLemmas.{AllZip-having, AreSpans-all, AreSpansTo, written_over}
use Rattle.track_parts.proofs.span_list.spans_of.Goals as goal

pub returns-clause-spans : goal.returns-clause-spans
returns-clause-spans c =
    let sizes = c.args.alphabet.now in
    let places = c.args.places.now in
    let digits = c.digits_of.new.out in
    let spans = c.loop-track.spans.items in
    let all : c.loop-track.track ≡ length sizes = omega (arith, c.loop-track-test.false, c.loop-track.auto.track-end, c.tracks-track-end.ensures.value) in
    let fit : AreDigits (picked places sizes) digits = subst (λ ss. AreDigits ss digits) c.requires.own c.digits_of.ensures.digits in
    let long : length c.args.own.now ≡ length digits = length_all_zip (λ size digit. digit < size) c.args.own.now digits c.digits_of.ensures.digits in
    let written = written_over c.in_ok-digits.digits.len digits c.in_ok-digits.digits.items
    (omega (arith, long, c.tracks.ensures.value, c.in_ok-digits.ensures.len)) (omega (arith, c.in_ok-digits.digits.ok)) in
    let at = subst (λ ds. AreSpansTo sizes places ds spans (length sizes)) written (subst (AreSpansTo sizes places _ spans) all c.loop-track.invariant) in
    AreSpans-all sizes places digits spans c.requires.places at fit

pub returns-clause-fit : goal.returns-clause-fit
returns-clause-fit c = λ letter below has.
    let sizes = c.args.alphabet.now in
    let places = c.args.places.now in
    let digits = c.digits_of.new.out in
    let spans = c.loop-track.spans.items in
    let all : c.loop-track.track ≡ length sizes = omega (arith, c.loop-track-test.false, c.loop-track.auto.track-end, c.tracks-track-end.ensures.value) in
    let fit : AreDigits (picked places sizes) digits = subst (λ ss. AreDigits ss digits) c.requires.own c.digits_of.ensures.digits in
    let code : code_of (picked places sizes) digits ≡ c.args.part = ap (λ ss. code_of ss digits) (sym c.requires.own) ∙ c.digits_of.ensures.letter in
    let long : length c.args.own.now ≡ length digits = length_all_zip (λ size digit. digit < size) c.args.own.now digits c.digits_of.ensures.digits in
    let written = written_over c.in_ok-digits.digits.len digits c.in_ok-digits.digits.items
    (omega (arith, long, c.tracks.ensures.value, c.in_ok-digits.ensures.len)) (omega (arith, c.in_ok-digits.digits.ok)) in
    let at = subst (λ ds. AreSpansTo sizes places ds spans (length sizes)) written (subst (AreSpansTo sizes places _ spans) all c.loop-track.invariant) in
    AllZip-having sizes places digits spans c.requires.places at
    c.args.part letter (digits_of-is (picked places sizes) digits c.args.part fit code) below has
