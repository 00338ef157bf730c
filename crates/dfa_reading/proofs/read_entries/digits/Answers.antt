use Rattle.std.proofs.Common.{◌≡◌, ℕ, ◌+◌, ◌<◌, List, Option, [], ◌∷◌, length, drop, ap, sym, ◌∙◌, arith}
use Rattle.dfa_reading.specs.Entries.{digits_of}
use Rattle.dfa_reading.specs.Headers.{digits_in}
use Rattle.dfa_reading.specs.HeaderViews.{header_view}
use Rattle.dfa_reading.specs.Lines.{parts_of}
use Rattle.dfa_reading.proofs.ReadHeaders.{with_prefix, with_prefix-none}
use Rattle.dfa_reading.proofs.ReadEntries.{digits_all, digits_missing, digits_more, digits_over, digits_wrong, parts_gone, parts_there}
use Rattle.dfa_reading.proofs.read_entries.digits.Goals as goal

pub returns-in_default : goal.returns-in_default
returns-in_default c =
    let tracks = digits_in (header_view c.args.header.now) in
    let none : parts_of c.loop-track.rest.now ≡ [] = c.in_default.ensures in
    digits_missing tracks c.loop-track.track (parts_of c.loop-track.rest.now) c.loop-track.digits.items _ (omega (arith, c.tracks-track-end.ensures)) none c.loop-track.invariant

pub returns-in_default-digit : goal.returns-in_default-digit
returns-in_default-digit c =
    let tracks = digits_in (header_view c.args.header.now) in
    digits_wrong tracks c.loop-track.track (parts_of c.loop-track.rest.now) (parts_of c.in-Some.after.now) c.in-Some.part.now c.loop-track.digits.items _
    (omega (arith, c.loop-track-test.true, c.tracks-track-end.ensures)) c.in-Some.ensures.0 (sym c.digit.ensures ∙ c.in_default-digit.is) c.loop-track.invariant

pub loop-track-preserved : goal.loop-track-preserved
loop-track-preserved c =
    let tracks = digits_in (header_view c.args.header.now) in
    let left = digits_of (drop (c.loop-track.track + 1) tracks) (parts_of c.in-Some.after.now) in
    ap (λ (done : List (Option ℕ)). with_prefix done left) c.in_ok-push.ensures.items
    ∙ digits_more tracks c.loop-track.track (parts_of c.loop-track.rest.now) (parts_of c.in-Some.after.now) c.in-Some.part.now c.in-Some-digit.digit c.loop-track.digits.items _
    (omega (arith, c.loop-track-test.true, c.tracks-track-end.ensures)) c.in-Some.ensures.0 (sym c.digit.ensures ∙ c.in-Some-digit.is) c.loop-track.invariant

pub loop-track-init : goal.loop-track-init
loop-track-init c =
    let read = digits_of (digits_in (header_view c.args.header.now)) (parts_of c.args.text.now) in
    ap (λ (done : List (Option ℕ)). with_prefix done read) c.new-digits.ensures.items ∙ with_prefix-none read

pub digit-requires : goal.digit-requires
digit-requires c = omega (arith, c.loop-track-test.true, c.tracks-track-end.ensures)

pub returns-then-is_some : goal.returns-then-is_some
returns-then-is_some c =
    let parts = parts_of c.loop-track.rest.now in
    let some : 0 < length parts = parts_there c.next_part-2.result (λ p. (parts ≡ p.0.now ∷ parts_of p.1.now) × (length p.1.now < length c.loop-track.rest.now)) parts c.next_part-2.ensures (λ p h. omega (arith, ap length h.0)) (sym c.is_some.ensures ∙ c.if-is_some.true) in
    digits_over (digits_in (header_view c.args.header.now)) c.loop-track.track parts c.loop-track.digits.items _ (omega (arith, c.tracks-track-end.ensures, c.loop-track-test.false)) some c.loop-track.invariant

pub returns : goal.returns
returns c =
    let parts = parts_of c.loop-track.rest.now in
    let none : parts ≡ [] = parts_gone c.next_part-2.result (λ p. (parts ≡ p.0.now ∷ parts_of p.1.now) × (length p.1.now < length c.loop-track.rest.now)) parts c.next_part-2.ensures (sym c.is_some.ensures ∙ c.if-is_some.false) in
    digits_all (digits_in (header_view c.args.header.now)) c.loop-track.track parts c.loop-track.digits.items _ (omega (arith, c.tracks-track-end.ensures, c.loop-track-test.false)) none c.loop-track.invariant
