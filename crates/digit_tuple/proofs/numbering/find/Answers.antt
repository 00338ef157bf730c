use Rattle.std.proofs.Common.{◌≡◌, ◌<◌, ◌≤◌, length, sym, ap, ◌∙◌, arith}
use Rattle.std.proofs.lemmas.Bool.Decides.{Decides-eqb}
use Rattle.std.proofs.lemmas.List.{get_or_default, get_or_past, length-map}
use Rattle.std.proofs.lemmas.Slice.Eq.{slice_eq-Decides}
use Rattle.digit_tuple.specs.declared.slots.Slot.{Slot}
use Rattle.digit_tuple.specs.KeyHashes.{hash_of}
use Rattle.digit_tuple.specs.Slots.{slot_at}
use Rattle.digit_tuple.proofs.SlotLemmas.{Contains-sought}
use Rattle.digit_tuple.proofs.numbering.find.Goals as goal

pub returns-then-slot-eq0 : goal.returns-then-slot-eq0
returns-then-slot-eq0 c =
    let slots = c.args.table.now.slots.items in
    let place = c.loop-place.place in
    let within : place < length slots = omega (arith, c.loop-place-test.true, c.len-place-end.ensures, c.args.table.now.slots.ok) in
    let read : c.index-slot.result.now ≡ slot_at slots place = c.index-slot.ensures ∙ get_or_default slots place c.index-slot.result.now (record { hash = 0; link = 0 }) within in
    Contains-sought c.args.keys.now c.args.table.now c.args.key.now c.args.hash place c.requires.hash c.requires.slots c.loop-place.invariant (ap (λ (s : Slot). s.link) (sym read) ∙ c.if-slot-eq0.true)
    (omega (arith, c.loop-place.auto.place, c.home-place.ensures.home))

pub returns-then-eq : goal.returns-then-eq
returns-then-eq c =
    let slots = c.args.table.now.slots.items in
    let keys = c.args.keys.now in
    let key = c.args.key.now in
    let place = c.loop-place.place in
    let within : place < length slots = omega (arith, c.loop-place-test.true, c.len-place-end.ensures, c.args.table.now.slots.ok) in
    let read : c.index-slot.result.now ≡ slot_at slots place = c.index-slot.ensures ∙ get_or_default slots place c.index-slot.result.now (record { hash = 0; link = 0 }) within in
    let held : c.index-slot.result.now.link ≤ length keys = omega (arith, c.requires.slots.held place, ap (λ (s : Slot). s.link) read, length-map keys hash_of) in
    (omega (arith, held, c.if-slot-eq0.false), sym c.key.ensures ∙ (slice_eq-Decides Decides-eqb c.key.result.now key c.eq.result c.eq.ensures).0 c.if-eq.true)

pub returns : goal.returns
returns c =
    let slots = c.args.table.now.slots.items in
    let place = c.loop-place.place in
    let past : length slots ≤ place = omega (arith, c.loop-place-test.false, c.len-place-end.ensures, c.args.table.now.slots.ok) in
    Contains-sought c.args.keys.now c.args.table.now c.args.key.now c.args.hash place c.requires.hash c.requires.slots c.loop-place.invariant (ap (λ (s : Slot). s.link) (get_or_past slots place (record { hash = 0; link = 0 }) past))
    (omega (arith, c.loop-place.auto.place, c.home-place.ensures.home))
