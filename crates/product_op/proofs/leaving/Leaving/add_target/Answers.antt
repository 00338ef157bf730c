use Rattle.std.proofs.Common.{◌≡◌, ◌<◌, ◌-◌, false, true, length, get_or, sym, ap, ◌∙◌, arith}
use Rattle.std.specs.List.{Contains}
use Rattle.std.proofs.lemmas.List.{get_or_default, get_or_read}
use Rattle.product_op.specs.DeadMarks.{OtherOut, beside_sinks}
use Rattle.product_op.specs.Readings.{Reading, part_read, reading_at, reading_in, readings_in, state_at}
use Rattle.product_op.proofs.DeadExitLemmas.{LeadsOut-same}
use Rattle.product_op.proofs.DeadMarkLemmas.{AreMarked-begins, AreMarked-set, HoldBeside-there, beside-there, length-parts, match_none, match_some}
use Rattle.product_op.proofs.ReaderLemmas.{length-readings, reading_at-reader}
use Rattle.product_op.proofs.leaving.Leaving.add_target.Goals as goal

pub exit_beside-requires-clause-parts : goal.exit_beside-requires-clause-parts
exit_beside-requires-clause-parts c =
    let l = c.args.self.now in
    let readers = l.graph.readers.now in
    let rs = readings_in readers in
    let pair = c.requires.leaving.pair in
    let within : l.own < length readers = omega (arith, c.requires.leaving.own, length-readings readers, pair.count) in
    let f = get_or readers l.own c.index-self-self.result in
    let own_is : reading_at rs l.own ≡ reading_in f = reading_at-reader readers l.own f within (get_or_default readers l.own c.index-self-self.result f within) in
    sym (ap (λ (r : Reading). length r.parts) own_is) ∙ length-parts l.graph.letters l.graph.op rs pair l.own c.requires.leaving.own
    ∙ sym (ap (λ (r : Reading). length r.parts) c.requires.leaving.reader ∙ length-parts l.graph.letters l.graph.op rs pair (1 - l.own) (omega arith))

pub add_after-requires-clause-letter : goal.add_after-requires-clause-letter
add_after-requires-clause-letter c =
    let l = c.args.self.now in
    let readers = l.graph.readers.now in
    let rs = readings_in readers in
    let pair = c.requires.leaving.pair in
    let within : l.own < length readers = omega (arith, c.requires.leaving.own, length-readings readers, pair.count) in
    let f = get_or readers l.own c.index-self-self.result in
    let own_is : reading_at rs l.own ≡ reading_in f = reading_at-reader readers l.own f within (get_or_default readers l.own c.index-self-self.result f within) in
    let has = match_some c.in_ok-letter.field-0 c.in-Some.letter _ _ c.in-Some.is c.in_ok-letter.ensures in
    omega (arith, has.0, sym (ap (λ (r : Reading). length r.parts) own_is) ∙ length-parts l.graph.letters l.graph.op rs pair l.own c.requires.leaving.own)

pub returns-then-index-clause-there : goal.returns-then-index-clause-there
returns-then-index-clause-there c =
    let l = c.args.self.now in
    let marks = c.args.marks.now.items in
    let target = c.args.transition.target in
    let marked : get_or marks target false ≡ true = sym (get_or_read marks target c.index.result.now (omega (arith, c.requires.within, c.requires.marked.count)) c.index.ensures false) ∙ c.if-index.true in
    HoldBeside-there (readings_in l.graph.readers.now) c.requires.leaving.pair.count l.own c.requires.leaving.own l.key.now l.graph.letters c.args.keys.now c.args.transition.letter target c.requires.target (c.requires.marked.there target marked)

pub returns-in_ok-add_after-clause-marked : goal.returns-in_ok-add_after-clause-marked
returns-in_ok-add_after-clause-marked c =
    let l = c.args.self.now in
    let readers = l.graph.readers.now in
    let rs = readings_in readers in
    let key = l.key.now in
    let other = l.other.now in
    let part = c.args.transition.letter in
    let target = c.args.transition.target in
    let after = c.add_after.new.keys in
    let pair = c.requires.leaving.pair in
    let small = c.requires.leaving.own in
    let within : l.own < length readers = omega (arith, small, length-readings readers, pair.count) in
    let f = get_or readers l.own c.index-self-self.result in
    let own_is : reading_at rs l.own ≡ reading_in f = reading_at-reader readers l.own f within (get_or_default readers l.own c.index-self-self.result f within) in
    let a = c.in-Some.letter in
    let has = match_some c.in_ok-letter.field-0 a _ _ c.in-Some.is c.in_ok-letter.ensures in
    let out : OtherOut rs l.own key a = LeadsOut-same (reading_at rs (1 - l.own)) (reading_in other.reader.now) (state_at key (1 - l.own)) other.state a c.requires.leaving.reader c.requires.leaving.state has.2 in
    let there : Contains after (beside_sinks rs l.own target) = beside-there rs pair.count l.own small key l.graph.letters after part target c.requires.target a (ap (λ (r : Reading). part_read r a) own_is ∙ has.1) out c.in_ok-add_after.ensures.there in
    let marks = c.args.marks.now.items in
    AreMarked-set rs l.own marks after target (omega (arith, c.requires.within, c.requires.marked.count)) there (AreMarked-begins rs l.own marks c.args.keys.now after c.in_ok-add_after.ensures.begins c.requires.marked)

pub returns-in_ok-add_after-clause-there : goal.returns-in_ok-add_after-clause-there
returns-in_ok-add_after-clause-there c =
    let l = c.args.self.now in
    let readers = l.graph.readers.now in
    let rs = readings_in readers in
    let key = l.key.now in
    let other = l.other.now in
    let part = c.args.transition.letter in
    let target = c.args.transition.target in
    let after = c.add_after.new.keys in
    let pair = c.requires.leaving.pair in
    let small = c.requires.leaving.own in
    let within : l.own < length readers = omega (arith, small, length-readings readers, pair.count) in
    let f = get_or readers l.own c.index-self-self.result in
    let own_is : reading_at rs l.own ≡ reading_in f = reading_at-reader readers l.own f within (get_or_default readers l.own c.index-self-self.result f within) in
    let a = c.in-Some.letter in
    let has = match_some c.in_ok-letter.field-0 a _ _ c.in-Some.is c.in_ok-letter.ensures in
    let out : OtherOut rs l.own key a = LeadsOut-same (reading_at rs (1 - l.own)) (reading_in other.reader.now) (state_at key (1 - l.own)) other.state a c.requires.leaving.reader c.requires.leaving.state has.2 in
    let there : Contains after (beside_sinks rs l.own target) = beside-there rs pair.count l.own small key l.graph.letters after part target c.requires.target a (ap (λ (r : Reading). part_read r a) own_is ∙ has.1) out c.in_ok-add_after.ensures.there in
    HoldBeside-there rs pair.count l.own small key l.graph.letters after part target c.requires.target there

pub returns-in_default-clause-there : goal.returns-in_default-clause-there
returns-in_default-clause-there c a small has out =
    let l = c.args.self.now in
    let readers = l.graph.readers.now in
    let rs = readings_in readers in
    let other = l.other.now in
    let pair = c.requires.leaving.pair in
    let within : l.own < length readers = omega (arith, c.requires.leaving.own, length-readings readers, pair.count) in
    let f = get_or readers l.own c.index-self-self.result in
    let own_is : reading_at rs l.own ≡ reading_in f = reading_at-reader readers l.own f within (get_or_default readers l.own c.index-self-self.result f within) in
    let long : length f.parts ≡ l.graph.letters = sym (ap (λ (r : Reading). length r.parts) own_is) ∙ length-parts l.graph.letters l.graph.op rs pair l.own c.requires.leaving.own in
    absurd (match_none c.in_ok-letter.field-0 _ _ c.in_default.is c.in_ok-letter.ensures a (omega (arith, small, long)) (ap (λ (r : Reading). part_read r a) (sym own_is) ∙ has)
    (LeadsOut-same (reading_in other.reader.now) (reading_at rs (1 - l.own)) other.state (state_at l.key.now (1 - l.own)) a (sym c.requires.leaving.reader) (sym c.requires.leaving.state) out))

pub bounds-self-self : goal.bounds-self-self
bounds-self-self c = omega (arith, c.requires.leaving.own, length-readings c.args.self.now.graph.readers.now, c.requires.leaving.pair.count)

pub index-requires : goal.index-requires
index-requires c = omega (arith, c.requires.within, c.requires.marked.count)

pub index_mut-requires : goal.index_mut-requires
index_mut-requires c = omega (arith, c.requires.within, c.requires.marked.count)
