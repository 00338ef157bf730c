use Rattle.std.proofs.Common.{◌≡◌, ◌==◌, ◌++◌, true, length, ap, sym, ◌∙◌, arith}
use Rattle.std.proofs.lemmas.Result.{IfOk-weaker}
use Rattle.std.proofs.lemmas.List.Filters.{dedup_is}
use Rattle.product_op.specs.Readings.{Reading, reading_in, readings_in, state_at}
use Rattle.product_op.specs.SinkKeys.{refuses_all_sinks, live_key_after}
use Rattle.product_op.specs.LeadingLetters.{letters_on}
use Rattle.product_op.proofs.ReaderLemmas.{length-readings, reading_at-reader}
use Rattle.product_op.proofs.FoundLetters.{letters_to, letters_to_more, AreLeading-found, AreLeading-all}
use Rattle.product_op.proofs.reader_graph.SideBySide.leading_letters.Goals as goal

pub returns-then-not-refuses_all_sinks : goal.returns-then-not-refuses_all_sinks
returns-then-not-refuses_all_sinks c =
    let s = c.args.self.now in
    IfOk-weaker c.numbers_below.result _ _ (λ letters are. AreLeading-all s.letters (live_key_after s.rule (readings_in s.readers.now) c.args.key.now) letters.items are) c.numbers_below.ensures

pub returns-then-len-self : goal.returns-then-len-self
returns-then-len-self c =
    let s = c.args.self.now in
    IfOk-weaker c.numbers_below-then-len-self.result _ _ (λ letters are. AreLeading-all s.letters (live_key_after s.rule (readings_in s.readers.now) c.args.key.now) letters.items are) c.numbers_below-then-len-self.ensures

pub loop-place-preserved : goal.loop-place-preserved
loop-place-preserved c =
    let readers = c.args.self.now.readers.now in
    let rs = readings_in readers in
    let key = c.args.key.now in
    let place = c.loop-place.place in
    let here = reading_at-reader readers place c.reader-item.result c.loop-place-test.true c.reader-item.is in
    c.in_ok-add_letters.ensures
    ∙ ap (λ ls. ls ++ letters_on (reading_in c.reader-item.result) (state_at key place)) c.loop-place.invariant
    ∙ ap (λ (r : Reading). letters_to rs key place ++ letters_on r (state_at key place)) (sym here)
    ∙ sym (letters_to_more rs key place)

pub returns : goal.returns
returns c =
    let s = c.args.self.now in
    let rs = readings_in s.readers.now in
    let found = c.loop-place.letters.items in
    let sorted = c.sort_unstable.new.self.items in
    let refuses : refuses_all_sinks s.rule (length rs) ≡ true = ap (refuses_all_sinks s.rule) (length-readings s.readers.now) ∙ sym c.refuses_all_sinks.ensures ∙ c.if-not-refuses_all_sinks.false in
    let whole : c.loop-place.place ≡ length rs = omega (arith, length-readings s.readers.now, c.loop-place.auto.place-end, c.loop-place-test.false) in
    AreLeading-found s.letters rs c.requires.graph.readings_are s.rule refuses c.args.key.now found sorted c.dedup.new.self.items
    (c.loop-place.invariant ∙ ap (letters_to rs c.args.key.now) whole) c.sort_unstable.ensures.permutation c.sort_unstable.ensures.sorted (dedup_is (λ a b. a == b) sorted c.dedup.new.self.items c.dedup.ensures.filtered)

pub bounds-key-place : goal.bounds-key-place
bounds-key-place c = omega (arith, c.loop-place-test.true, c.requires.key.count, length-readings c.args.self.now.readers.now)
