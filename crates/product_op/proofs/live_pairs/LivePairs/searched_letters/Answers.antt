use Rattle.std.proofs.Common.{◌≡◌, ◌<◌, ◌++◌, ℕ, Vec, Global, true, filter, length, get_or, sym, ap, ◌∙◌, subst, arith}
use Rattle.std.specs.List.{Contains}
use Rattle.std.proofs.lemmas.List.{get_or_default}
use Rattle.std.proofs.lemmas.List.Elements.{All-contains}
use Rattle.product_op.specs.DeadPairs.{leads_on, needs_second}
use Rattle.product_op.specs.LeadingLetters.{letters_on}
use Rattle.product_op.specs.Readings.{Reading, no_reading, reading_at, reading_in, readings_in, state_at}
use Rattle.product_op.proofs.LiveLetterLemmas.{AreFound-first, AreFound-both}
use Rattle.product_op.proofs.ReaderLemmas.{length-readings, reading_at-reader}
use Rattle.product_op.proofs.PairReaders.{IsReading-at, length-automata, length-pair, table-at}
use Rattle.product_op.proofs.live_pairs.LivePairs.searched_letters.Goals as goal
use Rattle.product_op.proofs.live_pairs.LivePairs.searched_letters.Goals.{then-needs_second+in_ok-found, else-needs_second}

pub leading_on-requires-clause-letters : goal.leading_on-requires-clause-letters
leading_on-requires-clause-letters c k d within =
    let g = c.args.self.now in
    let rs = readings_in g.readers.now in
    let key = c.args.key.now in
    let two : length g.readers.now ≡ 2 = sym (length-readings g.readers.now) ∙ c.requires.pair.count in
    let f = get_or g.readers.now 0 c.index-self-0.result in
    let s = get_or g.readers.now 1 c.index-self-1.result in
    let first_is : reading_at rs 0 ≡ reading_in f = reading_at-reader g.readers.now 0 f (omega (arith, two)) (get_or_default g.readers.now 0 c.index-self-0.result f (omega (arith, two))) in
    let second_is : reading_at rs 1 ≡ reading_in s = reading_at-reader g.readers.now 1 s (omega (arith, two)) (get_or_default g.readers.now 1 c.index-self-1.result s (omega (arith, two))) in
    let long : length s.parts ≡ g.letters = subst (λ (r : Reading). length r.parts ≡ g.letters) second_is (c.requires.pair.readings_are 1 no_reading (omega (arith, c.requires.pair.count))).count in
    let found = c.deref.result.now in
    let items : found ≡ letters_on (reading_in f) (state_at key 0) = c.deref.ensures.value ∙ c.in_ok-add_letters.ensures ∙ ap (λ ls. ls ++ letters_on (reading_in f) (state_at key 0)) c.new-found.ensures.items in
    let a = get_or found k d in
    let there : Contains found a = (k, within, get_or_default found k a d within) in
    omega (arith, All-contains (λ b. b < g.letters) found a (AreFound-first g.letters g.op rs c.requires.pair key found (items ∙ ap (λ (r : Reading). letters_on r (state_at key 0)) (sym first_is))).in_range there, long)

pub returns : goal.returns
returns c =
    let g = c.args.self.now in
    let rs = readings_in g.readers.now in
    let key = c.args.key.now in
    let two : length g.readers.now ≡ 2 = sym (length-readings g.readers.now) ∙ c.requires.pair.count in
    let f = get_or g.readers.now 0 c.index-self-0.result in
    let first_is : reading_at rs 0 ≡ reading_in f = reading_at-reader g.readers.now 0 f (omega (arith, two)) (get_or_default g.readers.now 0 c.index-self-0.result f (omega (arith, two))) in
    let items : c.add_letters.new.letters.items ≡ letters_on (reading_at rs 0) (state_at key 0) =
    c.in_ok-add_letters.ensures ∙ ap (λ ls. ls ++ letters_on (reading_in f) (state_at key 0)) c.new-found.ensures.items ∙ ap (λ (r : Reading). letters_on r (state_at key 0)) (sym first_is) in
    let found = c.if-needs_second.found.items in
    elim c.if-needs_second.branch [
      | then-needs_second+in_ok-found w ↦
          (let s = get_or g.readers.now 1 w.index-self-1.result in
          let second_is : reading_at rs 1 ≡ reading_in s = reading_at-reader g.readers.now 1 s (omega (arith, two)) (get_or_default g.readers.now 1 w.index-self-1.result s (omega (arith, two))) in
          let needs : needs_second g.op ≡ true = sym c.needs_second.ensures ∙ w.if-needs_second.true in
          AreFound-both g.letters g.op rs c.requires.pair key needs found
          (ap (λ (v : Vec ℕ Global). v.items) w.found-is ∙ w.in_ok-found.ensures ∙ ap (filter (leads_on (reading_in s) (state_at key 1))) (w.deref.ensures.value ∙ items)
          ∙ ap (λ (r : Reading). filter (leads_on r (state_at key 1)) (letters_on (reading_at rs 0) (state_at key 0))) (sym second_is)))
      | else-needs_second w ↦ AreFound-first g.letters g.op rs c.requires.pair key found (ap (λ (v : Vec ℕ Global). v.items) w.found-is ∙ items)
    ]

pub bounds-self-0 : goal.bounds-self-0
bounds-self-0 c =
    let g = c.args.self.now in
    omega (arith, length-pair g.letters g.op g.readers.now c.requires.pair)

pub bounds-key-0 : goal.bounds-key-0
bounds-key-0 c = omega (arith, c.requires.key.count, c.requires.pair.count)

pub bounds-self-1 : goal.bounds-self-1
bounds-self-1 c =
    let g = c.args.self.now in
    omega (arith, length-pair g.letters g.op g.readers.now c.requires.pair)

pub bounds-key-1 : goal.bounds-key-1
bounds-key-1 c = omega (arith, c.requires.key.count, c.requires.pair.count)

pub bounds-self-1-then-needs_second : goal.bounds-self-1-then-needs_second
bounds-self-1-then-needs_second c =
    let g = c.args.self.now in
    omega (arith, ap length c.requires.tables, length-automata (readings_in g.readers.now), c.requires.pair.count)

pub leading_on-requires-clause-reading : goal.leading_on-requires-clause-reading
leading_on-requires-clause-reading c =
    let g = c.args.self.now in
    let s = get_or g.readers.now 1 c.index-self-1.result in
    IsReading-at g.letters g.op g.readers.now c.requires.pair 1 s (omega arith) (get_or_default g.readers.now 1 c.index-self-1.result s (omega (arith, length-pair g.letters g.op g.readers.now c.requires.pair)))

pub leading_on-requires-clause-table : goal.leading_on-requires-clause-table
leading_on-requires-clause-table c =
    let g = c.args.self.now in
    let s = get_or g.readers.now 1 c.index-self-1.result in
    table-at g.letters g.op g.readers.now c.requires.pair g.tables.now 1 s c.index-self-1-then-needs_second.result c.requires.tables (omega arith) (get_or_default g.readers.now 1 c.index-self-1.result s (omega (arith, length-pair g.letters g.op g.readers.now c.requires.pair)))
