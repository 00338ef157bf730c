use Rattle.std.proofs.Common.{◌≡◌, List, true, length, get_or, sym, ap, ◌∙◌, subst, arith}
use Rattle.std.proofs.lemmas.List.{get_or_default}
use Rattle.digit_tuple.specs.declared.transitions.Transition.{Transition}
use Rattle.digit_tuple.specs.Deterministic.{IsRow, letters_of, states_of, transitions_of}
use Rattle.product_op.specs.DeadPairs.{needs_second}
use Rattle.product_op.specs.Readings.{Reading, reading_at, reading_in, readings_in, state_at}
use Rattle.product_op.proofs.LetterJoinLemmas.{AreFound-joined}
use Rattle.product_op.proofs.ReaderLemmas.{length-readings, reading_at-reader}
use Rattle.product_op.proofs.PairReaders.{length-pair}
use Rattle.product_op.proofs.live_pairs.LivePairs.joined_letters.Goals as goal

pub add_letters-requires-clause-first : goal.add_letters-requires-clause-first
add_letters-requires-clause-first c k z within =
    let readers = c.args.self.now.readers.now in
    let two : length readers ≡ 2 = sym (length-readings readers) ∙ c.requires.pair.count in
    let f = get_or readers 0 c.index-self-0.result in
    let d = f.dfa.now in
    let first_is : reading_at (readings_in readers) 0 ≡ reading_in f = reading_at-reader readers 0 f (omega (arith, two)) (get_or_default readers 0 c.index-self-0.result f (omega (arith, two))) in
    let row = subst (λ (es : List Transition). IsRow (letters_of d) (states_of d) es) (sym c.deref.ensures.value) c.in_ok-read_row.ensures.transitions in
    omega (arith, (row.in_range k z within).0, c.requires.join.first_count ∙ ap (λ (r : Reading). letters_of r.automaton) first_is)

pub add_letters-requires-clause-second : goal.add_letters-requires-clause-second
add_letters-requires-clause-second c k z within =
    let readers = c.args.self.now.readers.now in
    let two : length readers ≡ 2 = sym (length-readings readers) ∙ c.requires.pair.count in
    let s = get_or readers 1 c.index-self-1.result in
    let d = s.dfa.now in
    let second_is : reading_at (readings_in readers) 1 ≡ reading_in s = reading_at-reader readers 1 s (omega (arith, two)) (get_or_default readers 1 c.index-self-1.result s (omega (arith, two))) in
    let row = subst (λ (es : List Transition). IsRow (letters_of d) (states_of d) es) (sym c.deref-2.ensures.value) c.in_ok-read_row-2.ensures.transitions in
    omega (arith, (row.in_range k z within).0, c.requires.join.second_count ∙ ap (λ (r : Reading). letters_of r.automaton) second_is)

pub returns : goal.returns
returns c =
    let g = c.args.self.now in
    let readers = g.readers.now in
    let rs = readings_in readers in
    let key = c.args.key.now in
    let two : length readers ≡ 2 = sym (length-readings readers) ∙ c.requires.pair.count in
    let f = get_or readers 0 c.index-self-0.result in
    let s = get_or readers 1 c.index-self-1.result in
    let first_is : reading_at rs 0 ≡ reading_in f = reading_at-reader readers 0 f (omega (arith, two)) (get_or_default readers 0 c.index-self-0.result f (omega (arith, two))) in
    let second_is : reading_at rs 1 ≡ reading_in s = reading_at-reader readers 1 s (omega (arith, two)) (get_or_default readers 1 c.index-self-1.result s (omega (arith, two))) in
    let needs : needs_second g.op ≡ true = sym c.needs_second.ensures ∙ c.if-not-needs_second.false in
    AreFound-joined g.letters g.op rs c.requires.pair key needs c.args.join.now c.requires.join c.deref.result.now c.deref-2.result.now c.add_letters.new.found.items
    (c.deref.ensures.value ∙ c.in_ok-read_row.ensures.row ∙ ap (λ (r : Reading). transitions_of r.automaton (state_at key 0)) (sym first_is))
    (c.deref-2.ensures.value ∙ c.in_ok-read_row-2.ensures.row ∙ ap (λ (r : Reading). transitions_of r.automaton (state_at key 1)) (sym second_is))
    c.in_ok-add_letters.ensures.below c.in_ok-add_letters.ensures.joined

pub bounds-self-0 : goal.bounds-self-0
bounds-self-0 c =
    let g = c.args.self.now in
    omega (arith, length-pair g.letters g.op g.readers.now c.requires.pair)

pub bounds-key-0 : goal.bounds-key-0
bounds-key-0 c = omega (arith, c.requires.key.count, c.requires.pair.count)

pub bounds-self-1 : goal.bounds-self-1
bounds-self-1 c =
    let g = c.args.self.now in
    omega (arith, length-pair g.letters g.op g.readers.now c.requires.pair)

pub bounds-key-1 : goal.bounds-key-1
bounds-key-1 c = omega (arith, c.requires.key.count, c.requires.pair.count)

pub bounds-self-0-2 : goal.bounds-self-0-2
bounds-self-0-2 c =
    let g = c.args.self.now in
    omega (arith, length-pair g.letters g.op g.readers.now c.requires.pair)

pub add_letters-requires-clause-positive : goal.add_letters-requires-clause-positive
add_letters-requires-clause-positive c = c.requires.join.positive
