use Rattle.std.proofs.Common.{◌+◌, length, ap, ◌∙◌, arith, sym, subst}
use Rattle.std.proofs.lemmas.Result.{IfOk-weaker}
use Rattle.digit_tuple.specs.Letters.{product}
use Rattle.digit_tuple.proofs.WidthLemmas.{HasApart-same, HasWidth-same}
use Rattle.product_op.specs.Readings.{readings_in, AreAlike}
use Rattle.product_op.specs.Tuples.{LeadToOne}
use Rattle.product_op.proofs.TupleLemmas.{alike_from_one, one_from_alike}
use Rattle.product_op.proofs.KeyLemmas.{length-first_key}
use Rattle.product_op.proofs.PairReaders.{length-pair}
use Rattle.product_op.specs.DeadPairs.{ArePair, is_dead_pair}
use Rattle.product_op.specs.LeadingLetters.{AreFewLetters}
use Rattle.product_op.proofs.side_by_side.pair_by_pair.Goals as goal

pub returns-clause-width : goal.returns-clause-width
returns-clause-width c =
    let rs = readings_in c.args.readers.now in
    let letters = product c.args.alphabet in
    let are = c.requires.pair.readings_are in
    IfOk-weaker c.pairs_needing_first.result _ _
    (λ stepped. HasWidth-same (LeadToOne rs) (AreAlike rs) letters stepped.width (λ w v over there. alike_from_one rs letters are w v) (one_from_alike rs letters are c.requires.canonical))
    c.pairs_needing_first.ensures.width

pub returns-clause-states : goal.returns-clause-states
returns-clause-states c refused =
    let rs = readings_in c.args.readers.now in
    let letters = product c.args.alphabet in
    HasApart-same (LeadToOne rs) (AreAlike rs) letters (c.args.limit.most + 1) (one_from_alike rs letters c.requires.pair.readings_are c.requires.canonical) (c.pairs_needing_first.ensures.states refused)

pub is_dead-requires-clause-count : goal.is_dead-requires-clause-count
is_dead-requires-clause-count c = length-pair (product c.args.alphabet) c.args.op c.args.readers.now c.requires.pair

pub is_dead-requires-clause-key : goal.is_dead-requires-clause-key
is_dead-requires-clause-key c =
    let rs = readings_in c.args.readers.now in
    ap length (c.deref.ensures.value ∙ c.in_ok-few.ensures.first) ∙ length-first_key rs ∙ c.requires.pair.count

pub side_by_side-requires-clause-readers : goal.side_by_side-requires-clause-readers
side_by_side-requires-clause-readers c = record { readings_are = c.requires.pair.readings_are; enough = omega (arith, c.requires.pair.count) }

pub side_by_side-requires-clause-canonical : goal.side_by_side-requires-clause-canonical
side_by_side-requires-clause-canonical c = c.requires.canonical

pub returns-then-is_dead-clause-sizes : goal.returns-then-is_dead-clause-sizes
returns-then-is_dead-clause-sizes c = c.side_by_side.ensures.sizes

pub returns-then-is_dead-clause-canonical : goal.returns-then-is_dead-clause-canonical
returns-then-is_dead-clause-canonical c = c.side_by_side.ensures.canonical

pub returns-then-is_dead-clause-language : goal.returns-then-is_dead-clause-language
returns-then-is_dead-clause-language c = c.side_by_side.ensures.language

pub returns-then-is_dead-clause-width : goal.returns-then-is_dead-clause-width
returns-then-is_dead-clause-width c = c.side_by_side.ensures.width

pub returns-then-is_dead-clause-size : goal.returns-then-is_dead-clause-size
returns-then-is_dead-clause-size c = c.side_by_side.ensures.size

pub returns-then-is_dead-clause-within : goal.returns-then-is_dead-clause-within
returns-then-is_dead-clause-within c = c.side_by_side.ensures.within

pub returns-then-is_dead-clause-states : goal.returns-then-is_dead-clause-states
returns-then-is_dead-clause-states c = c.side_by_side.ensures.states

pub returns-then-is_dead-clause-no_letters : goal.returns-then-is_dead-clause-no_letters
returns-then-is_dead-clause-no_letters c = c.side_by_side.ensures.no_letters

pub returns-clause-sizes : goal.returns-clause-sizes
returns-clause-sizes c = c.pairs_needing_first.ensures.sizes

pub returns-clause-canonical : goal.returns-clause-canonical
returns-clause-canonical c = c.pairs_needing_first.ensures.canonical

pub returns-clause-language : goal.returns-clause-language
returns-clause-language c = c.pairs_needing_first.ensures.language

pub returns-clause-size : goal.returns-clause-size
returns-clause-size c = c.pairs_needing_first.ensures.size

pub returns-clause-within : goal.returns-clause-within
returns-clause-within c = c.pairs_needing_first.ensures.within

pub returns-clause-no_letters : goal.returns-clause-no_letters
returns-clause-no_letters c = c.pairs_needing_first.ensures.no_letters

pub pair_join-requires : goal.pair_join-requires
pair_join-requires c =
    let rs = readings_in c.args.readers.now in
    record { pair = subst (λ n. ArePair n c.args.op rs) (sym c.letters-letters.ensures.value) c.requires.pair }

pub pairs_needing_first-requires-clause-pair : goal.pairs_needing_first-requires-clause-pair
pairs_needing_first-requires-clause-pair c =
    let rs = readings_in c.args.readers.now in
    subst (λ n. ArePair n c.args.op rs) (sym c.letters-letters.ensures.value) c.requires.pair

pub pairs_needing_first-requires-clause-few : goal.pairs_needing_first-requires-clause-few
pairs_needing_first-requires-clause-few c = subst (AreFewLetters c.letters-letters.result) (sym c.as_slice-2.ensures.value) c.in_ok-few.ensures.few

pub pairs_needing_first-requires-clause-tables : goal.pairs_needing_first-requires-clause-tables
pairs_needing_first-requires-clause-tables c = c.as_slice.ensures.value ∙ c.in_ok-few.ensures.tables

pub pairs_needing_first-requires-clause-join : goal.pairs_needing_first-requires-clause-join
pairs_needing_first-requires-clause-join c = c.in_ok-join.ensures

pub pairs_needing_first-requires-clause-letters : goal.pairs_needing_first-requires-clause-letters
pairs_needing_first-requires-clause-letters c = c.letters-letters.ensures.value

pub pairs_needing_first-requires-clause-live : goal.pairs_needing_first-requires-clause-live
pairs_needing_first-requires-clause-live c =
    let rs = readings_in c.args.readers.now in
    ap (is_dead_pair c.args.op rs) (sym (c.deref.ensures.value ∙ c.in_ok-few.ensures.first)) ∙ sym c.is_dead.ensures ∙ c.if-is_dead.false
