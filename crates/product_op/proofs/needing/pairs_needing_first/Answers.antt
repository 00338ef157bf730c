use Rattle.std.proofs.Common.{rules, ◌≡◌, ◌+◌, ◌≤◌, length, sym, ap, ◌∙◌, subst, arith}
use Rattle.digit_tuple.specs.Deterministic.{letters_of, states_of}
use Rattle.digit_tuple.specs.Keys.{LeadAlike}
use Rattle.digit_tuple.specs.Letters.{product, IsWord}
use Rattle.digit_tuple.specs.Width.{HasApart, HasWidth}
use Rattle.product_op.specs.DeadPairs.{live_pair_after, pair_accepts}
use Rattle.product_op.specs.Readings.{readings_in, first_key}
use Rattle.product_op.specs.Tuples.{LeadToOne}
use Rattle.product_op.proofs.DeadPairLemmas.{pair_accepts-flags}
use Rattle.product_op.proofs.PairListLemmas.{HoldLive-explored}
use Rattle.product_op.proofs.PairWidths.{apart_pairs, states_within_pairs}
use Rattle.product_op.proofs.needing.pairs_needing_first.Goals as goal

pub add_dead_pairs-requires-clause-live : goal.add_dead_pairs-requires-clause-live
add_dead_pairs-requires-clause-live c =
    let g = c.args.graph.now in
    let made = c.in_ok-live.live.result in
    HoldLive-explored g.letters (readings_in g.readers.now) g.op c.requires.pair c.requires.live (pair_accepts g.op (readings_in g.readers.now)) made.keys made.dfa c.in_ok-live.ensures.explored
    c.in_ok-live.ensures.numbered.0 c.in_ok-live.ensures.numbered.1 (ap product c.in_ok-live.ensures.sizes ∙ sym c.requires.letters) c.in_ok-live.ensures.table.initial c.in_ok-live.ensures.keys

pub returns-clause-language : goal.returns-clause-language
returns-clause-language c w over =
    let g = c.args.graph.now in
    sym (c.in_ok-result.ensures.language w (subst (λ n. IsWord n w) (sym (ap product c.in_ok-live.ensures.sizes)) over))
    ∙ c.in_ok-live.ensures.language w (subst (λ n. IsWord n w) (sym c.requires.letters) over)
    ∙ pair_accepts-flags (readings_in g.readers.now) g.op g.letters c.requires.pair c.requires.live w

pub returns-clause-size : goal.returns-clause-size
returns-clause-size c =
    let g = c.args.graph.now in
    let rs = readings_in g.readers.now in
    let d = c.in_ok-result.result in
    let e = c.in_ok-live.live.result.dfa in
    let same : letters_of d ≡ letters_of e = ap product c.in_ok-result.ensures.sizes in
    let letters : letters_of e ≡ g.letters = ap product c.in_ok-live.ensures.sizes ∙ sym c.requires.letters in
    let all : states_of d ≤ length c.add_dead_pairs.new.keys = states_within_pairs g.letters g.op rs c.requires.pair c.requires.live (pair_accepts g.op rs) d c.in_ok-result.ensures.canonical (same ∙ letters)
    (λ w over. let there = subst (λ n. IsWord n w) same over in sym (c.in_ok-result.ensures.language w there) ∙ c.in_ok-live.ensures.language w (subst (λ n. IsWord n w) letters there))
    c.in_ok-live.live.width (length c.add_dead_pairs.new.keys)
    (subst (λ n. HasWidth (LeadAlike (live_pair_after g.op rs) (first_key rs)) n c.in_ok-live.live.width) (sym (same ∙ letters)) c.in_ok-live.ensures.width)
    c.in_ok-live.ensures.width c.in_ok-add_dead_pairs.ensures.width in
    omega (arith, all, c.len-width.ensures.len)

pub returns-in_err-live-clause-states : goal.returns-in_err-live-clause-states
returns-in_err-live-clause-states c refused =
    let g = c.args.graph.now in
    let rs = readings_in g.readers.now in
    let from = c.from_residual.ensures in
    let some : HasApart (LeadAlike (live_pair_after g.op rs) (first_key rs)) g.letters (c.args.limit.most + 1) = search rules in
    subst (λ n. HasApart (LeadToOne rs) n (c.args.limit.most + 1)) c.requires.letters (apart_pairs g.letters g.op rs c.requires.pair c.requires.live (c.args.limit.most + 1) some)

pub explore_keys-requires-clause-graph : goal.explore_keys-requires-clause-graph
explore_keys-requires-clause-graph c = (c.requires.pair, c.requires.few, c.requires.tables, c.requires.join)

pub explore_keys-requires-clause-letters : goal.explore_keys-requires-clause-letters
explore_keys-requires-clause-letters c = c.requires.letters

pub add_dead_pairs-requires-clause-pair : goal.add_dead_pairs-requires-clause-pair
add_dead_pairs-requires-clause-pair c = c.requires.pair

pub add_dead_pairs-requires-clause-tables : goal.add_dead_pairs-requires-clause-tables
add_dead_pairs-requires-clause-tables c = c.requires.tables

pub returns-clause-sizes : goal.returns-clause-sizes
returns-clause-sizes c = c.in_ok-result.ensures.sizes ∙ c.in_ok-live.ensures.sizes

pub returns-clause-canonical : goal.returns-clause-canonical
returns-clause-canonical c = c.in_ok-result.ensures.canonical

pub returns-clause-within : goal.returns-clause-within
returns-clause-within c = omega (arith, c.in_ok-add_dead_pairs.ensures.within, c.len-width.ensures.len)
