use Rattle.std.proofs.Common.{◌≡◌, ◌+◌, ◌∷◌, [], ℕ, List, true, false, sym, ap, ◌∙◌, subst, arith, length}
use Rattle.std.proofs.lemmas.Result.{IfOk-weaker}
use Rattle.digit_tuple.specs.Deterministic.{Automaton, states_of}
use Rattle.digit_tuple.specs.Explored.{IsExplored}
use Rattle.digit_tuple.specs.FirstWords.{IsNumberedByFirsts}
use Rattle.digit_tuple.specs.Keys.{LeadAlike}
use Rattle.digit_tuple.specs.Letters.{product}
use Rattle.digit_tuple.specs.Width.{HasApart, HasWidth}
use Rattle.digit_tuple.proofs.WidthLemmas.{HasApart-one}
use Rattle.minimise.proofs.NoWordLemmas.{IsCanonical-bare}
use Rattle.product_op.specs.declared.rule.Rule.TheVariants as rules
use Rattle.product_op.specs.Readings.{readings_in, first_key, combined, flags_at, AreReadings}
use Rattle.product_op.specs.SinkKeys.{is_dead_key, live_key_after}
use Rattle.product_op.specs.Tuples.{LeadToOne}
use Rattle.product_op.proofs.ResultLemmas.{IfOk-two, IfOk-three}
use Rattle.product_op.proofs.TupleLemmas.{AreTuples-live, AreTuples-dead, width-live, width-dead, apart-live}
use Rattle.product_op.proofs.KeyLemmas.{length-first_key}
use Rattle.product_op.proofs.ReaderLemmas.{length-readings}
use Rattle.product_op.specs.LeadingLetters.{AreFewLetters}
use Rattle.product_op.proofs.tuples.explore_tuples.Goals as goal

pub returns-then-is_dead-clause-tuples : goal.returns-then-is_dead-clause-tuples
returns-then-is_dead-clause-tuples c =
    let rs = readings_in c.args.readers.now in
    let first = c.deref.ensures.value ∙ c.in_ok-few.ensures.first in
    let dead : is_dead_key rules.All rs (first_key rs) ≡ true = ap (is_dead_key rules.All rs) (sym first) ∙ sym c.is_dead.ensures ∙ c.if-is_dead.true in
    IfOk-two c.explore_none.result _ _ _
    (λ stepped only keys. AreTuples-dead rs rules.All dead (product c.args.alphabet) c.requires c.args.alphabet stepped.result.keys stepped.result.dfa only
    (keys ∙ ap (λ (k : List ℕ). k ∷ []) (c.deref-then-is_dead.ensures.value ∙ c.in_ok-few.ensures.first)))
    c.explore_none.ensures.only c.explore_none.ensures.keys

pub returns-then-is_dead-clause-numbered : goal.returns-then-is_dead-clause-numbered
returns-then-is_dead-clause-numbered c =
    let bare = IsCanonical-bare c.args.alphabet in
    IfOk-weaker c.explore_none.result _ _ (λ stepped only. (bare.firsts, subst (λ (d : Automaton). IsNumberedByFirsts d bare.firsts) (sym only) bare.numbered)) c.explore_none.ensures.only

pub returns-then-is_dead-clause-width : goal.returns-then-is_dead-clause-width
returns-then-is_dead-clause-width c =
    let rs = readings_in c.args.readers.now in
    let first = c.deref.ensures.value ∙ c.in_ok-few.ensures.first in
    let dead : is_dead_key rules.All rs (first_key rs) ≡ true = ap (is_dead_key rules.All rs) (sym first) ∙ sym c.is_dead.ensures ∙ c.if-is_dead.true in
    IfOk-weaker c.explore_none.result _ _
    (λ stepped one. subst (HasWidth (LeadToOne rs) (product c.args.alphabet)) (sym one) (width-dead rs rules.All dead (product c.args.alphabet)))
    c.explore_none.ensures.width

pub returns-then-is_dead-clause-states : goal.returns-then-is_dead-clause-states
returns-then-is_dead-clause-states c refused =
    let alike = LeadToOne (readings_in c.args.readers.now) in
    let one : 1 ≡ c.args.limit.most + 1 = omega (arith, c.explore_none.ensures.states refused) in
    subst (HasApart alike (product c.args.alphabet)) one (HasApart-one alike (product c.args.alphabet))

pub returns-clause-tuples : goal.returns-clause-tuples
returns-clause-tuples c =
    let rs = readings_in c.args.readers.now in
    let first = c.deref.ensures.value ∙ c.in_ok-few.ensures.first in
    let live : is_dead_key rules.All rs (first_key rs) ≡ false = ap (is_dead_key rules.All rs) (sym first) ∙ sym c.is_dead.ensures ∙ c.if-is_dead.false in
    IfOk-three c.explore_keys.result _ _ _ _
    (λ stepped table explored keys.
    AreTuples-live rs rules.All live (product c.args.alphabet) (λ key. combined rules.All (flags_at rs key)) stepped.result.keys stepped.result.dfa
    (subst (λ n. IsExplored n (first_key rs) (live_key_after rules.All rs) (λ key. combined rules.All (flags_at rs key)) stepped.result.keys stepped.result.dfa) c.letters-letters.ensures.value explored) table.initial keys)
    c.explore_keys.ensures.table c.explore_keys.ensures.explored c.explore_keys.ensures.keys

pub returns-clause-width : goal.returns-clause-width
returns-clause-width c =
    let rs = readings_in c.args.readers.now in
    let first = c.deref.ensures.value ∙ c.in_ok-few.ensures.first in
    let live : is_dead_key rules.All rs (first_key rs) ≡ false = ap (is_dead_key rules.All rs) (sym first) ∙ sym c.is_dead.ensures ∙ c.if-is_dead.false in
    IfOk-weaker c.explore_keys.result _ _
    (λ stepped width. width-live rs rules.All live (product c.args.alphabet) stepped.width (subst (λ n. HasWidth (LeadAlike (live_key_after rules.All rs) (first_key rs)) n stepped.width) c.letters-letters.ensures.value width))
    c.explore_keys.ensures.width

pub returns-clause-states : goal.returns-clause-states
returns-clause-states c refused =
    let rs = readings_in c.args.readers.now in
    let first = c.deref.ensures.value ∙ c.in_ok-few.ensures.first in
    let live : is_dead_key rules.All rs (first_key rs) ≡ false = ap (is_dead_key rules.All rs) (sym first) ∙ sym c.is_dead.ensures ∙ c.if-is_dead.false in
    apart-live rs rules.All live (product c.args.alphabet) (c.args.limit.most + 1)
    (subst (λ n. HasApart (LeadAlike (live_key_after rules.All rs) (first_key rs)) n (c.args.limit.most + 1)) c.letters-letters.ensures.value (c.explore_keys.ensures.states refused))

pub is_dead-requires : goal.is_dead-requires
is_dead-requires c =
    let readers = c.args.readers.now in
    ap length (c.deref.ensures.value ∙ c.in_ok-few.ensures.first) ∙ length-first_key (readings_in readers) ∙ length-readings readers

pub returns-clause-sizes : goal.returns-clause-sizes
returns-clause-sizes c = c.explore_keys.ensures.sizes

pub returns-clause-within : goal.returns-clause-within
returns-clause-within c = c.explore_keys.ensures.within

pub returns-clause-no_letters : goal.returns-clause-no_letters
returns-clause-no_letters c = c.explore_keys.ensures.no_letters

pub explore_keys-requires-clause-graph : goal.explore_keys-requires-clause-graph
explore_keys-requires-clause-graph c =
    let rs = readings_in c.args.readers.now in
    let letters = c.letters-letters.result in (
      record { readings_are = subst (λ n. AreReadings n rs) (sym c.letters-letters.ensures.value) c.requires; enough = omega arith },
      subst (AreFewLetters letters) (sym c.as_slice-2.ensures.value) c.in_ok-few.ensures.few,
      c.as_slice.ensures.value ∙ c.in_ok-few.ensures.tables,
    )

pub explore_keys-requires-clause-letters : goal.explore_keys-requires-clause-letters
explore_keys-requires-clause-letters c = c.letters-letters.ensures.value

pub returns-then-is_dead-clause-within : goal.returns-then-is_dead-clause-within
returns-then-is_dead-clause-within c = c.explore_none.ensures.within

pub returns-then-is_dead-clause-no_letters : goal.returns-then-is_dead-clause-no_letters
returns-then-is_dead-clause-no_letters c = c.explore_none.ensures.no_letters

pub returns-then-is_dead-clause-sizes : goal.returns-then-is_dead-clause-sizes
returns-then-is_dead-clause-sizes c =
    IfOk-weaker c.explore_none.result _ _ (λ stepped only. ap (λ (d : Automaton). d.sizes) only) c.explore_none.ensures.only

pub returns-then-is_dead-clause-size : goal.returns-then-is_dead-clause-size
returns-then-is_dead-clause-size c =
    IfOk-two c.explore_none.result _ _ _ (λ stepped only one. omega (arith, ap states_of only, one)) c.explore_none.ensures.only c.explore_none.ensures.width
