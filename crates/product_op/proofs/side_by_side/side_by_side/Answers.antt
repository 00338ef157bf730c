use Rattle.std.proofs.Common.{◌≡◌, ◌+◌, true, false, [], sym, ap, ◌∙◌, subst, arith, length}
use Rattle.std.proofs.lemmas.Result.{IfOk-weaker}
use Rattle.digit_tuple.specs.Deterministic.{Automaton, accepts_of, states_of}
use Rattle.digit_tuple.specs.Letters.{product}
use Rattle.digit_tuple.specs.Width.{HasApart, HasWidth}
use Rattle.digit_tuple.proofs.NoWordLemmas.{bare_refuses}
use Rattle.digit_tuple.proofs.WidthLemmas.{HasApart-one, HasApart-same, HasWidth-one, HasWidth-same}
use Rattle.digit_tuple.specs.Keys.{LeadAlike}
use Rattle.minimise.specs.Canonical.{IsCanonical}
use Rattle.product_op.specs.Readings.{readings_in, AreAlike, first_key, AreSideBySide}
use Rattle.product_op.specs.SinkKeys.{is_dead_key, live_key_after}
use Rattle.product_op.proofs.KeyLemmas.{key_accepts-flags, alike_from_keys, keys_from_alike, dead-alike, dead-flags, length-first_key}
use Rattle.minimise.proofs.NoWordLemmas.{IsCanonical-bare}
use Rattle.product_op.proofs.ReaderLemmas.{length-readings}
use Rattle.product_op.specs.LeadingLetters.{AreFewLetters}
use Rattle.product_op.proofs.ResultLemmas.{IfOk-two}
use Rattle.product_op.proofs.side_by_side.side_by_side.Goals as goal

pub returns-then-is_dead-clause-canonical : goal.returns-then-is_dead-clause-canonical
returns-then-is_dead-clause-canonical c =
    IfOk-weaker c.no_words_within.result _ _ (λ stepped is. subst IsCanonical (sym is) (IsCanonical-bare c.args.alphabet)) c.no_words_within.ensures.no_words

pub returns-then-is_dead-clause-language : goal.returns-then-is_dead-clause-language
returns-then-is_dead-clause-language c =
    let rs = readings_in c.args.readers.now in
    let dead : is_dead_key c.args.rule rs (first_key rs) ≡ true = ap (is_dead_key c.args.rule rs) (sym (c.deref.ensures.value ∙ c.in_ok-few.ensures.first)) ∙ sym c.is_dead.ensures ∙ c.if-is_dead.true in
    IfOk-weaker c.no_words_within.result _ _
    (λ stepped is w over. ap (λ (d : Automaton). accepts_of d w) is ∙ bare_refuses c.args.alphabet w ∙ sym (dead-flags rs (product c.args.alphabet) c.requires.readers.readings_are c.args.rule dead w))
    c.no_words_within.ensures.no_words

pub returns-then-is_dead-clause-width : goal.returns-then-is_dead-clause-width
returns-then-is_dead-clause-width c =
    let rs = readings_in c.args.readers.now in
    let dead : is_dead_key c.args.rule rs (first_key rs) ≡ true = ap (is_dead_key c.args.rule rs) (sym (c.deref.ensures.value ∙ c.in_ok-few.ensures.first)) ∙ sym c.is_dead.ensures ∙ c.if-is_dead.true in
    let letters = product c.args.alphabet in
    IfOk-weaker c.no_words_within.result _ _
    (λ stepped one. subst (HasWidth (AreAlike rs) letters) (sym one) (HasWidth-one (AreAlike rs) letters (λ w over. dead-alike rs letters c.requires.readers.readings_are c.args.rule dead w [])))
    c.no_words_within.ensures.width

pub returns-then-is_dead-clause-states : goal.returns-then-is_dead-clause-states
returns-then-is_dead-clause-states c refused =
    let alike = AreAlike (readings_in c.args.readers.now) in
    let letters = product c.args.alphabet in
    let one : 1 ≡ c.args.limit.most + 1 = omega (arith, c.no_words_within.ensures.states.0 refused) in
    subst (HasApart alike letters) one (HasApart-one alike letters)

pub returns-clause-language : goal.returns-clause-language
returns-clause-language c =
    let rs = readings_in c.args.readers.now in
    let live : is_dead_key c.args.rule rs (first_key rs) ≡ false = ap (is_dead_key c.args.rule rs) (sym (c.deref.ensures.value ∙ c.in_ok-few.ensures.first)) ∙ sym c.is_dead.ensures ∙ c.if-is_dead.false in
    IfOk-weaker c.explore_canonical.result _ _ (λ stepped h w over. h w over ∙ key_accepts-flags rs c.args.rule live w) c.explore_canonical.ensures.language

pub returns-clause-width : goal.returns-clause-width
returns-clause-width c =
    let rs = readings_in c.args.readers.now in
    let rule = c.args.rule in
    let letters = product c.args.alphabet in
    let live : is_dead_key rule rs (first_key rs) ≡ false = ap (is_dead_key rule rs) (sym (c.deref.ensures.value ∙ c.in_ok-few.ensures.first)) ∙ sym c.is_dead.ensures ∙ c.if-is_dead.false in
    IfOk-weaker c.explore_canonical.result _ _
    (λ stepped. HasWidth-same (LeadAlike (live_key_after rule rs) (first_key rs)) (AreAlike rs) letters stepped.width
    (λ w v over there same. alike_from_keys rs letters c.requires.readers.readings_are rule live w v same)
    (keys_from_alike rs letters c.requires.readers.readings_are rule live c.requires.canonical))
    c.explore_canonical.ensures.width

pub returns-clause-states : goal.returns-clause-states
returns-clause-states c refused =
    let rs = readings_in c.args.readers.now in
    let rule = c.args.rule in
    let letters = product c.args.alphabet in
    let live : is_dead_key rule rs (first_key rs) ≡ false = ap (is_dead_key rule rs) (sym (c.deref.ensures.value ∙ c.in_ok-few.ensures.first)) ∙ sym c.is_dead.ensures ∙ c.if-is_dead.false in
    HasApart-same (LeadAlike (live_key_after rule rs) (first_key rs)) (AreAlike rs) letters (c.args.limit.most + 1) (keys_from_alike rs letters c.requires.readers.readings_are rule live c.requires.canonical) (c.explore_canonical.ensures.states refused)

pub is_dead-requires : goal.is_dead-requires
is_dead-requires c =
    let readers = c.args.readers.now in
    ap length (c.deref.ensures.value ∙ c.in_ok-few.ensures.first) ∙ length-first_key (readings_in readers) ∙ length-readings readers

pub returns-clause-sizes : goal.returns-clause-sizes
returns-clause-sizes c = c.explore_canonical.ensures.sizes

pub returns-clause-canonical : goal.returns-clause-canonical
returns-clause-canonical c = c.explore_canonical.ensures.canonical

pub returns-clause-size : goal.returns-clause-size
returns-clause-size c = c.explore_canonical.ensures.size

pub returns-clause-within : goal.returns-clause-within
returns-clause-within c = c.explore_canonical.ensures.within

pub returns-clause-no_letters : goal.returns-clause-no_letters
returns-clause-no_letters c = c.explore_canonical.ensures.no_letters

pub explore_canonical-requires-clause-graph : goal.explore_canonical-requires-clause-graph
explore_canonical-requires-clause-graph c =
    let rs = readings_in c.args.readers.now in
    let letters = c.letters-letters.result in (
      subst (λ n. AreSideBySide n rs c.args.rule) (sym c.letters-letters.ensures.value) c.requires.readers,
      subst (AreFewLetters letters) (sym c.as_slice-2.ensures.value) c.in_ok-few.ensures.few,
      c.as_slice.ensures.value ∙ c.in_ok-few.ensures.tables,
    )

pub explore_canonical-requires-clause-letters : goal.explore_canonical-requires-clause-letters
explore_canonical-requires-clause-letters c = c.letters-letters.ensures.value

pub returns-then-is_dead-clause-sizes : goal.returns-then-is_dead-clause-sizes
returns-then-is_dead-clause-sizes c =
    IfOk-weaker c.no_words_within.result _ _ (λ stepped is. ap (λ (d : Automaton). d.sizes) is) c.no_words_within.ensures.no_words

pub returns-then-is_dead-clause-size : goal.returns-then-is_dead-clause-size
returns-then-is_dead-clause-size c =
    IfOk-two c.no_words_within.result _ _ _ (λ stepped is one. omega (arith, ap states_of is, one)) c.no_words_within.ensures.no_words c.no_words_within.ensures.width

pub returns-then-is_dead-clause-within : goal.returns-then-is_dead-clause-within
returns-then-is_dead-clause-within c =
    IfOk-two c.no_words_within.result _ _ _ (λ stepped one within. omega (arith, one, within)) c.no_words_within.ensures.width c.no_words_within.ensures.within

pub returns-then-is_dead-clause-no_letters : goal.returns-then-is_dead-clause-no_letters
returns-then-is_dead-clause-no_letters c = c.no_words_within.ensures.letters
