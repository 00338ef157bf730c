use Rattle.std.proofs.Common.{◌≡◌, ◌+◌, ◌<◌, ◌++◌, ◌∷◌, [], ℕ, Bool, false, List, length, slice_index_or, sym, ap, ◌∙◌, subst}
use Rattle.std.specs.Result.{IsErrOf}
use Rattle.digit_tuple.specs.Deterministic.{letters_of}
use Rattle.digit_tuple.specs.Explored.{key_at}
use Rattle.digit_tuple.specs.Letters.{product}
use Rattle.digit_tuple.specs.Width.{HasApart, HasWidth}
use Rattle.digit_tuple.specs.declared.faults.OpFault.TheVariants as faults
use Rattle.product_op.specs.declared.reader.Reader.{Reader}
use Rattle.product_op.specs.Readings.{AreReadings, Reading, readings_in}
use Rattle.product_op.specs.Tuples.{AreTuples, LeadToOne}
use Rattle.lang_ops.specs.PairKeys.{key_holds}
use Rattle.lang_ops.specs.Pairs.{PairAlike}
use Rattle.lang_ops.proofs.PairLemmas.{both, combined_accepts, handed_on, pair_apart, pair_width, reads_both, same_fault, two_readings}
use Rattle.lang_ops.proofs.pairs.combined.Goals as goal

pub explore_tuples-requires : goal.explore_tuples-requires
explore_tuples-requires c =
    let a = c.args.a.now in
    let b = c.args.b.now in
    let one = c.in_ok-whole_reader.field-0 in
    let two = c.in_ok-whole_reader-2.field-0 in
    let items = c.deref.ensures.value ∙ c.in_ok-push-2.ensures.items ∙ ap (λ (rs : List Reader). rs ++ two ∷ []) (c.in_ok-push.ensures.items ∙ ap (λ (rs : List Reader). rs ++ one ∷ []) c.new-readers.ensures.items) in
    let tie = two_readings c.deref.result.now one two a b items c.in_ok-whole_reader.ensures c.in_ok-whole_reader-2.ensures in
    let sizes = c.in_ok-alphabet.ensures ∙ c.alphabet.ensures.sizes in
    subst (λ (rs : List Reading). AreReadings (product c.in_ok-alphabet.alphabet) rs) (sym tie)
    (subst (λ (ss : List ℕ). AreReadings (product ss) (both a b c.requires.first c.requires.second c.requires.sizes)) (sym sizes) (reads_both a b c.requires.first c.requires.second c.requires.sizes))

pub returns-in_err-result-clause-states : goal.returns-in_err-result-clause-states
returns-in_err-result-clause-states c =
    let a = c.args.a.now in
    let b = c.args.b.now in
    let one = c.in_ok-whole_reader.field-0 in
    let two = c.in_ok-whole_reader-2.field-0 in
    let items = c.deref.ensures.value ∙ c.in_ok-push-2.ensures.items ∙ ap (λ (rs : List Reader). rs ++ two ∷ []) (c.in_ok-push.ensures.items ∙ ap (λ (rs : List Reader). rs ++ one ∷ []) c.new-readers.ensures.items) in
    let tie = two_readings c.deref.result.now one two a b items c.in_ok-whole_reader.ensures c.in_ok-whole_reader-2.ensures in
    let sizes = c.in_ok-alphabet.ensures ∙ c.alphabet.ensures.sizes in
    handed_on (λ r. IsErrOf r faults.States → HasApart (PairAlike a b) (letters_of a) (c.args.limit.most + 1)) c.from_residual-in_err-result.result c.in_err-result.field-0.0 c.from_residual-in_err-result.ensures.1
    (λ refused. pair_apart a b c.requires.first c.requires.second c.requires.sizes (c.args.limit.most + 1)
    (subst (λ (rs : List Reading). HasApart (LeadToOne rs) (letters_of a) (c.args.limit.most + 1)) tie
    (subst (λ (ss : List ℕ). HasApart (LeadToOne (readings_in c.deref.result.now)) (product ss) (c.args.limit.most + 1)) sizes (c.in_err-result.ensures.states (same_fault c.in_err-result.field-0.0 faults.States refused)))))

pub returns-clause-language : goal.returns-clause-language
returns-clause-language c =
    let a = c.args.a.now in
    let b = c.args.b.now in
    let one = c.in_ok-whole_reader.field-0 in
    let two = c.in_ok-whole_reader-2.field-0 in
    let items = c.deref.ensures.value ∙ c.in_ok-push-2.ensures.items ∙ ap (λ (rs : List Reader). rs ++ two ∷ []) (c.in_ok-push.ensures.items ∙ ap (λ (rs : List Reader). rs ++ one ∷ []) c.new-readers.ensures.items) in
    let tie = two_readings c.deref.result.now one two a b items c.in_ok-whole_reader.ensures c.in_ok-whole_reader-2.ensures in
    let sizes = c.in_ok-alphabet.ensures ∙ c.alphabet.ensures.sizes in
    let explored = c.in_ok-result.field-0.result in
    let tuples : AreTuples (letters_of a) (both a b c.requires.first c.requires.second c.requires.sizes) explored.keys explored.dfa =
    subst (λ (rs : List Reading). AreTuples (letters_of a) rs explored.keys explored.dfa) tie
    (subst (λ (ss : List ℕ). AreTuples (product ss) (readings_in c.deref.result.now) explored.keys explored.dfa) sizes c.in_ok-result.ensures.tuples) in
    combined_accepts a b c.requires.first c.requires.second c.requires.sizes c.args.op c.requires.none explored.keys explored.dfa c.with_accepting.result c.deref-2.result.now (c.in_ok-result.ensures.sizes ∙ sizes) tuples
    (subst (λ (bs : List Bool). (q : ℕ) → q < length explored.keys → slice_index_or bs q false ≡ key_holds c.args.op a b (key_at explored.keys q)) (sym c.deref-2.ensures.value) c.in_ok-flags.ensures.flags) c.with_accepting.ensures c.in_ok-result-2.result c.in_ok-result-2.ensures.language

pub returns-clause-width : goal.returns-clause-width
returns-clause-width c =
    let a = c.args.a.now in
    let b = c.args.b.now in
    let one = c.in_ok-whole_reader.field-0 in
    let two = c.in_ok-whole_reader-2.field-0 in
    let items = c.deref.ensures.value ∙ c.in_ok-push-2.ensures.items ∙ ap (λ (rs : List Reader). rs ++ two ∷ []) (c.in_ok-push.ensures.items ∙ ap (λ (rs : List Reader). rs ++ one ∷ []) c.new-readers.ensures.items) in
    let tie = two_readings c.deref.result.now one two a b items c.in_ok-whole_reader.ensures c.in_ok-whole_reader-2.ensures in
    let sizes = c.in_ok-alphabet.ensures ∙ c.alphabet.ensures.sizes in
    let width = c.in_ok-result.field-0.width in
    pair_width a b c.requires.first c.requires.second c.requires.sizes width
    (subst (λ (rs : List Reading). HasWidth (LeadToOne rs) (letters_of a) width) tie
    (subst (λ (ss : List ℕ). HasWidth (LeadToOne (readings_in c.deref.result.now)) (product ss) width) sizes c.in_ok-result.ensures.width))
