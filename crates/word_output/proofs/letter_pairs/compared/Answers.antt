use Rattle.std.proofs.Common.{◌↔◌, ◌+◌, ◌<◌, ◌++◌, ◌∷◌, [], ℕ, Bool, false, List, length, IsTrue, slice_index_or, sym, ap, ◌∙◌, subst}
use Rattle.std.specs.Result.{IsErrOf}
use Rattle.digit_tuple.specs.Deterministic.{Automaton, letters_of}
use Rattle.digit_tuple.specs.Letters.{product}
use Rattle.digit_tuple.specs.Width.{HasApart, HasWidth}
use Rattle.digit_tuple.specs.declared.faults.OpFault.TheVariants as faults
use Rattle.product_op.specs.declared.reader.Reader.{Reader}
use Rattle.product_op.specs.Readings.{AreReadings, Reading, readings_in}
use Rattle.product_op.specs.TrackReadings.{whole_reading}
use Rattle.product_op.specs.Tuples.{AreTuples, LeadToOne}
use Rattle.num_system.proofs.LineLemmas.{handed_on}
use Rattle.digit_tuple.specs.Explored.{key_at}
use Rattle.word_output.specs.KeyLetters.{BothAlike, KeyCompares}
use Rattle.word_output.proofs.OptionLemmas.{same_fault}
use Rattle.word_output.proofs.PairLetters.{apart_pairs, both, least_accepts, reads_both, two_readings, width_pairs}
use Rattle.word_output.proofs.letter_pairs.compared.Goals as goal

pub explore_tuples-requires : goal.explore_tuples-requires
explore_tuples-requires c =
    let f = c.args.first.now in
    let g = c.args.second.now in
    let is_f = c.dfa.ensures.function in
    let is_g = c.dfa-3.ensures.function in
    let one = c.in_ok-whole_reader.field-0 in
    let two = c.in_ok-whole_reader-2.field-0 in
    let items = c.deref.ensures.value ∙ c.in_ok-push-2.ensures.items ∙ ap (λ (rs : List Reader). rs ++ two ∷ []) (c.in_ok-push.ensures.items ∙ ap (λ (rs : List Reader). rs ++ one ∷ []) c.new-readers.ensures.items) in
    let tie = two_readings c.deref.result.now one two f.automaton g.automaton items
    (c.in_ok-whole_reader.ensures ∙ ap whole_reading c.dfa-2.ensures.value) (c.in_ok-whole_reader-2.ensures ∙ ap whole_reading c.dfa-3.ensures.value) in
    let sizes = c.in_ok-alphabet.ensures ∙ c.alphabet.ensures.sizes ∙ ap (λ (d : Automaton). d.sizes) c.dfa.ensures.value in
    subst (λ (rs : List Reading). AreReadings (product c.in_ok-alphabet.alphabet) rs) (sym tie)
    (subst (λ (ss : List ℕ). AreReadings (product ss) (both f g is_f is_g c.requires)) (sym sizes) (reads_both f g is_f is_g c.requires))

pub returns-in_err-result-clause-states : goal.returns-in_err-result-clause-states
returns-in_err-result-clause-states c =
    let f = c.args.first.now in
    let g = c.args.second.now in
    let is_f = c.dfa.ensures.function in
    let is_g = c.dfa-3.ensures.function in
    let one = c.in_ok-whole_reader.field-0 in
    let two = c.in_ok-whole_reader-2.field-0 in
    let items = c.deref.ensures.value ∙ c.in_ok-push-2.ensures.items ∙ ap (λ (rs : List Reader). rs ++ two ∷ []) (c.in_ok-push.ensures.items ∙ ap (λ (rs : List Reader). rs ++ one ∷ []) c.new-readers.ensures.items) in
    let tie = two_readings c.deref.result.now one two f.automaton g.automaton items
    (c.in_ok-whole_reader.ensures ∙ ap whole_reading c.dfa-2.ensures.value) (c.in_ok-whole_reader-2.ensures ∙ ap whole_reading c.dfa-3.ensures.value) in
    let sizes = c.in_ok-alphabet.ensures ∙ c.alphabet.ensures.sizes ∙ ap (λ (d : Automaton). d.sizes) c.dfa.ensures.value in
    handed_on (λ r. IsErrOf r faults.States → HasApart (BothAlike f g) (letters_of f.automaton) (c.args.limit.most + 1)) c.from_residual-in_err-result.result c.in_err-result.field-0.0 c.from_residual-in_err-result.ensures.1
    (λ refused. apart_pairs f g is_f is_g c.requires (c.args.limit.most + 1)
    (subst (λ (rs : List Reading). HasApart (LeadToOne rs) (letters_of f.automaton) (c.args.limit.most + 1)) tie
    (subst (λ (ss : List ℕ). HasApart (LeadToOne (readings_in c.deref.result.now)) (product ss) (c.args.limit.most + 1)) sizes (c.in_err-result.ensures.states (same_fault c.in_err-result.field-0.0 faults.States refused)))))

pub returns-clause-language : goal.returns-clause-language
returns-clause-language c =
    let f = c.args.first.now in
    let g = c.args.second.now in
    let is_f = c.dfa.ensures.function in
    let is_g = c.dfa-3.ensures.function in
    let one = c.in_ok-whole_reader.field-0 in
    let two = c.in_ok-whole_reader-2.field-0 in
    let items = c.deref.ensures.value ∙ c.in_ok-push-2.ensures.items ∙ ap (λ (rs : List Reader). rs ++ two ∷ []) (c.in_ok-push.ensures.items ∙ ap (λ (rs : List Reader). rs ++ one ∷ []) c.new-readers.ensures.items) in
    let tie = two_readings c.deref.result.now one two f.automaton g.automaton items
    (c.in_ok-whole_reader.ensures ∙ ap whole_reading c.dfa-2.ensures.value) (c.in_ok-whole_reader-2.ensures ∙ ap whole_reading c.dfa-3.ensures.value) in
    let sizes = c.in_ok-alphabet.ensures ∙ c.alphabet.ensures.sizes ∙ ap (λ (d : Automaton). d.sizes) c.dfa.ensures.value in
    let explored = c.in_ok-result.field-0.result in
    let tuples : AreTuples (letters_of f.automaton) (both f g is_f is_g c.requires) explored.keys explored.dfa =
    subst (λ (rs : List Reading). AreTuples (letters_of f.automaton) rs explored.keys explored.dfa) tie
    (subst (λ (ss : List ℕ). AreTuples (product ss) (readings_in c.deref.result.now) explored.keys explored.dfa) sizes c.in_ok-result.ensures.tuples) in
    least_accepts f g is_f is_g c.requires c.args.comparison explored.keys explored.dfa c.with_accepting.result c.deref-2.result.now (c.in_ok-result.ensures.sizes ∙ sizes) tuples
    (subst (λ (bs : List Bool). (q : ℕ) → q < length explored.keys → IsTrue (slice_index_or bs q false) ↔ KeyCompares c.args.comparison f g (key_at explored.keys q)) (sym c.deref-2.ensures.value) c.in_ok-flags.ensures.flags) c.with_accepting.ensures c.in_ok-result-2.result c.in_ok-result-2.ensures.language

pub returns-clause-width : goal.returns-clause-width
returns-clause-width c =
    let f = c.args.first.now in
    let g = c.args.second.now in
    let is_f = c.dfa.ensures.function in
    let is_g = c.dfa-3.ensures.function in
    let one = c.in_ok-whole_reader.field-0 in
    let two = c.in_ok-whole_reader-2.field-0 in
    let items = c.deref.ensures.value ∙ c.in_ok-push-2.ensures.items ∙ ap (λ (rs : List Reader). rs ++ two ∷ []) (c.in_ok-push.ensures.items ∙ ap (λ (rs : List Reader). rs ++ one ∷ []) c.new-readers.ensures.items) in
    let tie = two_readings c.deref.result.now one two f.automaton g.automaton items
    (c.in_ok-whole_reader.ensures ∙ ap whole_reading c.dfa-2.ensures.value) (c.in_ok-whole_reader-2.ensures ∙ ap whole_reading c.dfa-3.ensures.value) in
    let sizes = c.in_ok-alphabet.ensures ∙ c.alphabet.ensures.sizes ∙ ap (λ (d : Automaton). d.sizes) c.dfa.ensures.value in
    let width = c.in_ok-result.field-0.width in
    width_pairs f g is_f is_g c.requires width
    (subst (λ (rs : List Reading). HasWidth (LeadToOne rs) (letters_of f.automaton) width) tie
    (subst (λ (ss : List ℕ). HasWidth (LeadToOne (readings_in c.deref.result.now)) (product ss) width) sizes c.in_ok-result.ensures.width))
