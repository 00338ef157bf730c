use Rattle.std.proofs.Common.{◌≡◌, ◌+◌, ℕ, ℤ, List, Option, Err, refl, sym, ap, ◌∙◌, subst}
use Rattle.std.specs.Result.{IsErrOf}
use Rattle.std.proofs.lemmas.Result.{err_from_is_err_and}
use Rattle.digit_tuple.specs.Deterministic.{Automaton, letters_of}
use Rattle.digit_tuple.specs.Keys.{LeadAlike}
use Rattle.digit_tuple.specs.Letters.{IsWord, product}
use Rattle.digit_tuple.specs.declared.faults.OpFault.TheVariants.{States}
use Rattle.digit_tuple.proofs.WidthLemmas.{HasApart-same, HasWidth-same}
use Rattle.word_output.specs.StateLetters.{letter_led}
use Rattle.word_transduce.specs.BlockLengths.{first_block_key, key_after}
use Rattle.word_transduce.specs.Transductions.{TransduceAlike}
use Rattle.word_transduce.proofs.AlikeLemmas.{alike_from_lead, lead_from_alike, letters-explored}
use Rattle.word_transduce.proofs.transduction.transduced.Goals as goal

pub returns-in_err-result-clause-states : goal.returns-in_err-result-clause-states
returns-in_err-result-clause-states c refused =
    let t = c.args.transducer.now in
    let f = c.args.function.now in
    let list = c.in_ok-lengths.lengths.ends in
    let out = err_from_is_err_and c.from_residual-in_err-result.result c.from_residual-in_err-result.ensures.1 in
    let same : c.from_residual-in_err-result.result ≡ Err c.in_err-result.field-0.0 = out.1 ∙ ap Err out.2 in
    let wrong : c.from_residual-in_err-result.result ≡ Err States = refused in
    let is_states : c.in_err-result.field-0.0 ≡ States = cc in
    let fault : IsErrOf c.explore_keys.result States = c.in_err-result.was ∙ ap Err is_states in
    HasApart-same (LeadAlike (key_after t f list) (first_block_key t f list)) (TransduceAlike t f) (letters_of f.automaton) (c.args.limit.most + 1)
    (λ w v over there alike. lead_from_alike t f c.has_few_lines.ensures.transducer c.dfa-dfa.ensures.function list w v over there alike) (c.explore_keys.ensures.states fault)

pub returns-clause-transduction : goal.returns-clause-transduction
returns-clause-transduction c =
    let t = c.args.transducer.now in
    let f = c.args.function.now in
    let made = c.in_ok-result.field-0.result in
    let alphabet : c.in_ok-alphabet.alphabet ≡ f.automaton.sizes = c.in_ok-alphabet.ensures ∙ c.alphabet.ensures.sizes ∙ ap (λ (x : Automaton). x.sizes) c.dfa-dfa.ensures.value in
    let sizes : made.dfa.sizes ≡ f.automaton.sizes = c.in_ok-result.ensures.sizes ∙ alphabet in
    record {
      sizes = c.in_ok-result-2.ensures.sizes ∙ sizes;
      function = c.in_ok-result-2.ensures.function;
      letters = λ w over.
          c.in_ok-result-2.ensures.letters w (subst (λ (ss : List ℕ). IsWord (product ss) w) (sym sizes) over)
          ∙ ap (λ (ls : List (Option ℤ)). letter_led made.dfa ls w) (c.deref-2.ensures.value ∙ c.in_ok-letters.ensures)
          ∙ letters-explored t f c.has_few_lines.ensures.transducer c.dfa-dfa.ensures.function c.in_ok-lengths.lengths.ends (letters_of f.automaton) _ made.keys made.dfa refl c.in_ok-result.ensures.explored c.in_ok-result.ensures.table.initial w over;
    }

pub returns-clause-width : goal.returns-clause-width
returns-clause-width c =
    let t = c.args.transducer.now in
    let f = c.args.function.now in
    let list = c.in_ok-lengths.lengths.ends in
    HasWidth-same (LeadAlike (key_after t f list) (first_block_key t f list)) (TransduceAlike t f) (letters_of f.automaton) c.in_ok-result.field-0.width
    (λ w v over there lead. alike_from_lead t f c.has_few_lines.ensures.transducer c.dfa-dfa.ensures.function list w v over there lead)
    (λ w v over there alike. lead_from_alike t f c.has_few_lines.ensures.transducer c.dfa-dfa.ensures.function list w v over there alike) c.in_ok-result.ensures.width
