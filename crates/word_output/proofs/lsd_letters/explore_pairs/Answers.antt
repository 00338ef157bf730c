use Rattle.std.proofs.Common.{◌≡◌, ◌+◌, ℕ, ℤ, Bool, List, Option, Err, sym, ap, ◌∙◌, subst}
use Rattle.std.specs.Result.{IsErrOf}
use Rattle.std.proofs.lemmas.Result.{err_from_is_err_and}
use Rattle.digit_tuple.specs.Deterministic.{Automaton, letters_of}
use Rattle.digit_tuple.specs.Explored.{IsExplored}
use Rattle.digit_tuple.specs.Keys.{LeadAlike}
use Rattle.digit_tuple.specs.Letters.{product, IsWord}
use Rattle.digit_tuple.specs.Width.{HasApart, HasWidth}
use Rattle.digit_tuple.specs.declared.faults.OpFault.TheVariants.{States}
use Rattle.digit_tuple.proofs.WidthLemmas.{HasApart-same, HasWidth-same}
use Rattle.residual_classes.specs.Classes.{first_of}
use Rattle.pad_rename.specs.PaddedPairs.{pair_after, twice}
use Rattle.word_output.specs.LetterPaddings.{LsdLettersAlike}
use Rattle.word_output.specs.StateLetters.{letter_led}
use Rattle.word_output.proofs.LsdLetterLemmas.{alike_from_pairs, letters-pairs, pairs_from_alike}
use Rattle.word_output.proofs.lsd_letters.explore_pairs.Goals as goal

pub returns-in_err-result-clause-states : goal.returns-in_err-result-clause-states
returns-in_err-result-clause-states c refused =
    let f = c.args.function.now in
    let d = f.automaton in
    let dfa : c.dfa.result.now ≡ d = c.dfa.ensures.value in
    let letters : c.letters.result ≡ letters_of d = c.letters.ensures.value ∙ ap product c.requires.alphabet in
    let out = err_from_is_err_and c.from_residual.result c.from_residual.ensures.1 in
    let same : c.from_residual.result ≡ Err c.in_err-result.field-0.0 = out.1 ∙ ap Err out.2 in
    let wrong : c.from_residual.result ≡ Err States = refused in
    let is_states : c.in_err-result.field-0.0 ≡ States = cc in
    let fault : IsErrOf c.explore_keys.result States = c.in_err-result.was ∙ ap Err is_states in
    HasApart-same (LeadAlike (pair_after d) (twice (first_of d))) (LsdLettersAlike f) (letters_of d) (c.args.limit.most + 1) (pairs_from_alike f c.dfa.ensures.function c.requires.some)
    (subst (λ (x : Automaton). HasApart (LeadAlike (pair_after x) (twice (first_of x))) (letters_of d) (c.args.limit.most + 1)) dfa
    (subst (λ n. HasApart (LeadAlike (pair_after c.dfa.result.now) (twice (first_of c.dfa.result.now))) n (c.args.limit.most + 1)) letters (c.explore_keys.ensures.states fault)))

pub returns-clause-padding : goal.returns-clause-padding
returns-clause-padding c =
    let f = c.args.function.now in
    let is = c.dfa.ensures.function in
    let e = c.in_ok-result.field-0.result.dfa in
    let sizes : e.sizes ≡ f.automaton.sizes = c.in_ok-result.ensures.sizes ∙ c.requires.alphabet in
    let letters : letters_of f.automaton ≡ c.letters.result = sym (c.letters.ensures.value ∙ ap product c.requires.alphabet) in
    let at : (accepts : List ℕ → Bool) × IsExplored c.letters.result (twice (first_of c.dfa.result.now)) (pair_after c.dfa.result.now) accepts c.in_ok-result.field-0.result.keys e = (_, c.in_ok-result.ensures.explored) in
    let found = subst (λ (x : Automaton). (accepts : List ℕ → Bool) × IsExplored c.letters.result (twice (first_of x)) (pair_after x) accepts c.in_ok-result.field-0.result.keys e) c.dfa.ensures.value at in
    record {
      sizes = c.in_ok-result-2.ensures.sizes ∙ sizes;
      function = c.in_ok-result-2.ensures.function;
      letters = λ w over.
          c.in_ok-result-2.ensures.letters w (subst (λ (ss : List ℕ). IsWord (product ss) w) (sym sizes) over)
          ∙ ap (λ (ls : List (Option ℤ)). letter_led e ls w) (c.deref.ensures.value ∙ c.in_ok-letters.ensures)
          ∙ letters-pairs f is c.requires.some c.letters.result found.0 c.in_ok-result.field-0.result.keys e
          found.1
          c.in_ok-result.ensures.table.initial w (subst (λ n. IsWord n w) letters over);
    }

pub returns-clause-width : goal.returns-clause-width
returns-clause-width c =
    let f = c.args.function.now in
    let d = f.automaton in
    let dfa : c.dfa.result.now ≡ d = c.dfa.ensures.value in
    let letters : c.letters.result ≡ letters_of d = c.letters.ensures.value ∙ ap product c.requires.alphabet in
    let width = c.in_ok-result.field-0.width in
    HasWidth-same (LeadAlike (pair_after d) (twice (first_of d))) (LsdLettersAlike f) (letters_of d) width (alike_from_pairs f c.dfa.ensures.function c.requires.some) (pairs_from_alike f c.dfa.ensures.function c.requires.some)
    (subst (λ (x : Automaton). HasWidth (LeadAlike (pair_after x) (twice (first_of x))) (letters_of d) width) dfa
    (subst (λ n. HasWidth (LeadAlike (pair_after c.dfa.result.now) (twice (first_of c.dfa.result.now))) n width) letters c.in_ok-result.ensures.width))
