use Rattle.std.proofs.Common.{◌≡◌, ◌+◌, ◌∷◌, [], ℕ, ℤ, List, Option, None, Err, sym, ap, ◌∙◌, subst, arith}
use Rattle.std.specs.Result.{IsErrOf}
use Rattle.std.proofs.lemmas.Result.{err_from_is_err_and}
use Rattle.digit_tuple.specs.Deterministic.{Automaton, letters_of}
use Rattle.digit_tuple.specs.FirstWords.{IsNumberedByFirsts}
use Rattle.digit_tuple.specs.Letters.{product, IsWord}
use Rattle.digit_tuple.specs.Width.{HasApart, HasWidth}
use Rattle.digit_tuple.specs.declared.faults.OpFault.TheVariants.{States}
use Rattle.digit_tuple.proofs.WidthLemmas.{HasApart-one, HasWidth-one}
use Rattle.digit_tuple.specs.Paddings.{strip}
use Rattle.digit_tuple.specs.declared.direction.Direction.TheVariants.{Lsd}
use Rattle.minimise.proofs.NoWordLemmas.{IsCanonical-bare}
use Rattle.word_output.specs.LetterPaddings.{LsdLettersAlike}
use Rattle.word_output.specs.StateLetters.{letter_led}
use Rattle.word_output.proofs.LsdLetterLemmas.{letter_led-bare, never, never-alike}
use Rattle.word_output.proofs.lsd_letters.no_letters.Goals as goal

pub returns-in_err-result-clause-states : goal.returns-in_err-result-clause-states
returns-in_err-result-clause-states c refused =
    let f = c.args.function.now in
    let out = err_from_is_err_and c.from_residual.result c.from_residual.ensures.1 in
    let same : c.from_residual.result ≡ Err c.in_err-result.field-0.0 = out.1 ∙ ap Err out.2 in
    let wrong : c.from_residual.result ≡ Err States = refused in
    let is_states : c.in_err-result.field-0.0 ≡ States = cc in
    let fault : IsErrOf c.no_words_within.result States = c.in_err-result.was ∙ ap Err is_states in
    let one : 1 ≡ c.args.limit.most + 1 = omega (arith, c.no_words_within.ensures.states.0 fault) in
    subst (HasApart (LsdLettersAlike f) (letters_of f.automaton)) one (HasApart-one (LsdLettersAlike f) (letters_of f.automaton))

pub of_states-requires-clause-reached : goal.of_states-requires-clause-reached
of_states-requires-clause-reached c =
    let bare = IsCanonical-bare c.args.alphabet in
    (bare.firsts, subst (λ (e : Automaton). IsNumberedByFirsts e bare.firsts) (sym c.in_ok-result.ensures.no_words) bare.numbered)

pub returns-clause-padding : goal.returns-clause-padding
returns-clause-padding c =
    let f = c.args.function.now in
    let is = c.letters-letters.ensures.function in
    let e = c.in_ok-result.field-0.result in
    let sizes : e.sizes ≡ f.automaton.sizes = ap (λ (x : Automaton). x.sizes) c.in_ok-result.ensures.no_words ∙ c.requires.alphabet in
    record {
      sizes = c.in_ok-result-2.ensures.sizes ∙ sizes;
      function = c.in_ok-result-2.ensures.function;
      letters = λ w over.
          c.in_ok-result-2.ensures.letters w (subst (λ (ss : List ℕ). IsWord (product ss) w) (sym sizes) over)
          ∙ ap (λ (ls : List (Option ℤ)). letter_led e ls w) (c.deref.ensures.value ∙ c.in_ok-letters.ensures.items)
          ∙ ap (λ (x : Automaton). letter_led x (None ∷ []) w) c.in_ok-result.ensures.no_words
          ∙ letter_led-bare c.args.alphabet w ∙ sym (never f is c.requires.none (strip Lsd w));
    }

pub returns-clause-width : goal.returns-clause-width
returns-clause-width c =
    let f = c.args.function.now in
    subst (HasWidth (LsdLettersAlike f) (letters_of f.automaton)) (sym c.in_ok-result.ensures.width)
    (HasWidth-one (LsdLettersAlike f) (letters_of f.automaton) (λ w over. never-alike f c.letters-letters.ensures.function c.requires.none w []))
