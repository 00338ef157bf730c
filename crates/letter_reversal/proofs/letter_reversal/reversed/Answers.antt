use Rattle.std.proofs.Common.{◌≡◌, ◌+◌, ◌≤◌, ℕ, ℤ, List, Option, Err, length, map, sym, ap, ◌∙◌, subst}
use Rattle.std.specs.List.{All}
use Rattle.std.specs.Result.{IsErrOf}
use Rattle.std.proofs.lemmas.Result.{err_from_is_err_and}
use Rattle.digit_tuple.specs.Deterministic.{Automaton, letters_of}
use Rattle.digit_tuple.specs.Letters.{IsWord, product}
use Rattle.digit_tuple.specs.Width.{HasApart, HasWidth}
use Rattle.digit_tuple.specs.declared.faults.OpFault.TheVariants.{States}
use Rattle.digit_tuple.proofs.WidthLemmas.{HasApart-same, HasWidth-same}
use Rattle.class_reversal.specs.ReversedClasses.{GivesReversedClasses, SameReversedClassAfter}
use Rattle.word_output.specs.LetterFunctions.{letter_in}
use Rattle.word_output.specs.StateLetters.{letter_led}
use Rattle.letter_reversal.specs.LetterReversals.{ReversedLettersAlike}
use Rattle.letter_reversal.proofs.ReversedLetters.{classes_from_letters, classes_within, letters_from_classes, letters_reversed}
use Rattle.letter_reversal.proofs.letter_reversal.reversed.Goals as goal

pub returns-in_err-result-clause-states : goal.returns-in_err-result-clause-states
returns-in_err-result-clause-states c refused =
    let f = c.args.function.now in
    let out = err_from_is_err_and c.from_residual.result c.from_residual.ensures.1 in
    let same : c.from_residual.result ≡ Err c.in_err-result.field-0.0 = out.1 ∙ ap Err out.2 in
    let wrong : c.from_residual.result ≡ Err States = refused in
    let is_states : c.in_err-result.field-0.0 ≡ States = cc in
    let fault : IsErrOf c.reverse_reached.result States = c.in_err-result.was ∙ ap Err is_states in
    HasApart-same (SameReversedClassAfter f.automaton f.classes) (ReversedLettersAlike f) (letters_of f.automaton) (c.args.limit.most + 1)
    (λ w v over there alike. classes_from_letters f c.dfa.ensures.function w v alike)
    (subst (λ (d : Automaton). HasApart (SameReversedClassAfter d f.classes) (letters_of d) (c.args.limit.most + 1)) c.dfa.ensures.value
    (subst (λ (classes : List ℕ). HasApart (SameReversedClassAfter c.dfa.result.now classes) (letters_of c.dfa.result.now) (c.args.limit.most + 1)) c.classes.ensures.value (c.reverse_reached.ensures.states fault)))

pub class_letters-requires : goal.class_letters-requires
class_letters-requires c =
    let f = c.args.function.now in
    let made = c.in_ok-result.field-0.result in
    let given : GivesReversedClasses f.automaton f.classes made.0 made.1.items =
    subst (λ (d : Automaton). GivesReversedClasses d f.classes made.0 made.1.items) c.dfa.ensures.value
    (subst (λ (classes : List ℕ). GivesReversedClasses c.dfa.result.now classes made.0 made.1.items) c.classes.ensures.value c.in_ok-result.ensures.function) in
    let sizes = c.in_ok-result.ensures.sizes ∙ ap (λ (d : Automaton). d.sizes) c.dfa.ensures.value in
    subst (λ (letters : List ℤ). All (λ class. class ≤ length letters) c.deref.result.now) (sym c.letters.ensures.value)
    (subst (All (λ class. class ≤ length f.letters)) (sym c.deref.ensures.value) (classes_within f c.dfa.ensures.function made.0 made.1.items sizes c.in_ok-result.ensures.canonical given))

pub returns-clause-reversal : goal.returns-clause-reversal
returns-clause-reversal c =
    let f = c.args.function.now in
    let made = c.in_ok-result.field-0.result in
    let given : GivesReversedClasses f.automaton f.classes made.0 made.1.items =
    subst (λ (d : Automaton). GivesReversedClasses d f.classes made.0 made.1.items) c.dfa.ensures.value
    (subst (λ (classes : List ℕ). GivesReversedClasses c.dfa.result.now classes made.0 made.1.items) c.classes.ensures.value c.in_ok-result.ensures.function) in
    let sizes = c.in_ok-result.ensures.sizes ∙ ap (λ (d : Automaton). d.sizes) c.dfa.ensures.value in
    let letters : c.deref-2.result.now ≡ map (letter_in f.letters) made.1.items =
    c.deref-2.ensures.value ∙ c.in_ok-letters.ensures ∙ ap (λ (classes : List ℕ). map (letter_in c.letters.result.now) classes) c.deref.ensures.value ∙ ap (λ (ls : List ℤ). map (letter_in ls) made.1.items) c.letters.ensures.value in
    record {
      sizes = c.in_ok-result-2.ensures.sizes ∙ sizes;
      function = c.in_ok-result-2.ensures.function;
      letters = λ w over.
          c.in_ok-result-2.ensures.letters w (subst (λ (ss : List ℕ). IsWord (product ss) w) (sym sizes) over)
          ∙ ap (λ (ls : List (Option ℤ)). letter_led made.0 ls w) letters
          ∙ letters_reversed f c.dfa.ensures.function made.0 made.1.items sizes c.in_ok-result.ensures.canonical given w over;
    }

pub returns-clause-width : goal.returns-clause-width
returns-clause-width c =
    let f = c.args.function.now in
    let width = c.in_ok-result.field-0.width in
    HasWidth-same (SameReversedClassAfter f.automaton f.classes) (ReversedLettersAlike f) (letters_of f.automaton) width
    (λ w v over there same. letters_from_classes f c.dfa.ensures.function w v same)
    (λ w v over there alike. classes_from_letters f c.dfa.ensures.function w v alike)
    (subst (λ (d : Automaton). HasWidth (SameReversedClassAfter d f.classes) (letters_of d) width) c.dfa.ensures.value
    (subst (λ (classes : List ℕ). HasWidth (SameReversedClassAfter c.dfa.result.now classes) (letters_of c.dfa.result.now) width) c.classes.ensures.value c.in_ok-result.ensures.width))
