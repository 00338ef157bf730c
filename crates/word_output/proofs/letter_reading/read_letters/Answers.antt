use Rattle.std.proofs.Common.{◌≡◌, ◌↔◌, ℕ, ℤ, List, Option, Some, refl, ap, sym, ◌∙◌, subst, arith}
use Rattle.digit_tuple.specs.Deterministic.{states_of}
use Rattle.digit_tuple.specs.Letters.{product, IsWord}
use Rattle.dfa_reading.specs.Branching.{sizes_in}
use Rattle.word_output.specs.LetterReadings.{HasListedLetter}
use Rattle.word_output.specs.ListedStates.{listed_letters}
use Rattle.word_output.specs.StateLetters.{letter_led}
use Rattle.word_output.proofs.ListedStateLemmas.{letter_led-listed, word_from_tuples}
use Rattle.word_output.proofs.letter_reading.read_letters.Goals as goal

pub listed_states-requires-clause-functional : goal.listed_states-requires-clause-functional
listed_states-requires-clause-functional c = c.requires.word.functional (sizes_in c.args.listed.now.header c.args.digits.now)

pub returns-in_ok-done-in-Ok : goal.returns-in_ok-done-in-Ok
returns-in_ok-done-in-Ok c =
    let listed = c.args.listed.now in
    let sizes = sizes_in listed.header c.args.digits.now in
    let read = c.in_ok-read-in-Ok.read in
    let e = c.in-Ok.field-0.result.dfa in
    let keys = c.in-Ok.field-0.result.keys in
    let states = c.in-Ok.ensures.states in
    let letters = c.deref.ensures.value ∙ c.in_ok-letters-in-Ok.ensures ∙ ap (λ (outputs : List (Option ℤ)). listed_letters outputs keys) c.outputs.ensures in
    let size : c.states.result ≡ states_of read.automaton = c.states.ensures.value ∙ ap states_of c.dfa.ensures.value in
    record {
      line = _;
      step = record {
        made_is = record {
          sizes_are = c.in_ok-read-in-Ok.ensures.sizes ∙ states.sizes_are;
          function = c.in_ok-read-in-Ok.ensures.function;
          letters = λ tuples w letter zipped.
              let over : IsWord (product e.sizes) w = subst (λ (ss : List ℕ). IsWord (product ss) w) (sym states.sizes_are) (word_from_tuples sizes tuples w zipped) in
              subst (λ (o : Option ℤ). (o ≡ Some letter) ↔ HasListedLetter sizes listed tuples letter) (sym (c.in_ok-read-in-Ok.ensures.letters w over ∙ ap (λ (ls : List (Option ℤ)). letter_led e ls w) letters))
              (letter_led-listed sizes listed keys e states tuples w letter zipped);
        };
        line_is = record {
          alphabet = c.in-Ok.ensures.alphabet;
          kind_is = refl;
          width = c.in-Ok.ensures.width;
          size_is = size;
          small = omega (arith, size, c.in_ok-read-in-Ok.ensures.size, c.in-Ok.ensures.size);
          within = omega (arith, c.in-Ok.ensures.within, c.begin.ensures);
        };
      };
      new_is = c.in_ok-done-in-Ok.ensures.ok;
    }
