use Rattle.std.proofs.Common.{◌≡◌, ◌+◌, ℕ, ℤ, List, Option, Err, map, refl, ap, sym, ◌∙◌, subst, arith}
use Rattle.std.specs.Rc.{rc_value}
use Rattle.std.specs.Result.{IsErrOf}
use Rattle.digit_tuple.specs.Deterministic.{Automaton, letters_of, states_of}
use Rattle.digit_tuple.specs.Letters.{product, IsAlphabet, IsWord}
use Rattle.digit_tuple.specs.Width.{HasApart, HasWidth}
use Rattle.digit_tuple.specs.declared.faults.OpFault.TheVariants.{States}
use Rattle.product_op.specs.Readings.{AreReadings, Reading, readings_in}
use Rattle.product_op.specs.TrackReadings.{AllFitTracks, validity_readings}
use Rattle.product_op.specs.Tuples.{AreTuples, LeadToOne}
use Rattle.product_op.proofs.ProductLemmas.{AreReadings-validity}
use Rattle.product_op.proofs.ReadingLemmas.{AllFitTracks-languages}
use Rattle.word_output.specs.StateLetters.{letter_led}
use Rattle.word_output.specs.ValidLetters.{tuple_letters}
use Rattle.word_output.proofs.ValidLetterLemmas.{apart-valid, letters-tuples, width-valid}
use Rattle.word_output.proofs.valid_letters.valid_letters.Goals as goal

pub explore_tuples-requires : goal.explore_tuples-requires
explore_tuples-requires c =
    let f = c.args.function.now in
    let languages = map rc_value c.args.languages.now in
    let fit : AllFitTracks f.automaton.sizes languages = AllFitTracks-languages f.automaton.sizes languages c.requires in
    let are = ap readings_in c.deref.ensures.value ∙ c.in_ok-readers.ensures ∙ ap (λ (d : Automaton). validity_readings d languages) c.dfa-dfa.ensures.value in
    let sizes = c.in_ok-alphabet.ensures ∙ c.alphabet.ensures.sizes ∙ ap (λ (d : Automaton). d.sizes) c.dfa-dfa.ensures.value in
    subst (λ (rs : List Reading). AreReadings (product c.in_ok-alphabet.alphabet) rs) (sym are)
    (subst (λ ss. AreReadings (product ss) (validity_readings f.automaton languages)) (sym sizes) (AreReadings-validity f.automaton c.dfa-dfa.ensures.function.canonical.table languages fit))

pub returns-in-Ok : goal.returns-in-Ok
returns-in-Ok c =
    let f = c.args.function.now in
    let d = f.automaton in
    let function = c.dfa-dfa.ensures.function in
    let languages = map rc_value c.args.languages.now in
    let fit : AllFitTracks d.sizes languages = AllFitTracks-languages d.sizes languages c.requires in
    let made = c.in_ok-readers.ensures ∙ ap (λ (x : Automaton). validity_readings x languages) c.dfa-dfa.ensures.value in
    let are = ap readings_in c.deref.ensures.value ∙ made in
    let seen = ap readings_in c.deref-in-Ok.ensures.value ∙ made in
    let sizes = c.in_ok-alphabet.ensures ∙ c.alphabet.ensures.sizes ∙ ap (λ (x : Automaton). x.sizes) c.dfa-dfa.ensures.value in
    let valid = c.in_ok-valid-in-Ok.valid in
    let e = c.in-Ok.field-0.result.dfa in
    let keys = c.in-Ok.field-0.result.keys in
    let width = c.in-Ok.field-0.width in
    let own : e.sizes ≡ d.sizes = c.in-Ok.ensures.sizes ∙ sizes in
    let tuples : AreTuples (letters_of d) (validity_readings d languages) keys e =
    subst (λ (rs : List Reading). AreTuples (letters_of d) rs keys e) are (subst (λ (ss : List ℕ). AreTuples (product ss) (readings_in c.deref.result.now) keys e) sizes c.in-Ok.ensures.tuples) in
    let counted : HasWidth (LeadToOne (validity_readings d languages)) (letters_of d) width =
    subst (λ (rs : List Reading). HasWidth (LeadToOne rs) (letters_of d) width) are (subst (λ (ss : List ℕ). HasWidth (LeadToOne (readings_in c.deref.result.now)) (product ss) width) sizes c.in-Ok.ensures.width) in
    let letters = c.deref-in-Ok-2.ensures.value ∙ c.in_ok-letters-in-Ok.ensures ∙ ap (λ (rs : List Reading). tuple_letters f rs keys) seen in
    let size : c.states.result ≡ states_of valid.automaton = c.states.ensures.value ∙ ap states_of c.dfa.ensures.value in
    record {
      line = _;
      step = record {
        made_is = record {
          sizes = c.in_ok-valid-in-Ok.ensures.sizes ∙ own;
          function = c.in_ok-valid-in-Ok.ensures.function;
          letters = λ w over.
              c.in_ok-valid-in-Ok.ensures.letters w (subst (λ (ss : List ℕ). IsWord (product ss) w) (sym own) over)
              ∙ ap (λ (ls : List (Option ℤ)). letter_led e ls w) letters
              ∙ letters-tuples f function languages fit keys e tuples w over;
        };
        line_is = record {
          alphabet = subst IsAlphabet sizes c.tracks.ensures.alphabet;
          kind_is = refl;
          width = width-valid f function languages fit width counted;
          size_is = size;
          small = omega (arith, size, c.in_ok-valid-in-Ok.ensures.size, c.in-Ok.ensures.size);
          within = omega (arith, c.in-Ok.ensures.within, c.begin.ensures);
        };
      };
      new_is = c.in_ok-done-in-Ok.ensures.ok;
    }

pub returns-in-Err-States : goal.returns-in-Err-States
returns-in-Err-States c =
    let f = c.args.function.now in
    let d = f.automaton in
    let languages = map rc_value c.args.languages.now in
    let fit : AllFitTracks d.sizes languages = AllFitTracks-languages d.sizes languages c.requires in
    let are = ap readings_in c.deref.ensures.value ∙ c.in_ok-readers.ensures ∙ ap (λ (x : Automaton). validity_readings x languages) c.dfa-dfa.ensures.value in
    let sizes = c.in_ok-alphabet.ensures ∙ c.alphabet.ensures.sizes ∙ ap (λ (x : Automaton). x.sizes) c.dfa-dfa.ensures.value in
    let is_states : c.in-Err-States.field-0 ≡ States = c.in-Err-States.field-0-is in
    let fault : IsErrOf c.explore_tuples.result States = c.in-Err-States.is ∙ ap Err is_states in
    let most = c.args.steps.now.limit + 1 in
    let limit : c.begin.result.most + 1 ≡ most = ap (λ n. n + 1) c.begin.ensures in
    let apart : HasApart (LeadToOne (validity_readings d languages)) (letters_of d) most =
    subst (λ n. HasApart (LeadToOne (validity_readings d languages)) (letters_of d) n) limit
    (subst (λ (rs : List Reading). HasApart (LeadToOne rs) (letters_of d) (c.begin.result.most + 1)) are
    (subst (λ (ss : List ℕ). HasApart (LeadToOne (readings_in c.deref.result.now)) (product ss) (c.begin.result.most + 1)) sizes (c.explore_tuples.ensures.states fault))) in
    ((c.next_number.ensures, record { alphabet = subst IsAlphabet sizes c.tracks.ensures.alphabet; apart = apart-valid f c.dfa-dfa.ensures.function languages fit most apart }), refl)
