-- Letters of words without their trailing zeros, by the pairs of states that words lead to without them and with them.
use Rattle.std.proofs.Common.{◌≡◌, ◌≢◌, ℕ, ℤ, ◌<◌, Bool, true, false, List, [], ◌∷◌, ◌++◌, map, slice_index, Option, None, Some, refl, sym, ap, ◌∙◌, arith, if◌then◌else◌}
use Rattle.std.specs.Option.{MatchOption, option_and_then}
use Rattle.std.proofs.lemmas.List.{get_or-map}
use Rattle.digit_tuple.specs.Deterministic.{Automaton, letters_of, run_of, states_of}
use Rattle.digit_tuple.specs.Explored.{IsExplored, key_at}
use Rattle.digit_tuple.specs.Keys.{LeadAlike, key_run}
use Rattle.digit_tuple.specs.Letters.{IsWord}
use Rattle.digit_tuple.specs.NoWords.{bare_automaton}
use Rattle.digit_tuple.specs.Paddings.{strip}
use Rattle.digit_tuple.specs.declared.direction.Direction.TheVariants.{Lsd}
use Rattle.digit_tuple.proofs.ExploredLemmas.{run_of-explored}
use Rattle.digit_tuple.proofs.PaddingLemmas.{IsWord-strip}
use Rattle.residual_classes.specs.Classes.{first_of}
use Rattle.minimise.proofs.LeadLemmas.{lead}
use Rattle.pad_rename.specs.PaddedPairs.{are_sinks, pair_after, some_pair, twice}
use Rattle.pad_rename.proofs.PaddedPairLemmas.{both_sinks, pair_run-first, same_pairs}
use Rattle.pad_rename.proofs.SinkLeads.{lead-sink}
use Rattle.word_output.specs.LetterFunctions.{IsLetterFunction, LetterFunctionValue, letter_after}
use Rattle.word_output.specs.LetterPaddings.{LsdLettersAlike}
use Rattle.word_output.specs.StateLetters.{head_letters, letter_at, letter_led, letter_of_state}
use Rattle.word_output.proofs.LetterLeads.{led, letter_after-lead, one_led, same_letters, sink_letter}

-- the letters of words by those of the keys that they lead to
pub letter_led-explored : (letters : ℕ) (start : List ℕ) (after : List ℕ → ℕ → Option (List ℕ)) (accepts : List ℕ → Bool) (keys : List (List ℕ)) (e : Automaton)
    → IsExplored letters start after accepts keys e → 0 < states_of e → (g : List ℕ → Option ℤ) (w : List ℕ) → IsWord letters w → letter_led e (map g keys) w ≡ option_and_then g (key_run after start w)
letter_led-explored letters start after accepts keys e explored initial g w over =
    by (run_of e 0 w) (run_of-explored letters start after accepts keys e explored w 0 initial over) ∙ ap (λ key. option_and_then g (key_run after key w)) explored.start_is
  where
    by : (o : Option ℕ) → MatchOption o (key_run after (key_at keys 0) w ≡ None) (λ t. (t < states_of e) × (key_run after (key_at keys 0) w ≡ Some (key_at keys t)))
        → option_and_then (λ q. letter_at (map g keys) q) o ≡ option_and_then g (key_run after (key_at keys 0) w)
    by None none = ap (option_and_then g) (sym none)
    by (Some t) some = get_or-map g keys t [] None (omega (arith, some.0, explored.count)) ∙ ap (option_and_then g) (sym some.1)

module _ (f : LetterFunctionValue) (is : IsLetterFunction f) where
  abbrev d : Automaton
  d = f.automaton

  module _ (none : first_of d ≡ states_of d) where
    -- no word has a letter
    pub never : (w : List ℕ) → letter_after f w ≡ None
    never w = letter_after-lead f is w ∙ ap (letter_of_state f) (ap (λ q. lead d q w) none ∙ lead-sink d w) ∙ sink_letter f is

    pub never-alike : (w v : List ℕ) → LsdLettersAlike f w v
    never-alike w v = record { stripped = λ u over. never (strip Lsd w ++ u) ∙ sym (never (strip Lsd v ++ u)); whole = λ u over. never (w ++ u) ∙ sym (never (v ++ u)) }

  module _ (live : first_of d ≢ states_of d) where
    pub alike_from_pairs : (w v : List ℕ) → IsWord (letters_of d) w → IsWord (letters_of d) v → LeadAlike (pair_after d) (twice (first_of d)) w v → LsdLettersAlike f w v
    alike_from_pairs w v over there same =
        let both = same_pairs d (led f is (strip Lsd w)) (led f is w) (led f is (strip Lsd v)) (led f is v) (sym (pair_run-first d live w) ∙ same ∙ pair_run-first d live v) in
        record {
          stripped = same_letters f is (strip Lsd w) (strip Lsd v) (IsWord-strip (letters_of d) w over) (IsWord-strip (letters_of d) v there) both.0;
          whole = same_letters f is w v over there both.1;
        }

    pub pairs_from_alike : (w v : List ℕ) → IsWord (letters_of d) w → IsWord (letters_of d) v → LsdLettersAlike f w v → LeadAlike (pair_after d) (twice (first_of d)) w v
    pairs_from_alike w v over there alike =
        let stripped = one_led f is (strip Lsd w) (strip Lsd v) (IsWord-strip (letters_of d) w over) (IsWord-strip (letters_of d) v there) alike.stripped in
        let whole = one_led f is w v over there alike.whole in
        pair_run-first d live w
        ∙ ap (λ (r : ℕ). some_pair d r (led f is w)) stripped
        ∙ ap (λ (r : ℕ). some_pair d (led f is (strip Lsd v)) r) whole
        ∙ sym (pair_run-first d live v)

    pair_letter : (p q : ℕ) → option_and_then (λ key. letter_of_state f (slice_index key 0)) (some_pair d p q) ≡ letter_of_state f p
    pair_letter p q = by (are_sinks d p q) refl
      where
        by : (b : Bool) → are_sinks d p q ≡ b → option_and_then (λ key. letter_of_state f (slice_index key 0)) (if b then None else Some (p ∷ q ∷ [])) ≡ letter_of_state f p
        by true sinks = sym (ap (letter_of_state f) (both_sinks d p q sinks).0 ∙ sink_letter f is)
        by false live_pair = refl

    pub letters-pairs : (letters : ℕ) (accepts : List ℕ → Bool) (keys : List (List ℕ)) (e : Automaton) → IsExplored letters (twice (first_of d)) (pair_after d) accepts keys e → 0 < states_of e
        → (w : List ℕ) → IsWord letters w → letter_led e (head_letters f keys) w ≡ letter_after f (strip Lsd w)
    letters-pairs letters accepts keys e explored initial w over =
        letter_led-explored letters (twice (first_of d)) (pair_after d) accepts keys e explored initial (λ key. letter_of_state f (slice_index key 0)) w over
        ∙ ap (option_and_then (λ key. letter_of_state f (slice_index key 0))) (pair_run-first d live w)
        ∙ pair_letter (led f is (strip Lsd w)) (led f is w)
        ∙ sym (letter_after-lead f is (strip Lsd w))

-- the one state of the automaton of no words has no letter
pub letter_led-bare : (sizes w : List ℕ) → letter_led (bare_automaton sizes) (None ∷ []) w ≡ None
letter_led-bare sizes [] = refl
letter_led-bare sizes (a ∷ w) = refl
