-- The automatic word of a fixed point.
use Rattle.std.proofs.Common.{◌≡◌, Bool, ℕ, ◌*◌, ◌<◌, ◌≤◌, List, [], ◌∷◌, length, ℤ, pos, Option, Some, refl, sym, ap, ◌∙◌, subst, arith}
use Rattle.std.specs.List.{AllByRecursion}
use Rattle.std.specs.Option.{option_and_then}
use Rattle.std.proofs.Math.Nat.{div-one}
use Rattle.std.proofs.lemmas.Option.{same_Some}
use Rattle.digit_tuple.specs.Deterministic.{Automaton, states_of}
use Rattle.digit_tuple.specs.Explored.{IsExplored}
use Rattle.digit_tuple.specs.Letters.{IsAlphabet, IsWord}
use Rattle.digit_tuple.specs.Paddings.{in_order}
use Rattle.digit_tuple.specs.declared.direction.Direction.{Direction}
use Rattle.digit_tuple.specs.declared.direction.Direction.TheVariants.{Msd}
use Rattle.numeration.specs.Representation.{Represents, first_track, letters_in, sizes_of}
use Rattle.numeration.specs.Systems.{IsRepresentation, System}
use Rattle.base_k.specs.Positional.{RankIsPositional, base, value}
use Rattle.base_k.specs.BaseLaws as laws
use Rattle.num_system.specs.Sealed.{IsSealed, SystemValue}
use Rattle.num_system.specs.Tracks.{ShareDirection, systems_of, direction_of}
use Rattle.word_output.specs.LetterFunctions.{IsLetterFunction, LetterFunctionValue, letter_after}
use Rattle.word_output.specs.StateLetters.{letter_led}
use Rattle.word_output.specs.Words.{HasLetter, RepresentsPlace, WordValue}
use Rattle.word_output.proofs.LsdLetterLemmas.{letter_led-explored}
use Rattle.morph_words.specs.Rules.{Rules}
use Rattle.morph_words.specs.FixedPoint.{IsLetterAt}
use Rattle.fixed_points.specs.LetterGraph.{IsLetterGraph, key_after, key_of, letter_of, letters_at, reached}
use Rattle.morph_words.specs.MorphismKinds.{HasFixedPoint}
use Rattle.fixed_points.specs.Promotion.{IsFixedWord}
use Rattle.fixed_points.proofs.PowerLemmas.{letter_of_word}
use Rattle.fixed_points.proofs.ReachedLemmas.{reached_at, ruled, run_is, word_of_place}

-- the digits on the only track
only_track : (w : List ℕ) → first_track [] w ≡ w
only_track [] = refl
only_track (a ∷ w) = ap (λ b. b ∷ first_track [] w) (div-one a) ∙ ap (λ (u : List ℕ). a ∷ u) (only_track w)

-- one system has one direction
one_of_one : (systems : List SystemValue) (s : System) → systems_of systems ≡ s ∷ [] → ShareDirection systems
one_of_one [] s are = tt
one_of_one (t ∷ []) s are = (refl, tt)
one_of_one (t ∷ u ∷ systems) s are = let long : length (systems_of (t ∷ u ∷ systems)) ≡ 1 = ap length are in absurd (omega (arith, long))

some_of_one : (systems : List SystemValue) (s : System) → systems_of systems ≡ s ∷ [] → 0 < length systems
some_of_one [] s are = let long : 0 ≡ 1 = ap length are in absurd (omega (arith, long))
some_of_one (t ∷ systems) s are = omega arith

module _ (positional : RankIsPositional) (systems : List SystemValue) (k : ℕ) (some : 2 ≤ k) (are : systems_of systems ≡ base k ∷ []) (direction : direction_of systems ≡ Msd) where
  moved : (P : List System → Direction → Type 0) → P (systems_of systems) (direction_of systems) → P (base k ∷ []) Msd
  moved P p = subst (λ ss. P ss Msd) are (subst (P (systems_of systems)) direction p)

  back : (P : List System → Direction → Type 0) → P (base k ∷ []) Msd → P (systems_of systems) (direction_of systems)
  back P p = subst (P (systems_of systems)) (sym direction) (subst (λ ss. P ss Msd) (sym are) p)

  one_times : k * 1 ≡ k
  one_times = omega arith

  -- words over the one track are words over the digits
  pub over_digits : (w : List ℕ) → IsWord (letters_in (systems_of systems)) w → IsWord k w
  over_digits w over = subst (λ n. IsWord n w) one_times (moved (λ ss d. IsWord (letters_in ss) w) over)

  pub digits_over_track : (w : List ℕ) → IsWord k w → IsWord (letters_in (systems_of systems)) w
  digits_over_track w over = back (λ ss d. IsWord (letters_in ss) w) (subst (λ n. IsWord n w) (sym one_times) over)

  -- a word represents its value alone
  value_from : (ns w : List ℕ) → IsWord k w → Represents (base k ∷ []) w ns → ns ≡ value k w ∷ []
  value_from [] w over represents = absurd represents
  value_from (n ∷ []) w over represents = ap (λ m. m ∷ []) (sym (let representation : IsRepresentation (base k) w n = subst (λ u. IsRepresentation (base k) u n) (only_track w) represents.0 in sym (positional k w some over) ∙ representation.1))
  value_from (n ∷ m ∷ ns) w over represents = absurd represents.1

  pub represented_value : (ns w : List ℕ) → RepresentsPlace systems ns w → ns ≡ value k w ∷ []
  represented_value ns w represented = value_from ns w (over_digits w represented.over) (moved (λ ss d. Represents ss (in_order d w) ns) represented.represents)

  pub value_represented : (w : List ℕ) → IsWord k w → RepresentsPlace systems (value k w ∷ []) w
  value_represented w over = record {
    over = digits_over_track w over;
    represents = back (λ ss d. Represents ss (in_order d w) (value k w ∷ [])) (subst (λ u. IsRepresentation (base k) u (value k w)) (sym (only_track w)) (laws.over_digits k w over, positional k w some over), tt);
  }

first_same : (a b : ℕ) → a ∷ [] ≡ b ∷ [] → a ≡ b
first_same a b same = cc

-- a function that gives each word the letter that it reaches is that of the fixed point
pub fixed_word : RankIsPositional → (rules : Rules) (k : ℕ) (systems : List SystemValue) (f : LetterFunctionValue) → HasFixedPoint rules k → systems_of systems ≡ base k ∷ [] → direction_of systems ≡ Msd → AllByRecursion IsSealed systems
    → IsLetterFunction f → f.automaton.sizes ≡ k ∷ [] → ((w : List ℕ) → IsWord k w → letter_after f w ≡ Some (reached rules (pos 0) w)) → IsFixedWord rules k (record { systems = systems; function = f })
fixed_word positional rules k systems f has are direction sealed function sizes letters = record {
  word_is = record {
    function = function;
    some = some_of_one systems (base k) are;
    sealed = sealed;
    shared_direction = one_of_one systems (base k) are;
    sizes = sizes ∙ ap sizes_of (sym are);
    represents = λ w over there. (value k w ∷ [], value_represented positional systems k has.base.0 are direction w (digits w over));
    one = λ ns w u first second.
        let there : value k u ≡ value k w = first_same (value k u) (value k w) (sym (value_of ns u second) ∙ value_of ns w first) in
        letters w (digits w first.over)
        ∙ ap Some (sym (reached_at rules k has u (value k w) (reached rules (pos 0) w) (digits u second.over) there (letter_of_word rules k has w (digits w first.over))))
        ∙ sym (letters u (digits u second.over));
  };
  system = are;
  direction = direction;
  letters = λ place letter. (over place letter, back_at place letter);
}
  where
    word : WordValue
    word = record { systems = systems; function = f }

    digits : (w : List ℕ) → IsWord (letters_in (systems_of systems)) w → IsWord k w
    digits w over = over_digits positional systems k has.base.0 are direction w over

    value_of : (ns w : List ℕ) → RepresentsPlace systems ns w → ns ≡ value k w ∷ []
    value_of ns w represented = represented_value positional systems k has.base.0 are direction ns w represented

    over : (place : ℕ) (letter : ℤ) → HasLetter word (place ∷ []) letter → IsLetterAt rules place letter
    over place letter (w, represented, is) =
        let at : place ≡ value k w = first_same place (value k w) (value_of (place ∷ []) w represented) in
        let same : reached rules (pos 0) w ≡ letter = same_Some (reached rules (pos 0) w) letter (sym (letters w (digits w represented.over)) ∙ is) in
        subst (λ n. IsLetterAt rules n letter) (sym at) (subst (IsLetterAt rules (value k w)) same (letter_of_word rules k has w (digits w represented.over)))

    back_at : (place : ℕ) (letter : ℤ) → IsLetterAt rules place letter → HasLetter word (place ∷ []) letter
    back_at place letter at =
        let found = word_of_place positional k place has.base.0 in
        let w : List ℕ = found.0 in
        let same : reached rules (pos 0) w ≡ letter = reached_at rules k has w place letter found.1 found.2 at in
        (w, subst (λ n. RepresentsPlace systems (n ∷ []) w) found.2 (value_represented positional systems k has.base.0 are direction w found.1), letters w found.1 ∙ ap Some same)

-- the letter of the state that a word leads to
pub letter_reached : (rules : Rules) (k : ℕ) (graph : IsLetterGraph rules k) (accepts : List ℕ → Bool) (keys : List (List ℕ)) (d : Automaton) → IsExplored k (key_of (pos 0)) (key_after rules) accepts keys d → 0 < states_of d
    → (w : List ℕ) → IsWord k w → letter_led d (letters_at keys) w ≡ Some (reached rules (pos 0) w)
letter_reached rules k graph accepts keys d explored initial w over =
    letter_led-explored k (key_of (pos 0)) (key_after rules) accepts keys d explored initial (λ key. Some (letter_of key)) w over
    ∙ ap (λ (o : Option (List ℕ)). option_and_then (λ key. Some (letter_of key)) o) (run_is rules k graph w over)
    ∙ ap Some (graph.letter_back (reached rules (pos 0) w) (ruled rules k graph w over))

-- a base is not too large for an alphabet
pub one_alphabet : (k : ℕ) → k ≤ 40 → IsAlphabet (k ∷ [])
one_alphabet k most = record { tracks = omega arith; letters = omega (arith, most) }
