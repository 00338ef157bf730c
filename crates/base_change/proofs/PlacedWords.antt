-- Automatic words over one track in a base: the places that words represent are their values.
use Rattle.std.proofs.Common.{◌≡◌, ℕ, ◌*◌, ◌≤◌, List, [], ◌∷◌, ℤ, refl, sym, ap, ◌∙◌, subst, arith}
use Rattle.std.specs.List.{AllByRecursion}
use Rattle.std.proofs.Math.Nat.{div-one}
use Rattle.digit_tuple.specs.Letters.{IsWord}
use Rattle.digit_tuple.specs.Paddings.{in_order}
use Rattle.digit_tuple.specs.declared.direction.Direction.{Direction}
use Rattle.digit_tuple.proofs.PaddingLemmas.{IsWord-in_order}
use Rattle.numeration.specs.Representation.{Represents, first_track, letters_in}
use Rattle.numeration.specs.Systems.{IsRepresentation, System}
use Rattle.base_k.specs.Positional.{RankIsPositional, base, value}
use Rattle.base_k.specs.BaseLaws as laws
use Rattle.num_system.specs.Sealed.{IsSealed, SystemValue, system_of}
use Rattle.num_system.specs.Tracks.{systems_of, direction_of}
use Rattle.word_output.specs.LetterFunctions.{IsLetterFunction, LetterFunctionValue}
use Rattle.word_output.specs.Words.{HasLetter, IsWordValue, RepresentsPlace, WordValue}
use Rattle.base_change.specs.Places.{HasLetterAt, HasLettersOfPlaces, IsPlace}

-- the digits on the only track
only_track : (w : List ℕ) → first_track [] w ≡ w
only_track [] = refl
only_track (a ∷ w) = ap (λ b. b ∷ first_track [] w) (div-one a) ∙ ap (λ (u : List ℕ). a ∷ u) (only_track w)

module _ (positional : RankIsPositional) (systems : List SystemValue) (k : ℕ) (some : 2 ≤ k) (are : systems_of systems ≡ base k ∷ []) where
  abbrev direction : Direction
  direction = direction_of systems

  one_times : k * 1 ≡ k
  one_times = omega arith

  -- words over the one track are words over the digits
  over_digits : (w : List ℕ) → IsWord (letters_in (systems_of systems)) w → IsWord k w
  over_digits w over = subst (λ n. IsWord n w) one_times (subst (λ (ss : List System). IsWord (letters_in ss) w) are over)

  over_track : (w : List ℕ) → IsWord k w → IsWord (letters_in (systems_of systems)) w
  over_track w over = subst (λ (ss : List System). IsWord (letters_in ss) w) (sym are) (subst (λ n. IsWord n w) (sym one_times) over)

  -- a word represents its value alone
  value_from : (ns w : List ℕ) → IsWord k w → Represents (base k ∷ []) w ns → ns ≡ value k w ∷ []
  value_from [] w over represents = absurd represents
  value_from (n ∷ []) w over represents = ap (λ m. m ∷ []) (sym (let representation : IsRepresentation (base k) w n = subst (λ u. IsRepresentation (base k) u n) (only_track w) represents.0 in sym (positional k w some over) ∙ representation.1))
  value_from (n ∷ m ∷ ns) w over represents = absurd represents.1

  pub represented_value : (ns w : List ℕ) → RepresentsPlace systems ns w → ns ≡ value k (in_order direction w) ∷ []
  represented_value ns w represented =
      value_from ns (in_order direction w) (IsWord-in_order direction k w (over_digits w represented.over)) (subst (λ (ss : List System). Represents ss (in_order direction w) ns) are represented.represents)

  pub value_represented : (w : List ℕ) → IsWord k w → RepresentsPlace systems (value k (in_order direction w) ∷ []) w
  value_represented w over =
      let u : List ℕ = in_order direction w in
      let inside : IsWord k u = IsWord-in_order direction k w over in
      record {
        over = over_track w over;
        represents = subst (λ (ss : List System). Represents ss u (value k u ∷ [])) (sym are) (subst (λ v. IsRepresentation (base k) v (value k u)) (sym (only_track u)) (laws.over_digits k u inside, positional k u some inside), tt);
      }

  first_same : (a b : ℕ) → (a ∷ []) ≡ (b ∷ []) → a ≡ b
  first_same a b same = cc

  pub place_from : (n : ℕ) (w : List ℕ) → RepresentsPlace systems (n ∷ []) w → IsPlace direction k n w
  place_from n w represented = (over_digits w represented.over, sym (first_same n (value k (in_order direction w)) (represented_value (n ∷ []) w represented)))

  pub place_to : (n : ℕ) (w : List ℕ) → IsPlace direction k n w → RepresentsPlace systems (n ∷ []) w
  place_to n w place = subst (λ m. RepresentsPlace systems (m ∷ []) w) place.1 (value_represented w place.0)

-- a word's letters are letters of places
module _ (positional : RankIsPositional) (word : WordValue) (k : ℕ) (some : 2 ≤ k) (are : systems_of word.systems ≡ base k ∷ []) where
  pub letters_of_places : IsWordValue word → HasLettersOfPlaces (direction_of word.systems) k word.function
  letters_of_places is n w v first second = is.one (n ∷ []) w v (place_to positional word.systems k some are n w first) (place_to positional word.systems k some are n v second)

  pub letter_from : (n : ℕ) (letter : ℤ) → HasLetter word (n ∷ []) letter → HasLetterAt (direction_of word.systems) k word.function n letter
  letter_from n letter has = (has.0, place_from positional word.systems k some are n has.0 has.1, has.2)

  pub letter_to : (n : ℕ) (letter : ℤ) → HasLetterAt (direction_of word.systems) k word.function n letter → HasLetter word (n ∷ []) letter
  letter_to n letter has = (has.0, place_to positional word.systems k some are n has.0 has.1, has.2)

-- letters of places make a word
module _ (positional : RankIsPositional) (system : SystemValue) (k : ℕ) (some : 2 ≤ k) (is : system_of system ≡ base k) (g : LetterFunctionValue) where
  abbrev systems : List SystemValue
  systems = system ∷ []

  are : systems_of systems ≡ base k ∷ []
  are = ap (λ (s : System). s ∷ []) is

  pub word_of_places : AllByRecursion IsSealed systems → IsLetterFunction g → g.automaton.sizes ≡ k ∷ [] → HasLettersOfPlaces system.direction k g → IsWordValue (record { systems = systems; function = g })
  word_of_places sealed function sizes places = record {
    function = function;
    some = omega arith;
    sealed = sealed;
    shared_direction = (refl, tt);
    sizes = sizes ∙ ap (λ (s : System). s.digits ∷ []) (sym is);
    represents = λ w over lettered.
        let here : IsWord k w = over_digits positional systems k some are w over in
        (value k (in_order system.direction w) ∷ [], value_represented positional systems k some are w here);
    one = λ ns w v first second.
        let one = represented_value positional systems k some are ns w first in
        let n : ℕ = value k (in_order system.direction w) in
        places n w v
        (place_from positional systems k some are n w (subst (λ (ms : List ℕ). RepresentsPlace systems ms w) one first))
        (place_from positional systems k some are n v (subst (λ (ms : List ℕ). RepresentsPlace systems ms v) one second));
  }
