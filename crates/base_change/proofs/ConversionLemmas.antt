-- The steps of a conversion keep the letters of places.
use Rattle.std.proofs.Common.{◌≡◌, ◌↔◌, inl, inr, ℕ, zero, suc, ◌*◌, ◌^◌, ◌≤◌, List, [], ◌∷◌, ℤ, Result, Ok, reverse, refl, sym, ap, ◌∙◌, subst, arith}
use Rattle.std.specs.List.{AllByRecursion}
use Rattle.std.proofs.Math.Nat.{pow-zero}
use Rattle.std.proofs.lemmas.List.{reverse-reverse}
use Rattle.digit_tuple.specs.Letters.{IsWord, product}
use Rattle.digit_tuple.specs.Paddings.{in_order}
use Rattle.digit_tuple.specs.Steps.{StepLog}
use Rattle.digit_tuple.specs.declared.direction.Direction.{Direction}
use Rattle.digit_tuple.specs.declared.direction.Direction.TheVariants.{Msd, Lsd}
use Rattle.digit_tuple.specs.declared.step_fault.StepFault.{StepFault}
use Rattle.digit_tuple.proofs.PaddingLemmas.{IsWord-reverse}
use Rattle.automaton_steps.proofs.ThenAnswers.{equal_value, no_fault}
use Rattle.base_k.specs.Positional.{RankIsPositional, base, value}
use Rattle.letter_reversal.specs.LetterReversals.{IsLetterReversal}
use Rattle.numeration.specs.Representation.{sizes_of}
use Rattle.numeration.specs.Systems.{System}
use Rattle.num_system.specs.Sealed.{IsSealed, SystemValue, system_of}
use Rattle.num_system.specs.Tracks.{direction_of, systems_of}
use Rattle.word_output.specs.LetterFunctions.{IsLetterFunction, LetterFunctionValue, letter_after}
use Rattle.word_output.specs.Words.{HasLetter, IsWordValue, WordValue}
use Rattle.base_change.specs.Conversions.{AreRelated, ConversionsKeepLetters, DoesLetters, DoesTurn, DoesUnlessFirst}
use Rattle.base_change.specs.Joins.{IsJoin, join_step}
use Rattle.base_change.specs.Places.{HasLetterAt, HasLettersOfPlaces, IsPlace, KeepsPlaces}
use Rattle.base_change.specs.Splits.{IsSplit, split_step}
use Rattle.base_change.specs.declared.related.CommonRoot.{CommonRoot}
use Rattle.base_change.proofs.PlaceLemmas.{joins_keep, splits_keep}
use Rattle.base_change.proofs.PlacedWords.{letter_from, letter_to, letters_of_places, word_of_places}
use Rattle.base_change.proofs.RootLemmas.{first_power, pow-up, root-least}

-- what that says of the root and the powers
pub record ArePowers (systems : List SystemValue) (system : SystemValue) (common : CommonRoot) : Type 0 where
  pub root : 2 ≤ common.root
  pub old_power : 1 ≤ common.old_power
  pub new_power : 1 ≤ common.new_power
  pub old_few : common.root ^ common.old_power ≤ 40
  pub new_few : common.root ^ common.new_power ≤ 40
  pub old_is : systems_of systems ≡ base (common.root ^ common.old_power) ∷ []
  pub new_is : system_of system ≡ base (common.root ^ common.new_power)

-- an exponent that gives a base is not 0
some_power : (r b k : ℕ) → 2 ≤ k → k ≡ r ^ b → 1 ≤ b
some_power r zero k low is = absurd (omega (arith, low, is, pow-zero r))
some_power r (suc b) k low is = omega arith

pub powers_of : (systems : List SystemValue) (system : SystemValue) (common : CommonRoot) → AreRelated systems system common → ArePowers systems system common
powers_of systems system common related = record {
  root = root-least common.root common.old_power related.old_base related.old_range.0 related.root.old_is;
  old_power = some_power common.root common.old_power related.old_base related.old_range.0 related.root.old_is;
  new_power = some_power common.root common.new_power related.new_base related.new_range.0 related.root.new_is;
  old_few = subst (λ k. k ≤ 40) related.root.old_is related.old_range.1;
  new_few = subst (λ k. k ≤ 40) related.root.new_is related.new_range.1;
  old_is = related.old_is ∙ ap (λ k. base k ∷ []) related.root.old_is;
  new_is = related.new_is ∙ ap base related.root.new_is;
}

-- letters over base k of places
pub record IsOver (direction : Direction) (k : ℕ) (f : LetterFunctionValue) : Type 0 where
  pub function : IsLetterFunction f
  pub sizes : f.automaton.sizes ≡ k ∷ []
  pub places : HasLettersOfPlaces direction k f

-- what a step gives: letters over a base of the same places
pub record IsKept (from : Direction) (k : ℕ) (f : LetterFunctionValue) (to : Direction) (m : ℕ) (g : LetterFunctionValue) : Type 0 where
  pub over : IsOver to m g
  pub keeps : KeepsPlaces from k f to m g

pub kept_same : (direction : Direction) (k : ℕ) (f : LetterFunctionValue) → IsOver direction k f → IsKept direction k f direction k f
kept_same direction k f over = record { over = over; keeps = record { of_places = over.places; letters = λ n letter. ((λ has. has), (λ has. has)) } }

pub kept_then : (a b c : Direction) (k l m : ℕ) (f g h : LetterFunctionValue) → IsKept a k f b l g → IsKept b l g c m h → IsKept a k f c m h
kept_then a b c k l m f g h one two = record {
  over = two.over;
  keeps = record {
    of_places = two.keeps.of_places;
    letters = λ n letter. ((λ has. (one.keeps.letters n letter).0 ((two.keeps.letters n letter).0 has)), (λ has. (two.keeps.letters n letter).1 ((one.keeps.letters n letter).1 has)));
  };
}

module _ (from to : Direction) (turned : (w : List ℕ) → in_order to w ≡ in_order from (reverse w)) (k : ℕ) (f g : LetterFunctionValue) (over : IsOver from k f) (is : IsLetterReversal f g) where
  -- a reversed word has the same place, read the other way
  turned_place : (n : ℕ) (w : List ℕ) → IsPlace to k n w → IsPlace from k n (reverse w)
  turned_place n w place = (IsWord-reverse k w place.0, ap (value k) (sym (turned w)) ∙ place.1)

  place_turned : (n : ℕ) (w : List ℕ) → IsPlace from k n w → IsPlace to k n (reverse w)
  place_turned n w place = (IsWord-reverse k w place.0, ap (value k) (turned (reverse w) ∙ ap (in_order from) (reverse-reverse w)) ∙ place.1)

  letters_are : (w : List ℕ) → IsWord k w → letter_after g w ≡ letter_after f (reverse w)
  letters_are w inside = is.letters w (subst (λ n. IsWord n w) (sym (ap product over.sizes ∙ (let unit : k * 1 ≡ k = omega arith in unit))) inside)

  pub kept_reversed : IsKept from k f to k g
  kept_reversed = record {
    over = record { function = is.function; sizes = is.sizes ∙ over.sizes; places = places };
    keeps = record {
      of_places = places;
      letters = λ n letter. (
        (λ has. (reverse has.0, turned_place n has.0 has.1, sym (letters_are has.0 has.1.0) ∙ has.2)),
        (λ has. (reverse has.0, place_turned n has.0 has.1, letters_are (reverse has.0) (IsWord-reverse k has.0 has.1.0) ∙ ap (letter_after f) (reverse-reverse has.0) ∙ has.2)),
      );
    };
  }
    where
      places : HasLettersOfPlaces to k g
      places n w v first second = letters_are w first.0 ∙ over.places n (reverse w) (reverse v) (turned_place n w first) (turned_place n v second) ∙ sym (letters_are v second.0)

-- from a direction to the least significant digit first, and back
pub turn_first : (direction : Direction) (k : ℕ) (f g : LetterFunctionValue) (old new : StepLog) → IsOver direction k f → DoesTurn direction f old (Ok g) new → IsKept direction k f Lsd k g
turn_first Msd k f g old new over done = kept_reversed Msd Lsd (λ w. refl) k f g over done.step.made_is
turn_first Lsd k f g old new over done = subst (IsKept Lsd k f Lsd k) (sym (equal_value g f done.0)) (kept_same Lsd k f over)

pub turn_last : (direction : Direction) (k : ℕ) (f g : LetterFunctionValue) (old new : StepLog) → IsOver Lsd k f → DoesTurn direction f old (Ok g) new → IsKept Lsd k f direction k g
turn_last Msd k f g old new over done = kept_reversed Lsd Msd (λ w. sym (reverse-reverse w)) k f g over done.step.made_is
turn_last Lsd k f g old new over done = subst (IsKept Lsd k f Lsd k) (sym (equal_value g f done.0)) (kept_same Lsd k f over)

module _ (r : ℕ) (low : 2 ≤ r) (b : ℕ) (some : 1 ≤ b) (f g : LetterFunctionValue) (old new : StepLog) where
  pub split_kept : IsOver Lsd (r ^ b) f → DoesUnlessFirst b (split_step r b f) f old (Ok g) new → IsKept Lsd (r ^ b) f Lsd r g
  split_kept over (inl (first, given)) =
      let same : r ^ b ≡ r = ap (λ n. r ^ n) first ∙ first_power r in
      subst (λ (h : LetterFunctionValue). IsKept Lsd (r ^ b) f Lsd r h) (sym (equal_value g f given.0)) (subst (λ k. IsKept Lsd (r ^ b) f Lsd k f) same (kept_same Lsd (r ^ b) f over))
  split_kept over (inr (more, done)) =
      let is : IsSplit r b f g = done.step.made_is in
      let keeps = splits_keep r b f g low some over.places is in
      record { over = record { function = is.function; sizes = is.sizes; places = keeps.of_places }; keeps = keeps }

  pub join_kept : IsOver Lsd r f → DoesUnlessFirst b (join_step r b f) f old (Ok g) new → IsKept Lsd r f Lsd (r ^ b) g
  join_kept over (inl (first, given)) =
      let same : r ≡ r ^ b = sym (ap (λ n. r ^ n) first ∙ first_power r) in
      subst (λ (h : LetterFunctionValue). IsKept Lsd r f Lsd (r ^ b) h) (sym (equal_value g f given.0)) (subst (λ k. IsKept Lsd r f Lsd k f) same (kept_same Lsd r f over))
  join_kept over (inr (more, done)) =
      let is : IsJoin r b f g = done.step.made_is in
      let keeps = joins_keep r b f g low some over.places is in
      record { over = record { function = is.function; sizes = is.sizes; places = keeps.of_places }; keeps = keeps }

-- all steps, one after another
module _ (from to : Direction) (common : CommonRoot) (low : 2 ≤ common.root) (some : 1 ≤ common.old_power) (more : 1 ≤ common.new_power) where
  abbrev r : ℕ
  r = common.root

  abbrev b : ℕ
  b = common.old_power

  abbrev a : ℕ
  a = common.new_power

  pub letters_kept : (f g : LetterFunctionValue) (old new : StepLog) → IsOver from (r ^ b) f → DoesLetters from common to f old (Ok g) new → IsKept from (r ^ b) f to (r ^ a) g
  letters_kept f g old new over (inr (fault, refused, is)) = absurd (no_fault g fault is)
  letters_kept f g old new over (inl (turned, first, turn, inr (fault, refused, is))) = absurd (no_fault g fault is)
  letters_kept f g old new over (inl (turned, first, turn, inl (halved, second, split, inr (fault, refused, is)))) = absurd (no_fault g fault is)
  letters_kept f g old new over (inl (turned, first, turn, inl (halved, second, split, inl (joined, third, join, last)))) =
      let one = turn_first from (r ^ b) f turned old first over turn in
      let two = split_kept r low b some turned halved first second one.over split in
      let three = join_kept r low a more halved joined second third two.over join in
      let four = turn_last to (r ^ a) joined g third new three.over last in
      kept_then from Lsd to (r ^ b) (r ^ a) (r ^ a) f joined g (kept_then from Lsd Lsd (r ^ b) r (r ^ a) f halved joined (kept_then from Lsd Lsd (r ^ b) (r ^ b) r f turned halved one two) three) four

-- the letters of an old word are over the power of the root that its base is
module _ (positional : RankIsPositional) (word : WordValue) (is : IsWordValue word) (system : SystemValue) (common : CommonRoot) (related : ArePowers word.systems system common) where
  abbrev old_base : ℕ
  old_base = common.root ^ common.old_power

  abbrev new_base : ℕ
  new_base = common.root ^ common.new_power

  pub old_least : 2 ≤ old_base
  old_least = omega (arith, related.root, first_power common.root, pow-up common.root 1 common.old_power (let low = related.root in omega (arith, low)) related.old_power)

  pub new_least : 2 ≤ new_base
  new_least = omega (arith, related.root, first_power common.root, pow-up common.root 1 common.new_power (let low = related.root in omega (arith, low)) related.new_power)

  pub old_over : IsOver (direction_of word.systems) old_base word.function
  old_over = record {
    function = is.function;
    sizes = is.sizes ∙ ap sizes_of related.old_is;
    places = letters_of_places positional word old_base old_least related.old_is is;
  }

  pub made_is_word : (g : LetterFunctionValue) → AllByRecursion IsSealed (system ∷ []) → IsOver system.direction new_base g → IsWordValue (record { systems = system ∷ []; function = g })
  made_is_word g sealed over = word_of_places positional system new_base new_least related.new_is g sealed over.function over.sizes over.places

  pub made_letters : (made : WordValue) → made.systems ≡ system ∷ [] → KeepsPlaces (direction_of word.systems) old_base word.function system.direction new_base made.function
      → (n : ℕ) (letter : ℤ) → HasLetter made (n ∷ []) letter ↔ HasLetter word (n ∷ []) letter
  made_letters made systems keeps n letter = (
    (λ has. letter_to positional word old_base old_least related.old_is n letter ((keeps.letters n letter).0 (from has))),
    (λ has. to ((keeps.letters n letter).1 (letter_from positional word old_base old_least related.old_is n letter has))),
  )
    where
      one : systems_of made.systems ≡ base new_base ∷ []
      one = ap systems_of systems ∙ ap (λ (s : System). s ∷ []) related.new_is

      direction : direction_of made.systems ≡ system.direction
      direction = ap direction_of systems

      from : HasLetter made (n ∷ []) letter → HasLetterAt system.direction new_base made.function n letter
      from has = subst (λ (d : Direction). HasLetterAt d new_base made.function n letter) direction (letter_from positional made new_base new_least one n letter has)

      to : HasLetterAt system.direction new_base made.function n letter → HasLetter made (n ∷ []) letter
      to has = letter_to positional made new_base new_least one n letter (subst (λ (d : Direction). HasLetterAt d new_base made.function n letter) (sym direction) has)

pub conversions_keep : RankIsPositional → ConversionsKeepLetters
conversions_keep positional old new word made system common is made_is related does =
    let powers = powers_of word.systems system common related in
    made_letters positional word is system common powers made does.1
    (letters_kept (direction_of word.systems) system.direction common powers.root powers.old_power powers.new_power word.function made.function old new (old_over positional word is system common powers) does.0).keeps

-- the direction and the letters under other names
pub turn_is : (from to : Direction) (f g : LetterFunctionValue) (old new : StepLog) (result : Result LetterFunctionValue StepFault) → from ≡ to → f ≡ g → DoesTurn from f old result new → DoesTurn to g old result new
turn_is from to f g old new result direction letters done = subst (λ (d : Direction). DoesTurn d g old result new) direction (subst (λ (h : LetterFunctionValue). DoesTurn from h old result new) letters done)
