-- Classes that are parted by outputs.
use Rattle.std.proofs.Common.{◌≡◌, ℕ, ◌+◌, ◌*◌, ◌/◌, ◌-◌, ◌^◌, ◌<◌, ◌≤◌, List, [], length, max, sym, ap, ◌∙◌, arith}
use Rattle.digit_tuple.specs.Deterministic.{Automaton, states_of}
use Rattle.residual_classes.specs.Classes.{class_of}
use Rattle.residual_classes.specs.CoarseClasses.{AreCoarseClasses, AreCoarseNumbers, HaveOneOutput}
use Rattle.residual_classes.specs.FirstPlaces.{AreFirstPlaces}
use Rattle.residual_classes.specs.OutputParts.{part_number}
use Rattle.std.proofs.lemmas.Nat.{le-div}
use Rattle.residual_classes.proofs.FirstPlaceLemmas.{same_first_place}
use Rattle.residual_classes.proofs.WeightLemmas.{mul-le-cancel}

module _ (d : Automaton) (outputs classes numbers : List ℕ) (width : length numbers ≡ states_of d + 1)
    (are : (q : ℕ) → q ≤ states_of d → class_of numbers q ≡ part_number (states_of d) (class_of classes q) (class_of outputs q)) where
  -- states from which words lead to the same outputs have one number
  pub AreCoarseNumbers-parts : AreCoarseClasses d outputs classes → AreCoarseNumbers d outputs numbers
  AreCoarseNumbers-parts coarse = record {
    width = width;
    coarse = λ p q small low same.
        are p small ∙ ap (λ (c : ℕ). part_number (states_of d) c (class_of outputs p)) (coarse.coarse p q small low same)
        ∙ ap (part_number (states_of d) (class_of classes q)) (same [] tt) ∙ sym (are q low);
  }

  -- the number determines the output
  pub HaveOneOutput-parts : ((q : ℕ) → q ≤ states_of d → class_of outputs q < 2 ^ 32) → (places : List ℕ) → AreFirstPlaces numbers places → HaveOneOutput d outputs places
  HaveOneOutput-parts small places firsts p q low inside same =
      let one = (same_first_place numbers places firsts p q (omega (arith, low, width)) (omega (arith, inside, width))).1 same in
      lower (class_of classes p * ((2 ^ 32 - 1) / max (states_of d) 1)) (class_of classes q * ((2 ^ 32 - 1) / max (states_of d) 1)) (class_of outputs p) (class_of outputs q) (small p low) (small q inside) (sym (are p low) ∙ one ∙ are q inside)
    where
      lower : (x y a b : ℕ) → a < 2 ^ 32 → b < 2 ^ 32 → x * 2 ^ 32 + a ≡ y * 2 ^ 32 + b → a ≡ b
      lower x y a b less more equal = omega (arith, less, more, equal)

  -- and the class
  pub finer-parts : states_of d < 2 ^ 32 → ((q : ℕ) → q ≤ states_of d → class_of outputs q < 2 ^ 32) → (places : List ℕ) → AreFirstPlaces numbers places → (q : ℕ) → q ≤ states_of d → class_of classes q ≡ class_of classes (class_of places q)
  finer-parts few small places firsts q low =
      let first = firsts.first q (omega (arith, low, width)) in
      let place = class_of places q in
      let inside : place ≤ states_of d = omega (arith, first.up_to, low) in
      upper ((2 ^ 32 - 1) / max (states_of d) 1) (class_of classes q) (class_of classes place) (class_of outputs q) (class_of outputs place) some (small q low) (small place inside) (sym (are q low) ∙ sym first.same ∙ are place inside)
    where
      some : 0 < (2 ^ 32 - 1) / max (states_of d) 1
      some = omega (arith, le-div 1 (2 ^ 32 - 1) (max (states_of d) 1) (omega arith) (omega (arith, few)))

      upper : (spread x y a b : ℕ) → 0 < spread → a < 2 ^ 32 → b < 2 ^ 32 → x * spread * 2 ^ 32 + a ≡ y * spread * 2 ^ 32 + b → x ≡ y
      upper spread x y a b pos less more equal =
          let same : x * spread ≡ y * spread = omega (arith, less, more, equal) in
          omega (arith, mul-le-cancel x y spread pos (omega (arith, same)), mul-le-cancel y x spread pos (omega (arith, same)))
