-- Where letters lead, letter by letter.
use Rattle.std.proofs.Common.{◌≡◌, ℕ, ◌+◌, ◌*◌, ◌-◌, ◌<◌, List, ◌++◌, length, map, take, drop, ap, ◌∙◌, subst, length-append, below_more, arith}
use Rattle.std.specs.List.{slice_range}
use Rattle.std.proofs.lemmas.List.{drop-map, take-map}
use Rattle.std.proofs.Math.Nat.{mul-le-mul_left}
use Rattle.digit_tuple.specs.Deterministic.{Automaton, letters_of, states_of}
use Rattle.digit_tuple.specs.Keys.{AreKeyTransitions, KeyTransition, part_of, some_nonzero}
use Rattle.digit_tuple.proofs.KeySpanLemmas.{slice_range-append, slice_range-grown}
use Rattle.residual_classes.specs.Classes.{class_of}
use Rattle.class_reversal.specs.BackwardClasses.{AreTargets, classes_back, targets_by}
use Rattle.class_reversal.specs.BackwardLaws.{length-targets_by}

-- where the letters before one lead
pub record AreTargetsBelow (d : Automaton) (letter : ℕ) (targets : List ℕ) : Type 0 where
  pub room : length targets ≡ letter * states_of d
  pub parts : (a : ℕ) → a < letter → part_of targets (states_of d) a ≡ targets_by d a

-- and then where that letter leads
pub AreTargetsBelow-more : (d : Automaton) (letter : ℕ) (old new : List ℕ) → AreTargetsBelow d letter old → new ≡ old ++ targets_by d letter → AreTargetsBelow d (letter + 1) new
AreTargetsBelow-more d letter old new below are = record {
  room = ap length are ∙ omega (arith, length-append old (targets_by d letter), length-targets_by d letter, below.room);
  parts = below_more _ _ kept last;
}
  where
    kept : (a : ℕ) → a < letter → part_of new (states_of d) a ≡ targets_by d a
    kept a less =
        ap (λ (xs : List ℕ). part_of xs (states_of d) a) are
        ∙ slice_range-append old (targets_by d letter) (a * states_of d) (a * states_of d + states_of d) (omega arith) (omega (arith, below.room, mul-le-mul_left (states_of d) less))
        ∙ below.parts a less

    last : part_of new (states_of d) letter ≡ targets_by d letter
    last =
        ap (λ (xs : List ℕ). part_of xs (states_of d) letter) are
        ∙ subst (λ n. slice_range (old ++ targets_by d letter) n (n + states_of d) ≡ targets_by d letter) below.room
        (slice_range-grown old (targets_by d letter) (length old + states_of d) (omega (arith, length-targets_by d letter)))

-- the classes of the targets, letter by letter
part_of-map : (f : ℕ → ℕ) (xs : List ℕ) (width letter : ℕ) → part_of (map f xs) width letter ≡ map f (part_of xs width letter)
part_of-map f xs width letter =
    ap (take (letter * width + width - letter * width)) (drop-map f (letter * width) xs) ∙ take-map f (letter * width + width - letter * width) (drop (letter * width) xs)

-- are the transitions from a key
pub AreKeyTransitions-back : (d : Automaton) (targets key classes : List ℕ) (letters states : ℕ) (transitions : List KeyTransition) → AreTargets d targets → classes ≡ map (class_of key) targets → letters ≡ letters_of d → states ≡ states_of d
    → AreKeyTransitions letters (λ letter. some_nonzero (part_of classes states letter)) transitions → AreKeyTransitions (letters_of d) (classes_back d key) transitions
AreKeyTransitions-back d targets key classes letters states transitions are made all each parts = record {
  in_range = λ k e within. omega (arith, parts.in_range k e within, all);
  ascending = parts.ascending;
  lead = λ a small. parts.lead a (omega (arith, small, all)) ∙ ap some_nonzero (
      ap (λ (xs : List ℕ). part_of xs states a) made
      ∙ ap (λ n. part_of (map (class_of key) targets) n a) each
      ∙ part_of-map (class_of key) targets (states_of d) a
      ∙ ap (map (class_of key)) (are.parts a small));
}
