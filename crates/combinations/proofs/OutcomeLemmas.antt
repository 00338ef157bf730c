-- Relations make one word, or have one fault.
use Rattle.std.proofs.Common.{◌≡◌, ℕ, ◌<◌, ℤ, List, length, Option, Ok, Err, ◌⊎◌, inl, inr, refl, sym, ap, ◌∙◌, arith}
use Rattle.std.proofs.lemmas.Bool.{cases_order}
use Rattle.digit_tuple.specs.Steps.{StepLog}
use Rattle.digit_tuple.specs.Width.{IsEquivalence}
use Rattle.digit_tuple.specs.declared.step_fault.StepFault.TheVariants.{Memory}
use Rattle.num_system.specs.Sealed.{SystemValue}
use Rattle.automaton_steps.specs.Laws.{HasOneOutcome}
use Rattle.automaton_steps.specs.OneAnswers.{AreOneAnswer}
use Rattle.automaton_steps.proofs.AnswerCases.{memory_alone, one_value, raised_one}
use Rattle.automaton_steps.proofs.StepAnswers.{step_one}
use Rattle.word_output.specs.Words.{HasLetter, WordValue}
use Rattle.word_output.proofs.LetterEquality.{letter_functions}
use Rattle.word_output.proofs.PlaceLaws.{letter_count, determined_by_letters}
use Rattle.combinations.specs.Parts.{PartValue}
use Rattle.combinations.specs.Shapes.{HasNoTrack, HaveOneShape, IsFirstOther, IsShapeFault}
use Rattle.combinations.specs.Combined.{IsCombination}
use Rattle.combinations.specs.CombineSteps.{CombineAlike, combine_step}
use Rattle.combinations.specs.Laws.{CombinationsHaveOneOutcome}
use Rattle.combinations.specs.declared.combine_fault.CombineFault.TheVariants.{Shape, Step}

-- words that are alike to the step: this is an equivalence
combine_alike : (parts : List PartValue) (systems : List SystemValue) → IsEquivalence (CombineAlike parts systems)
combine_alike parts systems = record {
  reflexive = λ w. record { relations = λ place default inside u over. refl; tracks = λ track less u over. refl };
  symmetric = λ w v alike. record {
    relations = λ place default inside u over. sym (alike.relations place default inside u over);
    tracks = λ track less u over. sym (alike.tracks track less u over);
  };
  transitive = λ u v w one two. record {
    relations = λ place default inside t over. one.relations place default inside t over ∙ two.relations place default inside t over;
    tracks = λ track less t over. one.tracks track less t over ∙ two.tracks track less t over;
  };
}

module _ (rest : Option ℤ) (parts : List PartValue) (systems : List SystemValue) where
  -- a letter of the one word is one of the other
  carried : (word other : WordValue) → IsCombination rest parts systems word → IsCombination rest parts systems other → (ns : List ℕ) (letter : ℤ) → HasLetter word ns letter → HasLetter other ns letter
  carried word other one two ns letter has =
      let count : length ns ≡ length systems = letter_count word ns letter has ∙ ap length one.systems_are in
      (two.letters ns letter count).1 ((one.letters ns letter count).0 has)

  one_word : (word other : WordValue) → IsCombination rest parts systems word → IsCombination rest parts systems other → word ≡ other
  one_word word other one two =
      determined_by_letters letter_functions word other one.word_is two.word_is (one.systems_are ∙ sym two.systems_are) (λ ns letter. (carried word other one two ns letter, carried other word two one ns letter))

  -- the step has one answer
  pub step_outcome : HasOneOutcome (combine_step rest parts systems)
  step_outcome = step_one (combine_step rest parts systems) (combine_alike parts systems) one_word

  -- the places of a shape's fault are one pair
  one_other : (place other : ℕ) → IsFirstOther parts place → IsFirstOther parts other → place ≡ other
  one_other place other one two = by (cases_order place other)
    where
      by : (place ≡ other) ⊎ ((place < other) ⊎ (other < place)) → place ≡ other
      by (inl same) = same
      by (inr (inl less)) = absurd (one.other (two.before place less))
      by (inr (inr more)) = absurd (two.other (one.before other more))

  one_second : (j l : ℕ) → (HasNoTrack parts × (j ≡ 0)) ⊎ IsFirstOther parts j → (HasNoTrack parts × (l ≡ 0)) ⊎ IsFirstOther parts l → j ≡ l
  one_second j l (inl first) (inl second) = first.1 ∙ sym second.1
  one_second j l (inl first) (inr second) = absurd (omega (arith, first.0.1, second.tracks))
  one_second j l (inr first) (inl second) = absurd (omega (arith, second.0.1, first.tracks))
  one_second j l (inr first) (inr second) = one_other j l first second

  -- and relations of one shape have none
  not_one_shape : (other : ℕ) → HaveOneShape parts → (HasNoTrack parts × (other ≡ 0)) ⊎ IsFirstOther parts other → ⊥
  not_one_shape other shape (inl none) = omega (arith, none.0.1, (shape 0 none.0.0).0)
  not_one_shape other shape (inr differs) = differs.other (shape other differs.within).1

  same_shape_fault : (new next : StepLog) (i j k l : ℕ) → IsShapeFault parts i j → IsShapeFault parts k l → new ≡ next → AreOneAnswer {Made = WordValue} (Step Memory) (Err (Shape i j)) (Err (Shape k l)) new next
  same_shape_fault new next i j k l one two same = inl (ap Err (ap (λ (n : ℕ). Shape n j) (one.0 ∙ sym two.0) ∙ ap (Shape k) (one_second j l one.1 two.1)), same)

pub one_outcome : CombinationsHaveOneOutcome
one_outcome rest parts systems old new next (Ok word) (Ok other) a b =
    let same = one_value Memory new next word other (step_outcome rest parts systems old new next (Ok word) (Ok other) a.1 b.1) in inl (ap Ok same.0, same.1)
one_outcome rest parts systems old new next (Ok word) (Err (Step fault)) a b = inr (inr (ap Err (ap Step (memory_alone Memory new next word fault (step_outcome rest parts systems old new next (Ok word) (Err fault) a.1 b.1)))))
one_outcome rest parts systems old new next (Ok word) (Err (Shape k l)) a b = absurd (not_one_shape rest parts systems l a.0 b.0.1)
one_outcome rest parts systems old new next (Err (Step fault)) (Ok word) a b = inr (inl (ap Err (ap Step (memory_alone Memory next new word fault (step_outcome rest parts systems old next new (Ok word) (Err fault) b.1 a.1)))))
one_outcome rest parts systems old new next (Err (Step fault)) (Err (Step other)) a b = raised_one Step Memory new next fault other (step_outcome rest parts systems old new next (Err fault) (Err other) a.1 b.1)
one_outcome rest parts systems old new next (Err (Step fault)) (Err (Shape k l)) a b = absurd (not_one_shape rest parts systems l a.0 b.0.1)
one_outcome rest parts systems old new next (Err (Shape i j)) (Ok word) a b = absurd (not_one_shape rest parts systems j b.0 a.0.1)
one_outcome rest parts systems old new next (Err (Shape i j)) (Err (Step fault)) a b = absurd (not_one_shape rest parts systems j b.0 a.0.1)
one_outcome rest parts systems old new next (Err (Shape i j)) (Err (Shape k l)) a b = same_shape_fault rest parts systems new next i j k l a.0 b.0 (a.1 ∙ sym b.1)
