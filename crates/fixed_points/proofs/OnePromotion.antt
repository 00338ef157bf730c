-- The promotion of a morphism has one outcome.
use Rattle.std.proofs.Common.{◌≡◌, ℕ, List, [], ◌∷◌, length, ℤ, inl, inr, Result, Ok, Err, sym, ap, ◌∙◌, subst, arith}
use Rattle.std.specs.List.{AllByRecursion}
use Rattle.digit_tuple.specs.Steps.{StepLog}
use Rattle.digit_tuple.specs.declared.step_fault.StepFault.{StepFault}
use Rattle.digit_tuple.specs.declared.step_fault.StepFault.TheVariants.{Memory}
use Rattle.digit_tuple.proofs.WidthLemmas.{IsEquivalence-facts}
use Rattle.numeration.specs.Systems.{System}
use Rattle.base_k.specs.Positional.{RankIsPositional, base, value}
use Rattle.num_system.specs.Sealed.{IsSealed, SystemValue, system_of}
use Rattle.num_system.specs.Tracks.{systems_of, direction_of}
use Rattle.num_system.proofs.OneSystem.{one_sealed}
use Rattle.automaton_steps.specs.Makings.{DoesStep}
use Rattle.automaton_steps.specs.OneAnswers.{AreOneAnswer}
use Rattle.automaton_steps.proofs.AnswerCases.{memory_alone, one_value, raised_one}
use Rattle.automaton_steps.proofs.StepAnswers.{step_one}
use Rattle.word_output.specs.Words.{HasLetter, WordValue}
use Rattle.word_output.proofs.LetterEquality.{letter_functions}
use Rattle.word_output.proofs.PlaceLaws.{determined_by_letters}
use Rattle.morph_words.specs.Rules.{Rules}
use Rattle.morph_words.specs.FixedPoint.{IsLetterAt}
use Rattle.morph_words.specs.MorphismKinds.{HasFixedPoint}
use Rattle.fixed_points.specs.Laws.{PromotionsHaveOneOutcome}
use Rattle.fixed_points.specs.Promotion.{DoesPromote, IsFixedWord, promote_step}
use Rattle.fixed_points.specs.declared.promote_fault.PromoteFault.{PromoteFault}
use Rattle.fixed_points.specs.declared.promote_fault.PromoteFault.TheVariants.{Morphism, Step}
use Rattle.fixed_points.proofs.KindLemmas.{apart, one_base, one_kind}
use Rattle.fixed_points.proofs.WordLemmas.{represented_value}

head_same : (s t : System) (ss ts : List System) → s ∷ ss ≡ t ∷ ts → s ≡ t
head_same s t ss ts same = cc

-- the systems of one track, each sealed, are one where their numbers and directions are
one_track : (k : ℕ) (a b : List SystemValue) → AllByRecursion IsSealed a → AllByRecursion IsSealed b → systems_of a ≡ base k ∷ [] → systems_of b ≡ base k ∷ [] → direction_of a ≡ direction_of b → a ≡ b
one_track k [] b first second one two directions = let long : 0 ≡ 1 = ap length one in absurd (omega (arith, long))
one_track k (s ∷ a) [] first second one two directions = let long : 0 ≡ 1 = ap length two in absurd (omega (arith, long))
one_track k (s ∷ []) (t ∷ []) first second one two directions = ap (λ u. u ∷ []) (one_sealed s t first.0 second.0 directions (head_same (system_of s) (base k) [] [] one ∙ sym (head_same (system_of t) (base k) [] [] two)))
one_track k (s ∷ u ∷ a) (t ∷ b) first second one two directions = let long : length (systems_of (s ∷ u ∷ a)) ≡ 1 = ap length one in absurd (omega (arith, long))
one_track k (s ∷ []) (t ∷ u ∷ b) first second one two directions = let long : length (systems_of (t ∷ u ∷ b)) ≡ 1 = ap length two in absurd (omega (arith, long))

module _ (positional : RankIsPositional) (rules : Rules) (k : ℕ) (has : HasFixedPoint rules k) (v u : WordValue) (first : IsFixedWord rules k v) (second : IsFixedWord rules k u) where
  -- a place of a letter is one number
  one_number : (x : WordValue) → IsFixedWord rules k x → (ns : List ℕ) (letter : ℤ) → HasLetter x ns letter → (place : ℕ) × (ns ≡ place ∷ [])
  one_number x is ns letter (w, represented, there) = (value k w, represented_value positional x.systems k has.base.0 is.system is.direction ns w represented)

  -- a letter of the one word is one of the other
  carried : (x y : WordValue) → IsFixedWord rules k x → IsFixedWord rules k y → (ns : List ℕ) (letter : ℤ) → HasLetter x ns letter → HasLetter y ns letter
  carried x y one two ns letter has_letter =
      let (place, is) = one_number x one ns letter has_letter in
      subst (λ ms. HasLetter y ms letter) (sym is) ((two.letters place letter).1 ((one.letters place letter).0 (subst (λ ms. HasLetter x ms letter) is has_letter)))

  pub one_word : v ≡ u
  one_word =
      determined_by_letters letter_functions v u first.word_is second.word_is (one_track k v.systems u.systems first.word_is.sealed second.word_is.sealed first.system second.system (first.direction ∙ sym second.direction))
      (λ ns letter. (carried v u first second ns letter, carried u v second first ns letter))

module _ (positional : RankIsPositional) (rules : Rules) where
  -- the step has one answer, and a morphism one base
  one_step : (old new next : StepLog) (result other : Result WordValue StepFault) (k j : ℕ) → HasFixedPoint rules k → HasFixedPoint rules j
      → DoesStep (promote_step rules k) old result new → DoesStep (promote_step rules j) old other next → AreOneAnswer Memory result other new next
  one_step old new next result other k j has also a b =
      step_one (promote_step rules k) (IsEquivalence-facts (λ w letter. IsLetterAt rules (value k w) letter)) (one_word positional rules k has) old new next result other a
      (subst (λ i. DoesStep (promote_step rules i) old other next) (one_base rules j k also has) b)

  -- beside a word there is no fault but that of memory
  only_memory : (old new next : StepLog) (v : WordValue) (fault : PromoteFault) → DoesPromote rules old (Ok v) new → DoesPromote rules old (Err fault) next → fault ≡ Step Memory
  only_memory old new next v (Morphism kind) (k, has, a) b = absurd (apart rules k kind has b.0)
  only_memory old new next v (Step fault) (k, has, a) (inl b) = ap Step b.0
  only_memory old new next v (Step fault) (k, has, a) (inr (j, also, b)) = ap Step (memory_alone Memory new next v fault (one_step old new next (Ok v) (Err fault) k j has also a b))

  one_fault : (old new next : StepLog) (fault other : PromoteFault) → DoesPromote rules old (Err fault) new → DoesPromote rules old (Err other) next → AreOneAnswer {Made = WordValue} (Step Memory) (Err fault) (Err other) new next
  one_fault old new next (Morphism kind) (Morphism other) a b = inl (ap Err (ap Morphism (one_kind rules kind other a.0 b.0)), a.1 ∙ sym b.1)
  one_fault old new next (Morphism kind) (Step fault) a (inl b) = inr (inr (ap Err (ap Step b.0)))
  one_fault old new next (Morphism kind) (Step fault) a (inr (j, also, b)) = absurd (apart rules j kind also a.0)
  one_fault old new next (Step fault) other (inl a) b = inr (inl (ap Err (ap Step a.0)))
  one_fault old new next (Step fault) (Morphism kind) (inr (k, has, a)) b = absurd (apart rules k kind has b.0)
  one_fault old new next (Step fault) (Step other) (inr (k, has, a)) (inl b) = inr (inr (ap Err (ap Step b.0)))
  one_fault old new next (Step fault) (Step other) (inr (k, has, a)) (inr (j, also, b)) = raised_one Step Memory new next fault other (one_step old new next (Err fault) (Err other) k j has also a b)

pub one_promotions : RankIsPositional → PromotionsHaveOneOutcome
one_promotions positional rules old new next (Ok v) (Ok u) a b =
    let same = one_value Memory new next v u (one_step positional rules old new next (Ok v) (Ok u) a.0 b.0 a.1 b.1 a.2 b.2) in inl (ap Ok same.0, same.1)
one_promotions positional rules old new next (Ok v) (Err fault) a b = inr (inr (ap Err (only_memory positional rules old new next v fault a b)))
one_promotions positional rules old new next (Err fault) (Ok v) a b = inr (inl (ap Err (only_memory positional rules old next new v fault b a)))
one_promotions positional rules old new next (Err fault) (Err other) a b = one_fault positional rules old new next fault other a b
