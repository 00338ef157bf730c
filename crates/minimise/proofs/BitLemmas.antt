-- Acceptance as classes: 1 where a state accepts, and 0 elsewhere.
use Rattle.std.proofs.Common.{◌≡◌, ◌≢◌, ℕ, ◌<◌, ◌≤◌, Bool, true, false, List, [], ◌∷◌, length, Option, None, Some, ◌↔◌, ◌⊎◌, inl, inr, IsTrue, get_or, refl, sym, ap, ◌∙◌, subst, arith}
use Rattle.std.specs.Option.{option_map_or, option_and_then}
use Rattle.std.proofs.lemmas.Bool.{cases_lt}
use Rattle.std.proofs.lemmas.List.{get_or-map, get_or_past, length-map, ext_get_or}
use Rattle.digit_tuple.specs.Deterministic.{Automaton, State, no_state, letters_of, states_of, accepting_of, step_of, run_of, accepts_from, accepts_of}
use Rattle.digit_tuple.specs.Letters.{product, IsWord}
use Rattle.residual_classes.specs.Classes.{class_of}
use Rattle.residual_classes.specs.ClassFunctions.{class_from, SameClassesFrom, SameClassFunction, HasNoClassFrom}
use Rattle.residual_classes.specs.Outputs.{bit_of, bits_of}
use Rattle.minimise.specs.Residuals.{SameResidual, SameLanguage, IsDead}
use Rattle.minimise.specs.Canonical.{IsCanonical, IsCanonicalWithClasses}

pub bit_of-injective : (b c : Bool) → bit_of b ≡ bit_of c → b ≡ c
bit_of-injective true true same = refl
bit_of-injective true false same = absurd (omega arith)
bit_of-injective false true same = absurd (omega arith)
bit_of-injective false false same = refl

bit_of-some : (b : Bool) → IsTrue b ↔ (bit_of b ≢ 0)
bit_of-some true = ((λ is none. omega (arith, none)), (λ some. refl))
bit_of-some false = ((λ is none. let no : false ≡ true = is in cc), (λ some. absurd (some refl)))

module _ (d : Automaton) where
  pub length-bits : length (bits_of d) ≡ states_of d
  length-bits = length-map d.states (λ (s : State). bit_of s.accepting)

  pub class_of-bits : (q : ℕ) → class_of (bits_of d) q ≡ bit_of (accepting_of d q)
  class_of-bits q = by (cases_lt q (states_of d))
    where
      by : (q < states_of d) ⊎ (states_of d ≤ q) → class_of (bits_of d) q ≡ bit_of (accepting_of d q)
      by (inl within) = get_or-map (λ (s : State). bit_of s.accepting) d.states q no_state 0 within
      by (inr past) = get_or_past (bits_of d) q 0 (omega (arith, past, length-bits)) ∙ sym (ap (λ (s : State). bit_of s.accepting) (get_or_past d.states q no_state past))

  -- a word has class 1 where it is accepted
  pub class_from-bits : (w : List ℕ) (q : ℕ) → class_from d (bits_of d) q w ≡ bit_of (accepts_from d q w)
  class_from-bits [] q = class_of-bits q
  class_from-bits (a ∷ w) q = by (step_of d q a) (class_from-bits w)
    where
      by : (o : Option ℕ) → ((p : ℕ) → class_from d (bits_of d) p w ≡ bit_of (accepts_from d p w))
          → option_map_or (λ p. class_of (bits_of d) p) (option_and_then (λ p. run_of d p w) o) 0 ≡ bit_of (option_map_or (λ p. accepts_from d p w) o false)
      by None rest = refl
      by (Some p) rest = rest p

  pub no_class-dead : (q : ℕ) → HasNoClassFrom d (bits_of d) q → IsDead d q
  no_class-dead q none w over = bit_of-injective (accepts_from d q w) false (sym (class_from-bits w q) ∙ none w over)

  pub dead-no_class : (q : ℕ) → IsDead d q → HasNoClassFrom d (bits_of d) q
  dead-no_class q dead w over = class_from-bits w q ∙ ap bit_of (dead w over)

-- one residual is one function to bits
pub classes-residual : (d e : Automaton) (p q : ℕ) → SameClassesFrom d (bits_of d) p e (bits_of e) q → SameResidual d p e q
classes-residual d e p q same w over = bit_of-injective (accepts_from d p w) (accepts_from e q w) (sym (class_from-bits d w p) ∙ same w over ∙ class_from-bits e w q)

pub residual-classes : (d e : Automaton) (p q : ℕ) → SameResidual d p e q → SameClassesFrom d (bits_of d) p e (bits_of e) q
residual-classes d e p q same w over = class_from-bits d w p ∙ ap bit_of (same w over) ∙ sym (class_from-bits e w q)

-- a canonical automaton is that of its bits
pub with_bits : (d : Automaton) → IsCanonical d → IsCanonicalWithClasses d (bits_of d)
with_bits d canonical = record {
  table = canonical.table;
  count = length-bits d;
  accepting = λ q within. let is = bit_of-some (accepting_of d q) in ((λ yes none. is.0 yes (sym (class_of-bits d q) ∙ none)), (λ some. is.1 (λ none. some (class_of-bits d q ∙ none))));
  firsts = canonical.firsts;
  numbered = canonical.numbered;
  distinct = λ p q before within same. canonical.distinct p q before within (classes-residual d d p q same);
  live = λ p a q within small leads none. canonical.live p a q within small leads (no_class-dead d q none);
}

pub without_bits : (d : Automaton) → IsCanonicalWithClasses d (bits_of d) → IsCanonical d
without_bits d canonical = record {
  table = canonical.table;
  firsts = canonical.firsts;
  numbered = canonical.numbered;
  distinct = λ p q before within same. canonical.distinct p q before within (residual-classes d d p q same);
  live = λ p a q within small leads dead. canonical.live p a q within small leads (dead-no_class d q dead);
}

-- the canonical automaton of a function to bits
module _ (d minimal : Automaton) (classes : List ℕ) (sizes : minimal.sizes ≡ d.sizes) (same : SameClassFunction d (bits_of d) minimal classes) (canonical : IsCanonicalWithClasses minimal classes) where
  over_both : (w : List ℕ) → IsWord (letters_of minimal) w → IsWord (letters_of d) w
  over_both w over = subst (λ (ns : List ℕ). IsWord (product ns) w) sizes over

  are_bits : (q : ℕ) → q < states_of minimal → class_of classes q ≡ bit_of (accepting_of minimal q)
  are_bits q within = by (accepts_of d first) (accepting_of minimal q) refl is (canonical.accepting q within)
    where
      first : List ℕ
      first = get_or canonical.firsts q []

      is : class_of classes q ≡ bit_of (accepts_of d first)
      is = sym (ap (λ (o : Option ℕ). option_map_or (λ p. class_of classes p) o 0) (canonical.numbered.lead q within))
          ∙ sym (same first (over_both first (canonical.numbered.over q within))) ∙ class_from-bits d first 0

      by : (b c : Bool) → accepting_of minimal q ≡ c → class_of classes q ≡ bit_of b → IsTrue c ↔ (class_of classes q ≢ 0) → class_of classes q ≡ bit_of c
      by true true at one iff = one
      by false false at one iff = one
      by true false at one iff = absurd (let no : false ≡ true = iff.1 (λ none. omega (arith, none, one)) in cc)
      by false true at one iff = absurd (iff.0 refl one)

  classes_are : classes ≡ bits_of minimal
  classes_are = ext_get_or 0 classes (bits_of minimal) (canonical.count ∙ sym (length-bits minimal)) (λ q within. are_bits q (omega (arith, within, canonical.count)) ∙ sym (class_of-bits minimal q))

  pub IsCanonical-bits : IsCanonical minimal
  IsCanonical-bits = without_bits minimal (subst (λ (cs : List ℕ). IsCanonicalWithClasses minimal cs) classes_are canonical)

  pub SameLanguage-bits : SameLanguage d minimal
  SameLanguage-bits = classes-residual d minimal 0 0 (subst (λ (cs : List ℕ). SameClassFunction d (bits_of d) minimal cs) classes_are same)
