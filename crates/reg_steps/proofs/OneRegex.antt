-- The step of an expression has one outcome.
use Rattle.std.proofs.Common.{◌≡◌, ◌↔◌, ◌⊎◌, inl, inr, ℕ, ◌<◌, ◌≤◌, Bool, true, false, IsTrue, List, length, ℤ, refl, sym, ◌∙◌, subst}
use Rattle.std.proofs.lemmas.Bool.{cases_lt}
use Rattle.digit_tuple.specs.Deterministic.{Automaton, letters_of, accepts_of}
use Rattle.digit_tuple.specs.Letters.{IsAlphabet, IsTooLarge, IsWord, product}
use Rattle.digit_tuple.specs.Tuples.{Codes, IsLetterOf}
use Rattle.digit_tuple.specs.Width.{IsEquivalence}
use Rattle.digit_tuple.proofs.TupleLemmas.{tuples_from_word}
use Rattle.minimise.proofs.CanonicalLemmas.{canonical_forms}
use Rattle.regex_build.specs.Expression.{Expression}
use Rattle.regex_build.specs.LastMarks.{SameLastMarks}
use Rattle.regex_build.specs.Matches.{Matches}
use Rattle.automaton_steps.proofs.StepAnswers.{step_one}
use Rattle.reg_steps.specs.Laws.{RegexHasOneOutcome}
use Rattle.reg_steps.specs.RegexSteps.{IsRegexAutomaton, regex_step}

pub same_truth : (v w : Bool) (P : Type 0) → (IsTrue v ↔ P) → (IsTrue w ↔ P) → v ≡ w
same_truth true true P one other = refl
same_truth true false P one other = let yes : IsTrue false = other.1 (one.0 refl) in cc
same_truth false true P one other = let yes : IsTrue false = one.1 (other.0 refl) in cc
same_truth false false P one other = refl

-- an expression over sets has one automaton
pub one_automaton : (sets : List (List ℤ)) (e : Expression (List ℤ)) (d f : Automaton) → IsRegexAutomaton sets e d → IsRegexAutomaton sets e f → d ≡ f
one_automaton sets e d f one other = canonical_forms d f one.canonical other.canonical (one.sizes ∙ sym other.sizes) same
  where
    same : (word : List ℕ) → IsWord (letters_of d) word → accepts_of d word ≡ accepts_of f word
    same word is =
        let P : List ℕ → Type 0 = λ sizes. IsWord (product sizes) word in
        let coded : (tuples : List (List ℤ)) × Codes sets tuples word = tuples_from_word sets word (subst P one.sizes is) in
        same_truth (accepts_of d word) (accepts_of f word) (Matches e coded.0) (one.language coded.0 word coded.1) (other.language coded.0 word coded.1)

-- words are alike as equals are
IsEquivalence-regex : (sets : List (List ℤ)) (e : Expression (List ℤ)) → IsEquivalence (SameLastMarks (IsLetterOf sets) e)
IsEquivalence-regex sets e = record {
  reflexive = λ w. record { nothing = (λ is. is, λ is. is); marks = λ place. (λ is. is, λ is. is) };
  symmetric = λ w v alike. record { nothing = (alike.nothing.1, alike.nothing.0); marks = λ place. ((alike.marks place).1, (alike.marks place).0) };
  transitive = λ u v w one two. record {
    nothing = (λ is. two.nothing.0 (one.nothing.0 is), λ is. one.nothing.1 (two.nothing.1 is));
    marks = λ place. (λ is. (two.marks place).0 ((one.marks place).0 is), λ is. (one.marks place).1 ((two.marks place).1 is));
  };
}

pub regex_one : RegexHasOneOutcome
regex_one sets e = step_one (regex_step sets e) (IsEquivalence-regex sets e) (one_automaton sets e)

-- what is no alphabet is too large
pub too_large : (sizes : List ℕ) → ¬ IsAlphabet sizes → IsTooLarge sizes
too_large sizes none = by (cases_lt 16 (length sizes)) (cases_lt 65536 (product sizes))
  where
    by : (16 < length sizes) ⊎ (length sizes ≤ 16) → (65536 < product sizes) ⊎ (product sizes ≤ 65536) → IsTooLarge sizes
    by (inl many) letters = inl many
    by (inr few) (inl many) = inr many
    by (inr few) (inr small) = absurd (none (record { tracks = few; letters = small }))
