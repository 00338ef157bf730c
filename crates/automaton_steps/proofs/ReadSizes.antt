-- Words that lead a nondeterministic automaton to the same states are accepted alike before each word.
use Rattle.std.proofs.Common.{◌≡◌, ℕ, ◌↔◌, List, ◌++◌, IsTrue, sym, ◌∙◌, subst}
use Rattle.digit_tuple.specs.Automaton.{Branching, Accepts, Path, letters_of}
use Rattle.digit_tuple.specs.Deterministic.{Automaton, accepts_of}
use Rattle.digit_tuple.specs.Letters.{IsWord, product}
use Rattle.digit_tuple.specs.Width.{IsEquivalence}
use Rattle.digit_tuple.proofs.PathLemmas.{Path-append, Path-split}
use Rattle.digit_tuple.proofs.TruthLemmas.{same_tests}
use Rattle.digit_tuple.proofs.WidthLemmas.{IsEquivalence-facts}
use Rattle.digit_tuple.proofs.WordLemmas.{IsWord-append}
use Rattle.determinise.specs.Subsets.{Alike}
use Rattle.minimise.specs.Canonical.{IsCanonical}
use Rattle.minimise.specs.Residuals.{SameLanguage}
use Rattle.automaton_steps.specs.ReadSteps.{IsRead}
use Rattle.automaton_steps.proofs.StepSizes.{AreKept}

module _ (n : Branching) where
  turned : (w v : List ℕ) → Alike n w v → Alike n v w
  turned w v alike q = ((alike q).1, (alike q).0)

  pub IsEquivalence-read : IsEquivalence (Alike n)
  IsEquivalence-read = IsEquivalence-facts {X = ℕ} (Path n 0)

  accepts_too : (w v u : List ℕ) → Alike n w v → Accepts n (w ++ u) → Accepts n (v ++ u)
  accepts_too w v u alike (q, path, accepting) =
      let parts = Path-split n w u 0 q path in
      (q, Path-append n v u 0 parts.0 q ((alike parts.0).0 parts.1) parts.2, accepting)

  pub read_kept : (d : Automaton) → IsRead n d → AreKept (Alike n) (letters_of n) d
  read_kept d read w v u one other more alike =
      let first = read.language (w ++ u) (IsWord-append (letters_of n) w u one more) in
      let second = read.language (v ++ u) (IsWord-append (letters_of n) v u other more) in
      same_tests (accepts_of d (w ++ u)) (accepts_of d (v ++ u)) (λ is. second.1 (accepts_too w v u alike (first.0 is)), λ is. first.1 (accepts_too v w u (turned w v alike) (second.0 is)))

-- the canonical automaton of the automaton of sets
pub IsRead-canonical : (n : Branching) (d e : Automaton) → d.sizes ≡ n.sizes → ((w : List ℕ) → IsWord (letters_of n) w → IsTrue (accepts_of d w) ↔ Accepts n w)
    → e.sizes ≡ d.sizes → SameLanguage d e → IsCanonical e → IsRead n e
IsRead-canonical n d e sizes language same_sizes same canonical = record {
  sizes = same_sizes ∙ sizes;
  canonical = canonical;
  language = λ w over.
      let equal : accepts_of d w ≡ accepts_of e w = same w (subst (λ (s : List ℕ). IsWord (product s) w) (sym sizes) over) in
      subst (λ b. IsTrue b ↔ Accepts n w) equal (language w over);
}
