-- A step makes no more states than its width, where words that are alike are accepted alike before each word.
use Rattle.std.proofs.Common.{◌≡◌, ℕ, ◌≤◌, List, ◌++◌, refl, sym, subst, arith}
use Rattle.digit_tuple.specs.Deterministic.{Automaton, letters_of, states_of, accepts_of}
use Rattle.digit_tuple.specs.Letters.{product, IsAlphabet, IsWord}
use Rattle.digit_tuple.specs.StepResults.{IsLineOf}
use Rattle.digit_tuple.specs.Steps.{Step}
use Rattle.digit_tuple.specs.Width.{HasApart, HasWidth, IsEquivalence}
use Rattle.digit_tuple.proofs.WidthLemmas.{HasApart-within}
use Rattle.minimise.specs.Canonical.{IsCanonical}
use Rattle.minimise.proofs.ApartLemmas.{canonical_apart}

-- words that are alike are accepted alike before each word
abbrev pub AreKept : (List ℕ → List ℕ → Type 0) → ℕ → Automaton → Type 0
AreKept alike letters d = (w v u : List ℕ) → IsWord letters w → IsWord letters v → IsWord letters u → alike w v → accepts_of d (w ++ u) ≡ accepts_of d (v ++ u)

module _ (alike : List ℕ → List ℕ → Type 0) (letters : ℕ) (made : Automaton) (canonical : IsCanonical made) (over : letters_of made ≡ letters) (equivalence : IsEquivalence alike) (kept : AreKept alike letters made) where
  size_within : (width : ℕ) → HasWidth alike letters width → states_of made ≤ width
  size_within width counted =
      let apart : HasApart alike (letters_of made) (states_of made) = canonical_apart made canonical alike (subst (λ n. AreKept alike n made) (sym over) kept) in
      HasApart-within alike letters equivalence (states_of made) width (subst (λ n. HasApart alike n (states_of made)) over apart) counted

-- the line of a step that makes this automaton
pub line_of : (step : Step) (made : Automaton) → IsAlphabet step.sizes → IsCanonical made → letters_of made ≡ product step.sizes → IsEquivalence step.alike
    → AreKept step.alike (product step.sizes) made → (limit width size : ℕ) → HasWidth step.alike (product step.sizes) width → width ≤ limit → size ≡ states_of made
    → IsLineOf limit step (states_of made) (record { kind = step.kind; width = width; size = size })
line_of step made alphabet canonical over equivalence kept limit width size counted within is = record {
  alphabet = alphabet;
  kind_is = refl;
  width = counted;
  size_is = is;
  small = omega (arith, size_within step.alike (product step.sizes) made canonical over equivalence kept width counted, is);
  within = within;
}
