-- Languages of tracks, one by one.
use Rattle.std.proofs.Common.{◌≡◌, ℕ, ◌+◌, ◌<◌, inl, inr, List, [], ◌∷◌, get_or, subst, arith}
use Rattle.std.proofs.lemmas.Bool.{cases_lt}
use Rattle.digit_tuple.specs.Deterministic.{Automaton}
use Rattle.minimise.specs.Canonical.{IsCanonical}
use Rattle.product_op.specs.Validity.{language_at}

-- a canonical language over so many digits
abbrev pub IsLanguage : ℕ → Automaton → Type 0
IsLanguage size d = IsCanonical d × (d.sizes ≡ size ∷ [])

-- the first so many are languages
abbrev pub AreLanguagesTo : List ℕ → List Automaton → ℕ → Type 0
AreLanguagesTo sizes languages count = (track : ℕ) → track < count → IsLanguage (get_or sizes track 0) (language_at languages track)

-- one more
pub AreLanguagesTo-more : (sizes : List ℕ) (languages : List Automaton) (count : ℕ) → AreLanguagesTo sizes languages count → IsLanguage (get_or sizes count 0) (language_at languages count)
    → AreLanguagesTo sizes languages (count + 1)
AreLanguagesTo-more sizes languages count so_far next track less = elim (cases_lt track count) [
  | inl before ↦ so_far track before
  | inr past ↦ (let same : count ≡ track = omega (arith, less, past) in subst (λ n. IsLanguage (get_or sizes n 0) (language_at languages n)) same next)
]
