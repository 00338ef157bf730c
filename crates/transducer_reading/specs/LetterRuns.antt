-- Runs of a transducer over letters that positions have. A run stops for good where there is no letter, or no line for it.
use Rattle.std.specs.Prelude.{◌≡◌, ℕ, zero, suc, ℤ, Some}
use Rattle.transducer_reading.specs.Transducers.{Transducer, target_of, output_of}

-- the run from the first state over the letters of so many positions leads to the state
abbrev pub RunsTo : Transducer → (ℕ → ℤ → Type 0) → ℕ → ℕ → Type 0
RunsTo t HasLetter zero q = q ≡ 0
RunsTo t HasLetter (suc n) q = (p : ℕ) × (a : ℤ) × RunsTo t HasLetter n p × HasLetter n a × (target_of t p a ≡ Some q)

-- and it makes the output at the position
abbrev pub Makes : Transducer → (ℕ → ℤ → Type 0) → ℕ → ℤ → Type 0
Makes t HasLetter n b = (p : ℕ) × (a : ℤ) × RunsTo t HasLetter n p × HasLetter n a × (output_of t p a ≡ Some b)
