-- Runs of a transducer over letters at positions, of which some may be missing.
use Rattle.std.specs.Prelude.{ℕ, zero, suc, ℤ, Option, Some, option_map}
use Rattle.std.specs.Option.{option_and_then}
use Rattle.transducer_reading.specs.Transducers.{Transducer, target_of, output_of}

-- where the run is after so many letters, if it goes on: it stops for good where there is no letter, or no line for it
abbrev pub run : Transducer → (ℕ → Option ℤ) → ℕ → Option ℕ → Option ℕ
run t letter zero state = state
run t letter (suc n) state = option_and_then (λ q. option_and_then (λ a. target_of t q a) (letter n)) (run t letter n state)

-- what is made of a letter from a state, with this state
abbrev pub made_of : Transducer → ℕ → Option ℤ → Option (ℕ × ℤ)
made_of t q letter = option_and_then (λ a. option_map (λ b. (q, b)) (output_of t q a)) letter

-- what the run makes at a position, with the state in which it makes it, if it comes there and goes on
abbrev pub made : Transducer → (ℕ → Option ℤ) → ℕ → Option ℕ → Option (ℕ × ℤ)
made t letter n state = option_and_then (λ q. made_of t q (letter n)) (run t letter n state)

-- the output at a position of the run from the first state
abbrev pub output_at : Transducer → (ℕ → Option ℤ) → ℕ → Option ℤ
output_at t letter n = option_map (λ p. p.1) (made t letter n (Some 0))
