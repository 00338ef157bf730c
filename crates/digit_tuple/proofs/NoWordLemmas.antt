-- The automaton of no words.
use Rattle.std.proofs.Common.{◌≡◌, ℕ, false, List, [], ◌∷◌, refl}
use Rattle.digit_tuple.specs.Deterministic.{accepts_of}
use Rattle.digit_tuple.specs.NoWords.{bare_automaton}

-- it accepts nothing
pub bare_refuses : (sizes w : List ℕ) → accepts_of (bare_automaton sizes) w ≡ false
bare_refuses sizes [] = refl
bare_refuses sizes (a ∷ w) = refl
