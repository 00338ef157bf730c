-- Tables of deterministic automata, given by where letters lead and by which states accept.
use Rattle.std.specs.Prelude.{ℕ, Bool, false, List, [], ◌∷◌, Option}
use Rattle.std.specs.Option.{option_map_or}

-- whether a word leads from a state to one that accepts
abbrev pub run_accepts : (ℕ → ℕ → Option ℕ) → (ℕ → Bool) → ℕ → List ℕ → Bool
run_accepts target accepts q [] = accepts q
run_accepts target accepts q (a ∷ w) = option_map_or (λ p. run_accepts target accepts p w) (target q a) false
