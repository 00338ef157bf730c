-- The machine over a list of tokens.
use Rattle.std.specs.Prelude.{ℕ, true, false, List, [], ◌∷◌, Option, None, Some}
use Rattle.formula_parse.specs.Tokens.{Token, number, Placed, here, value_of, token_of}
use Rattle.formula_parse.specs.Making.{Kinds, Making}
use Rattle.formula_parse.specs.Machine.{Position, at_letter, at_value, State, step}

abbrev pub after : {X Y : Type 0} → Option X → (X → Option Y) → Option Y
after None k = None
after (Some x) k = k x

-- all of the tokens, one after the other
abbrev pub run_tokens : {K : Kinds} (A : Making K) → List Token → State K → Option (State K)
run_tokens A [] s = Some s
run_tokens A (t ∷ ts) s = after (step A s t) (λ n. run_tokens A ts n)

abbrev pub run : {K : Kinds} (A : Making K) → List Placed → State K → Option (State K)
run A [] s = Some s
run A (p ∷ ps) s = after (step A s (token_of p)) (λ n. run A ps n)

-- a token with its nesting, as it is read at a position
abbrev pub placed : {K : Kinds} → Position K → Token → ℕ → Placed
placed (at_letter c b) (number v) d = value_of (record { at = b; negative = false; value = v }) d
placed (at_value c b) (number v) d = value_of (record { at = b; negative = true; value = v }) d
placed p t d = here t d
