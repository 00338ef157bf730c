-- How texts are cut into tokens, each at its byte.
use Rattle.std.specs.Prelude.{ℕ, zero, suc, ◌+◌, ◌-◌, Bool, if◌then◌else◌, List, [], ◌∷◌, map}

-- a token with which bytes begin, and how many bytes it has
pub record Lexeme (T : Type 0) : Type 0 where
  pub token : T
  pub len : ℕ

-- a token of so many bytes
abbrev pub lexeme_of : {T : Type 0} → T → ℕ → Lexeme T
lexeme_of token len = record { token = token; len = len }

-- How texts are cut, where a mode says what may come next: the token with which a byte and those after it begin, the byte's place being
-- known; the mode after a token; the bytes that divide tokens and are in none; and the tokens of the end of a text.
pub record Lexing (M T : Type 0) : Type 0 where
  pub lexeme : M → ℕ → ℕ → List ℕ → Lexeme T
  pub mode_after : M → T → M
  pub divides : ℕ → Bool
  pub ends : List T

-- a token, the byte at which it begins, and the byte after it
pub record Spot (T : Type 0) : Type 0 where
  pub token : T
  pub at : ℕ
  pub after : ℕ

-- a token that begins at a byte
abbrev pub spot_of : {T : Type 0} → ℕ → Lexeme T → Spot T
spot_of at l = record { token = l.token; at = at; after = at + l.len }

-- the tokens of bytes from a place on, of which the first so many belong to the token before
abbrev pub spots_from : {M T : Type 0} → Lexing M T → M → ℕ → ℕ → List ℕ → List (Spot T)
spots_from lexing mode at skipped [] = map (λ t. record { token = t; at = at; after = at }) lexing.ends
spots_from lexing mode at (suc skipped) (b ∷ bs) = spots_from lexing mode (suc at) skipped bs
spots_from lexing mode at zero (b ∷ bs) =
    if lexing.divides b
    then spots_from lexing mode (suc at) zero bs
    else
    spot_of at (lexing.lexeme mode at b bs)
    ∷ spots_from lexing (lexing.mode_after mode (lexing.lexeme mode at b bs).token) (suc at) ((lexing.lexeme mode at b bs).len - 1) bs

-- tokens without their bytes
abbrev pub tokens : {T : Type 0} → List (Spot T) → List T
tokens {T} spots = map (λ (s : Spot T). s.token) spots
