-- The first sign of a table with which bytes begin.
use Rattle.std.proofs.Common.{◌≡◌, refl, ℕ, Bool, true, false, eqb, List, [], ◌∷◌, length}
use Rattle.std.specs.Prelude.{if◌then◌else◌}
use Rattle.std.specs.List.{AllByRecursion, starts_with}
use Rattle.text_grammar.specs.Spots.{Lexeme}
use Rattle.text_grammar.specs.Signs.{sign_of}

-- what holds of each sign with which the bytes begin, and where they begin with none
pub sign_each : {T : Type 0} (P : Lexeme T → Type 0) (signs : List (List ℕ × T)) (other : T) (bytes : List ℕ) →
    AllByRecursion (λ (s : List ℕ × T). starts_with eqb bytes s.0 ≡ true → P (record { token = s.1; len = length s.0 })) signs → P (record { token = other; len = 1 }) → P (sign_of signs other bytes)
sign_each P [] other bytes all none = none
sign_each {T} P (sign ∷ signs) other bytes all none = pick (starts_with eqb bytes sign.0) all.0 (sign_each P signs other bytes all.1 none)
  where
    pick : (q : Bool) → (q ≡ true → P (record { token = sign.1; len = length sign.0 })) → P (sign_of signs other bytes) → P (if q then record { token = sign.1; len = length sign.0 } else sign_of signs other bytes)
    pick true h rest = h refl
    pick false h rest = rest
