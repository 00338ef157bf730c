-- Numbers for variables.
use Rattle.std.specs.Prelude.{ℕ, if◌then◌else◌}
use Rattle.std.specs.Str.{bytes_eq}
use Rattle.formula_parse.specs.Tokens.{Name}

-- a number for each variable
abbrev pub Assignment : Type 0
Assignment = Name → ℕ

-- the same numbers, but for one variable
abbrev pub with_value : Name → ℕ → Assignment → Assignment
with_value n k a = λ m. if bytes_eq n m then k else a m
