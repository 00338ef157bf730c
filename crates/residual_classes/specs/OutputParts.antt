-- Numbers that determine a class and an output.
use Rattle.std.specs.Prelude.{ℕ, ◌+◌, ◌*◌, ◌-◌, ◌/◌, ◌^◌, max}

-- a class of so many, and an output below 2^32, in one number
abbrev pub part_number : ℕ → ℕ → ℕ → ℕ
part_number states class output = class * ((2 ^ 32 - 1) / max states 1) * 2 ^ 32 + output
