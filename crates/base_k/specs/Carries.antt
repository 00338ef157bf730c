-- Carries of an addition in base k: at each place, x + y and the carry into the place is z and k times the carry out of it.
use Rattle.std.specs.Prelude.{ℕ, ◌+◌, ◌*◌, ◌/◌, ◌%◌, nat_eq, Option, None, Some, cond}
use Rattle.digit_tuple.specs.declared.direction.Direction.{Direction}
use Rattle.digit_tuple.specs.declared.direction.Direction.TheVariants.{Msd, Lsd}

-- the carry that must come into a place, where this carry is to go out of it
abbrev pub carry_in : ℕ → ℕ → ℕ → ℕ → ℕ → Option ℕ
carry_in k out x y z = cond (nat_eq (out * k + z) (x + y)) (Some 0) (cond (nat_eq (out * k + z) (x + y + 1)) (Some 1) None)

-- the carry that goes out of a place, where this carry came into it
abbrev pub carry_out : ℕ → ℕ → ℕ → ℕ → ℕ → Option ℕ
carry_out k into x y z = cond (nat_eq (x + y + into) z) (Some 0) (cond (nat_eq (x + y + into) (z + k)) (Some 1) None)

-- the carry at the other side of a place: read from the most significant digit the one that must come into it, read from the
-- least significant digit the one that goes out of it
abbrev pub next_carry : Direction → ℕ → ℕ → ℕ → ℕ → ℕ → Option ℕ
next_carry Msd k carry x y z = carry_in k carry x y z
next_carry Lsd k carry x y z = carry_out k carry x y z

-- the carry after a letter of three tracks, of which the first changes slowest
abbrev pub carry_after : Direction → ℕ → ℕ → ℕ → Option ℕ
carry_after direction k carry letter = next_carry direction k carry (letter / (k * k)) (letter % (k * k) / k) (letter % (k * k) % k)
