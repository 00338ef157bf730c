-- Numbers that are drawn from a seed, by the linear congruential generator modulo 2 ^ 64 that Knuth gives for MMIX (The Art of Computer Programming, volume 2, section 3.3.4).
use Rattle.std.specs.Prelude.{ℕ, zero, suc, ◌+◌, ◌*◌, ◌/◌, ◌%◌, ◌^◌}

abbrev pub next_state : ℕ → ℕ
next_state state = (state * 6364136223846793005 + 1442695040888963407) % 2 ^ 64

-- the state after so many numbers were drawn
abbrev pub state_after : ℕ → ℕ → ℕ
state_after seed zero = seed
state_after seed (suc count) = next_state (state_after seed count)

-- the number drawn after so many others: the upper bits of the next state
abbrev pub drawn_after : ℕ → ℕ → ℕ
drawn_after seed count = state_after seed (suc count) / 2 ^ 33
