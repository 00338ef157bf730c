-- When a fault may be answered: only where the count of faults rose.
use Rattle.std.specs.Prelude.{◌≡◌, ℕ, ◌+◌, ◌-◌, ◌^◌, ◌≤◌, min, Bool, true, false, Result, Ok, Err}
use Rattle.wal_outside.specs.declared.sink.WriteFault.{WriteFault}
use Rattle.wal_outside.specs.declared.sink.WriteFault.TheVariants as faults

-- one more, up to the last value of 64 bits
abbrev pub one_more : ℕ → ℕ
one_more n = min (n + 1) (2 ^ 64 - 1)

-- the count is larger than before, or is at its last value
abbrev pub Rose : ℕ → ℕ → Type 0
Rose before now = one_more before ≤ now

-- a count of faults over a call: it rises where the call failed, and else it stays
abbrev pub CountsFault : Bool → ℕ → ℕ → Type 0
CountsFault true before now = (before ≤ now) × Rose before now
CountsFault false before now = now ≡ before

-- whether a call failed; running out of memory is no failure of a call
abbrev pub is_failure : WriteFault → Bool
is_failure faults.Failed = true
is_failure faults.Memory = false

abbrev pub is_failed : {T : Type 0} → Result T WriteFault → Bool
is_failed (Ok x) = false
is_failed (Err fault) = is_failure fault
