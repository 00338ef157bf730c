-- Tracks over numeration systems, of which only the number of digits counts here.
use Rattle.std.specs.Prelude.{ℕ, ℤ, pos, ◌≤◌, ◌^◌, List, [], ◌∷◌, ◌++◌, map}
use Rattle.std.specs.List.{range_with_len}
use Rattle.digit_tuple.specs.declared.systems.SystemTrack.{SystemTrack}

-- how many digits a system may have: each is a signed number of 32 bits
pub record IsDigitCount (count : ℕ) : Type 0 where
  pub some : 1 ≤ count
  pub small : count ≤ 2 ^ 31

abbrev pub HasDigitCount : SystemTrack → Type 0
HasDigitCount track = IsDigitCount track.digits

-- the tracks with one more after them
abbrev pub with_system : List SystemTrack → List ℕ → ℕ → List SystemTrack
with_system systems name digits = systems ++ (record { name = name; digits = digits }) ∷ []

-- the digits 0, 1, .., as many as that
abbrev pub digit_set : ℕ → List ℤ
digit_set count = map pos (range_with_len 0 count)

-- the digits of each track
abbrev pub digit_sets : List SystemTrack → List (List ℤ)
digit_sets systems = map (λ track. digit_set track.digits) systems
