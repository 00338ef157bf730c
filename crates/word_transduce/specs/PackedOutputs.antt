-- Outputs as they are in keys: four to a number where all of them are below 256. Nobody has to believe this: it serves the code.
use Rattle.std.specs.Prelude.{ℕ, zero, suc, ◌+◌, ◌*◌, ◌/◌, ◌%◌, ◌<◌, Bool, true, false, List, length, map, slice_index, nat_lt, ⊤}
use Rattle.std.specs.List.{range_with_len}
use Rattle.transducer_reading.specs.Transducers.{Transducer}

-- whether numbers of outputs are below 256
abbrev pub are_packed : Transducer → Bool
are_packed t = nat_lt (length t.lines) 255

-- four outputs in a number, the first one least
abbrev pub group_of : List ℕ → ℕ → ℕ
group_of outputs group =
    slice_index outputs (4 * group) % 0x100
    + slice_index outputs (4 * group + 1) % 0x100 * 0x100
    + slice_index outputs (4 * group + 2) % 0x100 * 0x10000
    + slice_index outputs (4 * group + 3) % 0x100 * 0x1000000

-- how many numbers so many outputs are in
abbrev pub packed_len : Bool → ℕ → ℕ
packed_len true count = (count + 3) / 4
packed_len false count = count

-- outputs as they are in a key
abbrev pub packed : Bool → List ℕ → List ℕ
packed true outputs = map (group_of outputs) (range_with_len 0 (packed_len true (length outputs)))
packed false outputs = outputs

-- one of four outputs in a number
abbrev pub output_of : ℕ → ℕ → ℕ
output_of group zero = group % 0x100
output_of group (suc zero) = group / 0x100 % 0x100
output_of group (suc (suc zero)) = group / 0x10000 % 0x100
output_of group (suc (suc (suc place))) = group / 0x1000000

-- the output of a key at a position
abbrev pub key_output : Bool → List ℕ → ℕ → ℕ
key_output true key place = output_of (slice_index key (place / 4)) (place % 4)
key_output false key place = slice_index key place

-- the first outputs of a key
abbrev pub unpacked : Bool → ℕ → List ℕ → List ℕ
unpacked is_packed count key = map (key_output is_packed key) (range_with_len 0 count)

-- all outputs are below 256, where they are packed
abbrev pub Fit : Bool → List ℕ → Type 0
Fit true outputs = (place : ℕ) → slice_index outputs place < 0x100
Fit false outputs = ⊤
