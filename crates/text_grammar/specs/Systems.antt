-- The form of the names of numeration systems.
use Rattle.std.specs.Prelude.{ℕ, nat_le, Bool, ◌||◌, ◌&&◌, List, length, take, drop, codes}
use Rattle.std.specs.List.{list_all}
use Rattle.std.specs.Str.{bytes_eq}
use Rattle.text_grammar.specs.Bytes.{is_alphanumeric}

-- whether these bytes are `msd_` or `lsd_`
abbrev pub is_direction : List ℕ → Bool
is_direction bytes = bytes_eq bytes (codes "msd_") || bytes_eq bytes (codes "lsd_")

-- `msd_` or `lsd_`, and then letters and digits, one at least, at most 62 bytes in all
unfoldable pub is_system : List ℕ → Bool
is_system part = nat_le 5 (length part) && (nat_le (length part) 62 && (is_direction (take 4 part) && list_all is_alphanumeric (drop 4 part)))
