-- Names of systems in a header, and the digits that the format takes on their tracks.
use Rattle.std.specs.Prelude.{ℕ, zero, suc, ◌^◌, ◌==◌, nat_le, Bool, ◌||◌, ◌&&◌, if◌then◌else◌, List, [], ◌∷◌, slice_index, Option, None, Some}
use Rattle.std.specs.List.{list_all}
use Rattle.std.specs.Str.{bytes_eq}
use Rattle.digit_tuple.specs.declared.direction.Direction.TheVariants.{Msd, Lsd}
use Rattle.system_names.specs.declared.system_kind.SystemKind.TheVariants.{Base, Fibonacci}
use Rattle.system_names.specs.Names.{system_name}
use Rattle.text_grammar.specs.Systems.{is_system}
use Rattle.dfa_reading.specs.Lines.{◌>>=◌, parts_of, each_of}

abbrev pub system_of : List ℕ → Option (List ℕ)
system_of part = if is_system part then Some part else None

-- the first byte of a system's name determines its direction
abbrev pub directs_as : List ℕ → List ℕ → Bool
directs_as name other = slice_index other 0 == slice_index name 0

-- some names, all of one direction
abbrev pub of_one_direction : List (List ℕ) → Option (List (List ℕ))
of_one_direction [] = None
of_one_direction (name ∷ names) = if list_all (directs_as name) names then Some (name ∷ names) else None

-- the names of systems of one direction, at least one
unfoldable pub systems_of : List ℕ → Option (List (List ℕ))
systems_of line = each_of system_of (parts_of line) >>= of_one_direction

-- the name is that of base k
abbrev pub is_base_name : List ℕ → ℕ → Bool
is_base_name name k = nat_le 2 k && (bytes_eq name (system_name Msd (Base k)) || bytes_eq name (system_name Lsd (Base k)))

-- or that of the Fibonacci system
abbrev pub is_fibonacci_name : List ℕ → Bool
is_fibonacci_name name = bytes_eq name (system_name Msd Fibonacci) || bytes_eq name (system_name Lsd Fibonacci)

-- the base up to k that the name is of, or 2 for the Fibonacci system, or 2^32
abbrev pub limit_up_to : List ℕ → ℕ → ℕ
limit_up_to name zero = if is_fibonacci_name name then 2 else 2 ^ 32
limit_up_to name (suc k) = if is_base_name name (suc k) then suc k else limit_up_to name k

-- The digits of a track are below this number: in base k below k, in the Fibonacci system below 2, and in a system that is not built in
-- below 2^32, as its digits are known only where it is.
unfoldable pub digit_limit : List ℕ → ℕ
digit_limit name = limit_up_to name 40
