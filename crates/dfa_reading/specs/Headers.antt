-- Headers: the first line of a file.
use Rattle.std.specs.Prelude.{ℕ, ◌==◌, Bool, true, false, if◌then◌else◌, ℤ, List, [], ◌∷◌, map, codes, Option, None, Some, option_map}
use Rattle.std.specs.BTreeSet.{insert_key}
use Rattle.std.specs.List.{slice_split, list_all, list_any}
use Rattle.std.specs.Ordering.{int_cmp, is_eq}
use Rattle.std.specs.Str.{bytes_eq}
use Rattle.text_grammar.specs.Bytes.{is_blank}
use Rattle.dfa_reading.specs.Numbers.{integer_of}
use Rattle.dfa_reading.specs.Lines.{◌>>=◌, parts_of, each_of}
use Rattle.dfa_reading.specs.Systems.{systems_of, digit_limit}

-- a truth value, which has no tracks; the systems of the tracks by their names; or the sets of the tracks
pub data Header : Type 0 where
  Truth : Bool → Header
  Systems : List (List ℕ) → Header
  Sets : List (List ℤ) → Header

-- whether a number is among the members
abbrev pub has_member : List ℤ → ℤ → Bool
has_member set m = list_any (λ n. is_eq (int_cmp m n)) set

-- the set with a further member, at its place in ascending order
abbrev pub with_member : List ℤ → ℤ → List ℤ
with_member set m = insert_key int_cmp set m

-- a set and further members, none twice
abbrev pub with_members : List ℤ → List ℤ → Option (List ℤ)
with_members set [] = Some set
with_members set (m ∷ members) = if has_member set m then None else with_members (with_member set m) members

-- the number that is all of a text but blanks
abbrev pub only_integer : List (List ℕ) → Option ℤ
only_integer (part ∷ []) = integer_of part
only_integer _ = None

unfoldable pub member_of : List ℕ → Option ℤ
member_of bytes = only_integer (parts_of bytes)

-- numbers divided by commas, at least one
abbrev pub numbers_of : List ℕ → Option (List ℤ)
numbers_of bytes = each_of member_of (slice_split (λ b. b == 44) bytes)

-- the set of members divided by commas, each mentioned once
unfoldable pub members_of : List ℕ → Option (List ℤ)
members_of bytes = numbers_of bytes >>= with_members []

-- blanks, the opening brace and the members of a set
abbrev pub open_set_of : List ℕ → Option (List ℤ)
open_set_of [] = None
open_set_of (b ∷ bytes) = if b == 123 then members_of bytes else if is_blank b then open_set_of bytes else None

-- what closing braces divide: sets, and blanks after the last
abbrev pub sets_between : List (List ℕ) → Option (List (List ℤ))
sets_between [] = None
sets_between (rest ∷ []) = if list_all is_blank rest then Some [] else None
sets_between (piece ∷ next ∷ pieces) = do
  set ← open_set_of piece
  sets ← sets_between (next ∷ pieces)
  Some (set ∷ sets)

-- the sets of a line
unfoldable pub sets_of : List ℕ → Option (List (List ℤ))
sets_of line = sets_between (slice_split (λ b. b == 125) line)

-- `true` or `false`
abbrev pub truth_by : List (List ℕ) → Option Bool
truth_by (part ∷ []) = if bytes_eq part (codes "true") then Some true else if bytes_eq part (codes "false") then Some false else None
truth_by _ = None

unfoldable pub truth_of : List ℕ → Option Bool
truth_of line = truth_by (parts_of line)

-- the first of two that is there
abbrev pub or_else : {A : Type 0} → Option A → Option A → Option A
or_else None other = other
or_else (Some x) other = Some x

-- `true` or `false` alone, systems of one direction, or sets
unfoldable pub header_of : List ℕ → Option Header
header_of line = or_else (option_map Truth (truth_of line)) (or_else (option_map Systems (systems_of line)) (option_map Sets (sets_of line)))

-- the digits that the format takes on a track: the members of a set, or the numbers below a limit
pub data Digits : Type 0 where
  Members : List ℤ → Digits
  Below : ℕ → Digits

-- the digits of each track
abbrev pub digits_in : Header → List Digits
digits_in (Truth value) = []
digits_in (Systems names) = map (λ name. Below (digit_limit name)) names
digits_in (Sets sets) = map Members sets

-- whether a file with this header lists states: all but `true` and `false`
abbrev pub has_states : Header → Bool
has_states (Truth value) = false
has_states (Systems names) = true
has_states (Sets sets) = true
