-- The members of a set of whole numbers.
use Rattle.std.specs.Prelude.{ℕ, Bool, if◌then◌else◌, List, ℤ, Result, Ok, Err, ◌^◌}
use Rattle.std.specs.List.{list_any}
use Rattle.std.specs.Ordering.{int_cmp, is_eq}
use Rattle.std.specs.BTreeSet.{insert_key}
use Rattle.command_head.specs.Readings.{Refusal, Form, Range}
use Rattle.text_grammar.specs.Numbers.{is_number, is_short, number_of}

-- whether a number is among these
abbrev pub has : List ℤ → ℤ → Bool
has members n = list_any (λ m. is_eq (int_cmp n m)) members

-- these numbers and one more, at its place in ascending order
abbrev pub put : List ℤ → ℤ → List ℤ
put members n = insert_key int_cmp members n

-- the members that were read, and a further one; one that is there is refused
unfoldable pub with_member : List ℤ → List ℕ → Result (List ℤ) Refusal
with_member members part =
    if is_number part
    then (if is_short (2 ^ 31) (number_of part) then (if has members (number_of part) then Err Form else Ok (put members (number_of part))) else Err Range)
    else Err Form
