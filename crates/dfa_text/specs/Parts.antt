-- Parts of the texts that list automata: headers, tuples, states and lines.
use Rattle.std.specs.Prelude.{ℕ, ℤ, List, [], ◌∷◌, ◌++◌, map, Option, None, Some, codes, decimal}
use Rattle.std.specs.Fmt.{signed_decimal}
use Rattle.std.specs.List.{flat_map, join_by}

-- the members of a set in braces
abbrev pub set_text : List ℤ → List ℕ
set_text set = codes "{" ++ (join_by signed_decimal (codes ",") set ++ codes "}")

abbrev pub header_text : List (List ℤ) → List ℕ
header_text sets = join_by set_text (codes " ") sets

-- each tuple of members, one of each set, in the order of letters: the first track changes slowest
abbrev pub tuples_of : List (List ℤ) → List (List ℤ)
tuples_of [] = [] ∷ []
tuples_of (set ∷ sets) = flat_map (λ member. map (λ tuple. member ∷ tuple) (tuples_of sets)) set

-- an output: a number, or `-` for no letter
abbrev pub output_text : Option ℤ → List ℕ
output_text None = codes "-"
output_text (Some output) = signed_decimal output

-- a state's number and its output
abbrev pub state_text : ℕ → Option ℤ → List ℕ
state_text q output = decimal q ++ (codes " " ++ output_text output)

-- each line, and its end
abbrev pub text_of_lines : List (List ℕ) → List ℕ
text_of_lines lines = flat_map (λ line. line ++ codes "\n") lines
