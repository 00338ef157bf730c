-- Tuples that are printed, and the lines of a text.
use Rattle.std.proofs.Common.{◌≡◌, ℕ, List, [], ◌∷◌, ◌++◌, refl, ap, ◌∙◌, append_assoc, codes}
use Rattle.std.specs.List.{AllByRecursion, slice_split}
use Rattle.text_grammar.specs.Bytes.{is_line_end}
use Rattle.dfa_reading.proofs.Splits.{split-append}
use Rattle.dfa_text.specs.Parts.{text_of_lines}
use Rattle.dfa_text.proofs.PrintedParts.{Avoids, split-one}

-- the lines of a text of lines
pub lines_of-text : (lines : List (List ℕ)) → AllByRecursion (Avoids is_line_end) lines → slice_split is_line_end (text_of_lines lines) ≡ lines ++ [] ∷ []
lines_of-text [] h = refl
lines_of-text (line ∷ lines) h =
    ap (slice_split is_line_end) (append_assoc line (codes "\n") (text_of_lines lines))
    ∙ split-append is_line_end line 10 (text_of_lines lines) refl
    ∙ ap (λ t. t ++ slice_split is_line_end (text_of_lines lines)) (split-one is_line_end line h.0)
    ∙ ap (λ t. line ∷ t) (lines_of-text lines h.1)
