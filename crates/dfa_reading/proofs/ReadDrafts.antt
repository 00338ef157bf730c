-- Lines of a file, as the loop over them reads them.
use Rattle.std.proofs.Common.{◌≡◌, ℕ, ◌+◌, ◌<◌, List, [], ◌∷◌, ◌++◌, length, drop, get_or, Option, None, Some, Result, Ok, Err, refl, sym, ap, ◌∙◌, arith, append_assoc}
use Rattle.std.specs.Prelude.{ok_or}
use Rattle.std.proofs.lemmas.List.{drop_more, drop_all, append-nil}
use Rattle.text_grammar.specs.Bytes.{is_line_end}
use Rattle.dfa_reading.specs.Listed.{ListedLine}
use Rattle.dfa_reading.specs.declared.draft.DraftLine.{DraftLine}
use Rattle.dfa_reading.specs.DraftViews.{draft_line_view, draft_lines_in}
use Rattle.dfa_reading.specs.Lines.{lines_of, line_after}
use Rattle.dfa_reading.specs.declared.outputs.Outputs.{Outputs}
use Rattle.dfa_reading.specs.Reading.{Draft, add_line, add_lines_by, add_lines, then_read, placed_line, placed_lines}
use Rattle.dfa_reading.proofs.Splits.{split_some}

pub add_lines_by-step : (add : ℕ → Draft → List ℕ → Option Draft) (at : ℕ) (d next : Draft) (line : List ℕ) (lines : List (List ℕ)) → add at d line ≡ Some next → add_lines_by add at d (line ∷ lines) ≡ add_lines_by add (at + 1) next lines
add_lines_by-step add at d next line lines h = ap (λ r. then_read (ok_or r at) (λ n. add_lines_by add (at + 1) n lines)) h

pub add_lines-step : (o : Outputs) (at : ℕ) (d next : Draft) (line : List ℕ) (lines : List (List ℕ)) → add_line o at d line ≡ Some next → add_lines o at d (line ∷ lines) ≡ add_lines o (at + 1) next lines
add_lines-step o at d next line lines h = add_lines_by-step (add_line o) at d next line lines h

-- one line more
line_after-more : (line : List ℕ) (lines : List (List ℕ)) → 0 < length lines → line_after (line ∷ lines) ≡ line_after lines + 1
line_after-more line [] h = absurd (omega arith)
line_after-more line (next ∷ lines) h = refl

pub read_line : (add : ℕ → Draft → List ℕ → Option Draft) (at : ℕ) (draft next : Draft) (rest line suffix : List ℕ) (total : Result Draft ℕ) → lines_of rest ≡ line ∷ lines_of suffix → add at draft line ≡ Some next → add_lines_by add at draft (lines_of rest) ≡ total → add_lines_by add (at + 1) next (lines_of suffix) ≡ total
read_line add at draft next rest line suffix total lines added h = sym (add_lines_by-step add at draft next line (lines_of suffix) added) ∙ ap (add_lines_by add at draft) (sym lines) ∙ h

pub count_line : (at total : ℕ) (rest line suffix : List ℕ) → lines_of rest ≡ line ∷ lines_of suffix → at + line_after (lines_of rest) ≡ total → at + 1 + line_after (lines_of suffix) ≡ total
count_line at total rest line suffix lines h =
    let more : line_after (lines_of rest) ≡ line_after (lines_of suffix) + 1 = ap line_after lines ∙ line_after-more line (lines_of suffix) (split_some is_line_end suffix) in
    omega arith

-- lines before those that were placed
abbrev pub ahead : List ListedLine → Result (List ListedLine) ℕ → Result (List ListedLine) ℕ
ahead before (Ok lines) = Ok (before ++ lines)
ahead before (Err at) = Err at

placed_first : (keys : List ℕ) (lines : List DraftLine) (i : ℕ) (line : DraftLine) → i < length lines → line ≡ get_or lines i line
    → placed_lines keys (draft_lines_in (drop i lines)) ≡ then_read (ok_or (placed_line keys (draft_line_view line).1) line.at) (λ placed. then_read (placed_lines keys (draft_lines_in (drop (i + 1) lines))) (λ others. Ok (placed ∷ others)))
placed_first keys lines i line lt at = ap (λ ls. placed_lines keys (draft_lines_in ls)) (drop_more lines i line lt ∙ ap (λ y. y ∷ drop (i + 1) lines) (sym at))

pub placed_fails : (keys : List ℕ) (lines : List DraftLine) (i : ℕ) (line : DraftLine) (before : List ListedLine) (total : Result (List ListedLine) ℕ) → i < length lines → line ≡ get_or lines i line
    → placed_line keys (draft_line_view line).1 ≡ None → ahead before (placed_lines keys (draft_lines_in (drop i lines))) ≡ total → total ≡ Err line.at
placed_fails keys lines i line before total lt at none h =
    sym h ∙ ap (ahead before) (placed_first keys lines i line lt at)
    ∙ ap (λ o. ahead before (then_read (ok_or o line.at) (λ placed. then_read (placed_lines keys (draft_lines_in (drop (i + 1) lines))) (λ others. Ok (placed ∷ others))))) none

ahead-more : (before : List ListedLine) (line : ListedLine) (read : Result (List ListedLine) ℕ) → ahead before (then_read read (λ others. Ok (line ∷ others))) ≡ ahead (before ++ line ∷ []) read
ahead-more before line (Ok lines) = ap Ok (sym (append_assoc before (line ∷ []) lines))
ahead-more before line (Err at) = refl

pub placed_more : (keys : List ℕ) (lines : List DraftLine) (i : ℕ) (line : DraftLine) (before : List ListedLine) (placed : ListedLine) (total : Result (List ListedLine) ℕ) → i < length lines → line ≡ get_or lines i line
    → placed_line keys (draft_line_view line).1 ≡ Some placed → ahead before (placed_lines keys (draft_lines_in (drop i lines))) ≡ total → ahead (before ++ placed ∷ []) (placed_lines keys (draft_lines_in (drop (i + 1) lines))) ≡ total
placed_more keys lines i line before placed total lt at is h =
    sym (ahead-more before placed (placed_lines keys (draft_lines_in (drop (i + 1) lines))))
    ∙ sym (ap (ahead before) (placed_first keys lines i line lt at)
    ∙ ap (λ o. ahead before (then_read (ok_or o line.at) (λ p. then_read (placed_lines keys (draft_lines_in (drop (i + 1) lines))) (λ others. Ok (p ∷ others))))) is) ∙ h

pub placed_all : (keys : List ℕ) (lines : List DraftLine) (i : ℕ) (before : List ListedLine) (total : Result (List ListedLine) ℕ) → i ≡ length lines → ahead before (placed_lines keys (draft_lines_in (drop i lines))) ≡ total → total ≡ Ok before
placed_all keys lines i before total all h =
    sym h ∙ ap (λ k. ahead before (placed_lines keys (draft_lines_in (drop k lines)))) all
    ∙ ap (λ ls. ahead before (placed_lines keys (draft_lines_in ls))) (drop_all (length lines) lines (omega arith)) ∙ ap Ok (append-nil before)
