-- Lines of a file, as the loops over them read them.
use Rattle.std.proofs.Common.{◌≡◌, ℕ, ◌+◌, ◌<◌, List, [], ◌∷◌, ◌++◌, length, drop, get_or, Some, Result, Ok, Err, refl, sym, ap, ◌∙◌, append_assoc}
use Rattle.std.specs.Prelude.{ok_or}
use Rattle.std.proofs.lemmas.List.{drop_more}
use Rattle.dfa_reading.specs.Lines.{lines_of}
use Rattle.dfa_reading.specs.Reading.{then_read}
use Rattle.transducer_reading.specs.declared.transducer.TransducerLine.{TransducerLine}
use Rattle.transducer_reading.specs.Reading.{Draft, add_line, add_lines, placed_line, placed_lines}

abbrev FileLine : Type 0
FileLine = ℕ × TransducerLine

-- one line of the file more
pub read_line : (at : ℕ) (draft next : Draft) (rest line suffix : List ℕ) (total : Result Draft ℕ) → lines_of rest ≡ line ∷ lines_of suffix → add_line at draft line ≡ Some next → add_lines at draft (lines_of rest) ≡ total → add_lines (at + 1) next (lines_of suffix) ≡ total
read_line at draft next rest line suffix total lines added h =
    sym (ap (λ r. then_read (ok_or r at) (λ n. add_lines (at + 1) n (lines_of suffix))) added) ∙ ap (add_lines at draft) (sym lines) ∙ h

-- lines before those that were placed
abbrev pub ahead : List TransducerLine → Result (List TransducerLine) ℕ → Result (List TransducerLine) ℕ
ahead before (Ok lines) = Ok (before ++ lines)
ahead before (Err at) = Err at

ahead-more : (before : List TransducerLine) (line : TransducerLine) (read : Result (List TransducerLine) ℕ) → ahead before (then_read read (λ others. Ok (line ∷ others))) ≡ ahead (before ++ line ∷ []) read
ahead-more before line (Ok lines) = ap Ok (sym (append_assoc before (line ∷ []) lines))
ahead-more before line (Err at) = refl

module _ (keys : List ℕ) (lines : List FileLine) (i : ℕ) (d : FileLine) (before : List TransducerLine) (total : Result (List TransducerLine) ℕ) where
  placed_first : i < length lines → placed_lines keys (drop i lines)
      ≡ then_read (ok_or (placed_line keys (get_or lines i d).1) (get_or lines i d).0) (λ placed. then_read (placed_lines keys (drop (i + 1) lines)) (λ others. Ok (placed ∷ others)))
  placed_first lt = ap (placed_lines keys) (drop_more lines i d lt)

  pub placed_more : (placed : TransducerLine) → i < length lines → placed_line keys (get_or lines i d).1 ≡ Some placed → ahead before (placed_lines keys (drop i lines)) ≡ total → ahead (before ++ placed ∷ []) (placed_lines keys (drop (i + 1) lines)) ≡ total
  placed_more placed lt is h =
      sym (ahead-more before placed (placed_lines keys (drop (i + 1) lines)))
      ∙ sym (ap (ahead before) (placed_first lt)
      ∙ ap (λ o. ahead before (then_read (ok_or o (get_or lines i d).0) (λ p. then_read (placed_lines keys (drop (i + 1) lines)) (λ others. Ok (p ∷ others))))) is) ∙ h
