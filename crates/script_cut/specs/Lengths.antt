-- How long the leading parts of some bytes are, and what is open after them.
use Rattle.std.specs.Prelude.{ℕ, suc, Bool, not, ◌||◌, ◌&&◌, if◌then◌else◌, List, [], ◌∷◌}
use Rattle.script_cut.specs.Texts.{is_gap, is_terminator, comment_after, after_byte}

-- how many leading bytes belong to no command
abbrev pub gap_count : Bool → List ℕ → ℕ
gap_count inside [] = 0
gap_count inside (b ∷ bs) = if inside || is_gap b then suc (gap_count (comment_after inside b) bs) else 0

-- whether a comment is open after them
abbrev pub gap_open : Bool → List ℕ → Bool
gap_open inside [] = inside
gap_open inside (b ∷ bs) = if inside || is_gap b then gap_open (comment_after inside b) bs else inside

-- how many bytes come before the first terminator outside quotes
abbrev pub text_count : Bool → List ℕ → ℕ
text_count inside [] = 0
text_count inside (b ∷ bs) = if is_terminator b && not inside then 0 else suc (text_count (after_byte inside b) bs)

-- whether a quote is open after them
abbrev pub text_open : Bool → List ℕ → Bool
text_open inside [] = inside
text_open inside (b ∷ bs) = if is_terminator b && not inside then inside else text_open (after_byte inside b) bs
