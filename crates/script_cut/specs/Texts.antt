-- The texts of commands in a script, and what is between them.
use Rattle.std.specs.Prelude.{◌≡◌, ℕ, ◌==◌, Bool, true, false, not, ◌||◌, ◌&&◌, if◌then◌else◌, IsTrue, List, [], ◌∷◌, count_by}
use Rattle.text_grammar.specs.Bytes.{is_blank, is_line_end}

-- `;` or `:`, which end a command
abbrev pub is_terminator : ℕ → Bool
is_terminator b = b == 59 || b == 58

-- the terminator of a command whose steps are shown, and of one whose are not
abbrev pub terminator_of : Bool → ℕ
terminator_of shown = if shown then 58 else 59

-- Where no command has begun: a blank, a terminator with no command before it (as the second byte of `::`),
-- or the `#` with which a comment begins.
abbrev pub is_gap : ℕ → Bool
is_gap b = is_blank b || is_terminator b || b == 35

-- whether a comment is open after a byte: it goes from `#` to the end of its line
abbrev pub comment_after : Bool → ℕ → Bool
comment_after inside b = if inside then not (is_line_end b) else b == 35

-- whether a comment is open after the bytes
abbrev pub commented : Bool → List ℕ → Bool
commented inside [] = inside
commented inside (b ∷ bs) = commented (comment_after inside b) bs

-- no command begins in the bytes
abbrev pub all_gaps : Bool → List ℕ → Bool
all_gaps inside [] = true
all_gaps inside (b ∷ bs) = (inside || is_gap b) && all_gaps (comment_after inside b) bs

-- blanks, lone terminators and comments
pub record AreGaps (bytes : List ℕ) : Type 0 where
  pub all : IsTrue (all_gaps false bytes)
  pub closed : commented false bytes ≡ false

-- whether a quote is open after a byte
abbrev pub after_byte : Bool → ℕ → Bool
after_byte inside b = if b == 34 then not inside else inside

-- whether a quote is open after the bytes
abbrev pub quoted : Bool → List ℕ → Bool
quoted inside [] = inside
quoted inside (b ∷ bs) = quoted (after_byte inside b) bs

-- no terminator is outside quotes
abbrev pub unbroken : Bool → List ℕ → Bool
unbroken inside [] = true
unbroken inside (b ∷ bs) = (inside || not (is_terminator b)) && unbroken (after_byte inside b) bs

-- the text begins, and not with a gap
abbrev pub Starts : List ℕ → Type 0
Starts [] = ⊥
Starts (b ∷ bs) = is_gap b ≡ false

-- a command that has begun and not ended
pub record IsOpen (text : List ℕ) : Type 0 where
  pub starts : Starts text
  pub unbroken : IsTrue (unbroken false text)

-- a command's text, up to before its terminator
pub record IsCommand (text : List ℕ) : Type 0 where
  pub begun : IsOpen text
  pub closed : quoted false text ≡ false

-- how many line ends some bytes have
abbrev pub line_ends : List ℕ → ℕ
line_ends bytes = count_by is_line_end bytes
