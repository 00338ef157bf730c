-- What a cutter keeps.
use Rattle.std.specs.Prelude.{ℕ, ◌+◌, ◌-◌, ◌≤◌, Bool, false, List, [], ◌++◌, length, take, drop}
use Rattle.script_cut.specs.Texts.{line_ends}

-- The text of the command that is being read, the bytes that were read and not yet passed, how many bytes may
-- still be passed, the line, and whether the source has ended.
pub record Kept : Type 0 where
  pub text : List ℕ
  pub held : List ℕ
  pub room : ℕ
  pub line : ℕ
  pub over : Bool

-- the bytes of the script that are kept
abbrev pub kept_bytes : Kept → List ℕ
kept_bytes kept = kept.text ++ kept.held

-- at the start nothing is kept, 16,777,216 bytes may be passed, and the line is the first
abbrev pub fresh : Kept
fresh = record { text = []; held = []; room = 16777216; line = 1; over = false }

-- what is always kept within bounds
pub record IsWithin (kept : Kept) : Type 0 where
  pub text : length kept.text ≤ 65536
  pub bytes : length kept.text + length kept.held ≤ 65537
  pub lines : kept.line + kept.room ≤ 16777217

-- the first bytes held are passed
abbrev pub advance : ℕ → Kept → Kept
advance n kept = record kept {
  held = drop n kept.held;
  room = kept.room - n;
  line = kept.line + line_ends (take n kept.held);
}
