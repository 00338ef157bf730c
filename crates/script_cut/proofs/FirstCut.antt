-- What a place's first item is, read off its bytes.
use Rattle.std.proofs.Common.{◌≡◌, ◌≢◌, ℕ, ◌+◌, ◌<◌, ◌≤◌, Bool, false, IsTrue, List, [], ◌∷◌, ◌++◌, length, take, drop, refl, sym, ◌∙◌, arith, inl, inr, append-nil, append_assoc, length-append}
use Rattle.std.proofs.lemmas.List.{take_at, drop_at, drop_all}
use Rattle.script_cut.specs.Texts.{commented, AreGaps, Starts, unbroken, terminator_of, line_ends}
use Rattle.script_cut.specs.Cuts.{Ended, Terminated, Unterminated, PastLimit, Rest, Next, IsAtEnd, HasNoCommand, CutsCommand, CutsOpen, CutsOff}
use Rattle.script_cut.specs.Lengths.{gap_count, text_count}
use Rattle.script_cut.proofs.Gaps.{gap_count-gaps, gap_count-starts}
use Rattle.script_cut.proofs.Commands.{text_count-command, text_count-unbroken, text_count-prefix}

-- what follows the gaps
abbrev pub after_gaps : List ℕ → List ℕ
after_gaps left = drop (gap_count false left) left

-- how long the text after the gaps is
abbrev pub text_size : List ℕ → ℕ
text_size left = text_count false (after_gaps left)

-- the first item is a command
pub record FirstCommand (shown : Bool) (old : Rest) (text : List ℕ) (line : ℕ) (new : Rest) : Type 0 where
  pub found : text_size old.left < length (after_gaps old.left)
  pub within : gap_count false old.left + text_size old.left < old.room
  pub text_is : text ≡ take (text_size old.left) (after_gaps old.left)
  pub line_is : line ≡ old.line + line_ends (take (gap_count false old.left) old.left)
  pub left_is : terminator_of shown ∷ new.left ≡ drop (text_size old.left) (after_gaps old.left)
  pub room_is : new.room + (gap_count false old.left + text_size old.left + 1) ≡ old.room

-- the first item is a text without terminator
pub record FirstOpen (old : Rest) (text : List ℕ) (line : ℕ) (new : Rest) : Type 0 where
  pub none : length (after_gaps old.left) ≤ text_size old.left
  pub some : 0 < length (after_gaps old.left)
  pub within : length old.left ≤ old.room
  pub text_is : text ≡ after_gaps old.left
  pub line_is : line ≡ old.line + line_ends (take (gap_count false old.left) old.left)
  pub left_is : new.left ≡ []
  pub room_is : new.room + length old.left ≡ old.room

-- there is none before the limit, and more after it
pub record FirstPast (old : Rest) (text : List ℕ) (line : ℕ) (new : Rest) : Type 0 where
  pub none : old.room ≤ gap_count false old.left + text_size old.left
  pub more : old.room < length old.left
  pub text_is : text ≡ []
  pub line_is : line ≡ old.line + line_ends (take old.room old.left)
  pub left_is : new.left ≡ []
  pub room_is : new.room ≡ 0

abbrev pub IsFirst : Ended → Rest → List ℕ → ℕ → Rest → Type 0
IsFirst (Terminated shown) old text line new = FirstCommand shown old text line new
IsFirst Unterminated old text line new = FirstOpen old text line new
IsFirst PastLimit old text line new = FirstPast old text line new

-- gaps, and what follows them
record Splits (left before rest : List ℕ) : Type 0 where
  gap : gap_count false left ≡ length before
  prefix : take (gap_count false left) left ≡ before
  suffix : after_gaps left ≡ rest

gaps_after : (before text rest : List ℕ) → AreGaps before → Starts text → gap_count false (before ++ (text ++ rest)) ≡ length before
gaps_after before text rest gaps starts =
    let none : gap_count (commented false before) (text ++ rest) ≡ 0 = rw gaps.closed (gap_count-starts text rest starts) in
    omega (arith, gap_count-gaps false before (text ++ rest) gaps.all)

splits_of : (left before text rest : List ℕ) → left ≡ before ++ (text ++ rest) → AreGaps before → Starts text → Splits left before (text ++ rest)
splits_of left before text rest split gaps starts =
    let gap : gap_count false left ≡ length before = rw split (gaps_after before text rest gaps starts) in
    record {
      gap = gap;
      prefix = rw (gap, split) (take_at before (text ++ rest) (length before) refl);
      suffix = rw (gap, split) (drop_at before (text ++ rest) (length before) refl);
    }

some_in : (text : List ℕ) → Starts text → 0 < length text
some_in [] starts = absurd starts
some_in (b ∷ bs) starts = omega arith

some_left : (past : List ℕ) → past ≢ [] → 0 < length past
some_left [] more = absurd (more refl)
some_left (b ∷ bs) more = omega arith

command_first : (shown : Bool) (old : Rest) (text : List ℕ) (line : ℕ) (new : Rest) → (next : Next old (record { text = text; line = line; ended = Terminated shown }) new) → CutsCommand shown old next.before text new → FirstCommand shown old text line new
command_first shown old text line new next cut =
    let parts : Splits old.left next.before (text ++ terminator_of shown ∷ new.left) = splits_of old.left next.before text (terminator_of shown ∷ new.left) cut.split cut.gaps cut.command.begun.starts in
    let size : text_size old.left ≡ length text = rw parts.suffix (text_count-command shown false text new.left cut.command.begun.unbroken cut.command.closed) in
    record {
      found = rw (size, parts.suffix) (omega (arith, length-append text (terminator_of shown ∷ new.left)));
      within = omega (arith, parts.gap, size, cut.room);
      text_is = rw (size, parts.suffix) (sym (take_at text (terminator_of shown ∷ new.left) (length text) refl));
      line_is = rw parts.prefix next.line_is;
      left_is = rw (size, parts.suffix) (sym (drop_at text (terminator_of shown ∷ new.left) (length text) refl));
      room_is = omega (arith, parts.gap, size, cut.room);
    }

open_first : (old : Rest) (text : List ℕ) (line : ℕ) (new : Rest) → (next : Next old (record { text = text; line = line; ended = Unterminated }) new) → CutsOpen old next.before text new → FirstOpen old text line new
open_first old text line new next cut =
    let split : old.left ≡ next.before ++ (text ++ []) = rw (append-nil text) cut.split in
    let found : Splits old.left next.before (text ++ []) = splits_of old.left next.before text [] split cut.gaps cut.begun.starts in
    let suffix : after_gaps old.left ≡ text = found.suffix ∙ append-nil text in
    let size : text_size old.left ≡ length text = rw suffix (text_count-unbroken false text cut.begun.unbroken) in
    record {
      none = rw (size, suffix) (omega arith);
      some = rw suffix (some_in text cut.begun.starts);
      within = rw cut.split (omega (arith, length-append next.before text, cut.room));
      text_is = sym suffix;
      line_is = rw found.prefix next.line_is;
      left_is = cut.nothing_left;
      room_is = rw cut.split (omega (arith, length-append next.before text, cut.room));
    }

-- how far the leading gaps and the text after them go
unfoldable reach : List ℕ → ℕ
reach bytes = gap_count false bytes + text_count false (drop (gap_count false bytes) bytes)

reach-begun : (before text past : List ℕ) → AreGaps before → Starts text → IsTrue (unbroken false text) → length before + length text ≤ reach (before ++ (text ++ past))
unfolding reach
reach-begun before text past gaps starts whole =
    let gap : gap_count false (before ++ (text ++ past)) ≡ length before = gaps_after before text past gaps starts in
    let suffix : drop (gap_count false (before ++ (text ++ past))) (before ++ (text ++ past)) ≡ text ++ past = rw gap (drop_at before (text ++ past) (length before) refl) in
    let far : length text ≤ text_count false (drop (gap_count false (before ++ (text ++ past))) (before ++ (text ++ past))) = rw suffix (text_count-prefix false text past whole) in
    omega arith

-- bytes in which no command ends reach to their end
reach-no_command : (bytes past : List ℕ) → HasNoCommand bytes → length bytes ≤ reach (bytes ++ past)
unfolding reach
reach-no_command bytes past (inl gaps) = omega (arith, gap_count-gaps false bytes past gaps)
reach-no_command bytes past (inr begun) =
    let far : length begun.before + length begun.text ≤ reach (begun.before ++ (begun.text ++ past)) = reach-begun begun.before begun.text past begun.gaps begun.begun.starts begun.begun.unbroken in
    rw (begun.split, append_assoc, length-append) far

past_first : (old : Rest) (text : List ℕ) (line : ℕ) (new : Rest) → (next : Next old (record { text = text; line = line; ended = PastLimit }) new) → CutsOff old next.before text new → FirstPast old text line new
unfolding reach
past_first old text line new next cut =
    let far : length next.before ≤ reach (next.before ++ cut.past) = reach-no_command next.before cut.past cut.no_command in
    record {
      none = rw (← cut.full, cut.split) far;
      more = rw cut.split (omega (arith, length-append next.before cut.past, cut.full, some_left cut.past cut.more));
      text_is = cut.no_text;
      line_is = rw (cut.split, take_at next.before cut.past old.room cut.full) next.line_is;
      left_is = cut.nothing_left;
      room_is = cut.no_room;
    }

-- an item that comes next is the first
pub first_of_next : (old : Rest) (ended : Ended) (text : List ℕ) (line : ℕ) (new : Rest) → Next old (record { text = text; line = line; ended = ended }) new → IsFirst ended old text line new
first_of_next old (Terminated shown) text line new next = command_first shown old text line new next next.cut
first_of_next old Unterminated text line new next = open_first old text line new next next.cut
first_of_next old PastLimit text line new next = past_first old text line new next next.cut

-- at the end nothing comes after the gaps
pub none_after : (place : Rest) → IsAtEnd place → after_gaps place.left ≡ []
none_after place end =
    let gaps : gap_count false (place.left ++ []) ≡ length place.left + gap_count (commented false place.left) [] = gap_count-gaps false place.left [] end.gaps in
    let all : gap_count false place.left ≡ length place.left + 0 = rw append-nil at gaps in
    drop_all (gap_count false place.left) place.left (omega arith)
