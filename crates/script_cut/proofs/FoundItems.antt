-- Each place of a script has a next item, or is at the end.
use Rattle.std.proofs.Common.{◌≡◌, ◌≢◌, ◌⊎◌, ℕ, suc, ◌+◌, ◌-◌, ◌<◌, ◌≤◌, ◌==◌, Bool, true, false, not, ◌||◌, ◌&&◌, if◌then◌else◌, IsTrue, List, [], ◌∷◌, ◌++◌, length, take, drop, slice_index, refl, sym, ap, ◌∙◌, subst, inl, inr, arith, append-nil, append_assoc, length-append}
use Rattle.std.proofs.lemmas.Bool.{cases_lt}
use Rattle.std.proofs.lemmas.List.{take-append-drop, take_all, length-take-le, length-drop}
use Rattle.text_grammar.specs.Bytes.{is_blank}
use Rattle.script_cut.specs.Texts.{is_terminator, terminator_of, after_byte, AreGaps, Starts, IsCommand, unbroken, all_gaps, line_ends}
use Rattle.script_cut.specs.Lengths.{gap_count, gap_open, text_count, text_open}
use Rattle.script_cut.specs.Cuts.{Terminated, Unterminated, PastLimit, Rest, HasNoCommand}
use Rattle.script_cut.specs.Prefixes.{HasNextOrEnd}
use Rattle.script_cut.proofs.Gaps.{all_gaps-prefix, commented-prefix, starts-suffix}
use Rattle.script_cut.proofs.Commands.{Ends, unbroken-prefix, quoted-prefix, ends-suffix, ends-first}

-- gaps, a command and its terminator, and what comes after it
record HasCommand (bytes : List ℕ) : Type 0 where
  before : List ℕ
  text : List ℕ
  shown : Bool
  rest : List ℕ
  gaps : AreGaps before
  command : IsCommand text
  split : bytes ≡ before ++ (text ++ terminator_of shown ∷ rest)

no_gap : (blank ends other : Bool) → (blank || ends || other) ≡ false → ends ≡ false
no_gap true ends other is = cc
no_gap false true other is = cc
no_gap false false other is = refl

-- a text that starts has a byte before its terminator
starts_by : (bytes : List ℕ) (n : ℕ) → Starts bytes → Starts (take (suc n) bytes)
starts_by [] n starts = absurd starts
starts_by (b ∷ bs) n starts = starts

some_text : (v : Bool) (n : ℕ) → v ≡ false → (m : ℕ) × ((if v && not false then 0 else suc n) ≡ suc m)
some_text true n is = cc
some_text false n is = (n, refl)

starts-command : (bytes : List ℕ) → Starts bytes → Starts (take (text_count false bytes) bytes)
starts-command [] starts = absurd starts
starts-command (b ∷ bs) starts =
    let some = some_text (is_terminator b) (text_count (after_byte false b) bs) (no_gap (is_blank b) (is_terminator b) (b == 35) starts) in
    subst (λ (n : ℕ). Starts (take n (b ∷ bs))) (sym some.1) (starts_by (b ∷ bs) some.0 starts)

-- the first byte of some, and the others
first_of : (bytes : List ℕ) (b : ℕ) → take 1 bytes ≡ b ∷ [] → bytes ≡ b ∷ drop 1 bytes
first_of bytes b is = sym (take-append-drop 1 bytes) ∙ ap (λ (xs : List ℕ). xs ++ drop 1 bytes) is

-- a text that starts after gaps has its terminator, or none
found_text : (bytes before text : List ℕ) → bytes ≡ before ++ text → AreGaps before → Starts text → HasCommand bytes ⊎ HasNoCommand bytes
found_text bytes before text split gaps starts = by (cases_lt (text_count false text) (length text))
  where
    by : (text_count false text < length text) ⊎ (length text ≤ text_count false text) → HasCommand bytes ⊎ HasNoCommand bytes
    by (inl less) =
        let ends : (text_open false text ≡ false) × Ends (drop (text_count false text) text) = ends-suffix false text less in
        let terminator = first_of (drop (text_count false text) text) (terminator_of (slice_index (drop (text_count false text) text) 0 == 58)) (ends-first (drop (text_count false text) text) ends.1) in
        inl (record {
          before = before;
          text = take (text_count false text) text;
          shown = slice_index (drop (text_count false text) text) 0 == 58;
          rest = drop 1 (drop (text_count false text) text);
          gaps = gaps;
          command = record { begun = record { starts = starts-command text starts; unbroken = unbroken-prefix false text }; closed = quoted-prefix false text ∙ ends.0 };
          split = split ∙ ap (λ (xs : List ℕ). before ++ xs) (sym (take-append-drop (text_count false text) text) ∙ ap (λ (xs : List ℕ). take (text_count false text) text ++ xs) terminator);
        })
    by (inr all) =
        let whole : IsTrue (unbroken false text) = subst (λ (xs : List ℕ). IsTrue (unbroken false xs)) (take_all (text_count false text) text all) (unbroken-prefix false text) in
        inr (inr (record { before = before; text = text; gaps = gaps; begun = record { starts = starts; unbroken = whole }; split = split }))

-- bytes have a command with its terminator, or none
found_command : (bytes : List ℕ) → HasCommand bytes ⊎ HasNoCommand bytes
found_command bytes = by (cases_lt (gap_count false bytes) (length bytes))
  where
    by : (gap_count false bytes < length bytes) ⊎ (length bytes ≤ gap_count false bytes) → HasCommand bytes ⊎ HasNoCommand bytes
    by (inl less) =
        let starts : (gap_open false bytes ≡ false) × Starts (drop (gap_count false bytes) bytes) = starts-suffix false bytes less in
        found_text bytes (take (gap_count false bytes) bytes) (drop (gap_count false bytes) bytes) (sym (take-append-drop (gap_count false bytes) bytes))
        (record { all = all_gaps-prefix false bytes; closed = commented-prefix false bytes ∙ starts.0 }) starts.1
    by (inr all) = inr (inl (subst (λ (xs : List ℕ). IsTrue (all_gaps false xs)) (take_all (gap_count false bytes) bytes all) (all_gaps-prefix false bytes)))

-- the place after an item
abbrev after_item : Rest → List ℕ → List ℕ → List ℕ → ℕ → Rest
after_item place before text left room = record { left = left; room = room; line = (place.line + line_ends before) + line_ends text }

next_command : (place : Rest) (bytes past : List ℕ) → place.left ≡ bytes ++ past → length bytes ≤ place.room → HasCommand bytes → HasNextOrEnd place
next_command place bytes past split within has =
    let long : length bytes ≡ length has.before + (length has.text + suc (length has.rest)) = ap length has.split ∙ omega (arith, length-append {A = ℕ}) in
    inl (
      record { text = has.text; line = place.line + line_ends has.before; ended = Terminated has.shown },
      after_item place has.before has.text (has.rest ++ past) (place.room - (length has.before + length has.text + 1)),
      record {
        before = has.before;
        cut = record {
          gaps = has.gaps;
          command = has.command;
          split = split ∙ (ap (λ (xs : List ℕ). xs ++ past) has.split ∙ simp append_assoc);
          room = omega (arith, long, within);
        };
        line_is = refl;
        next_line = refl;
      },
    )

-- up to the end, and no terminator
next_open : (place : Rest) → length place.left ≤ place.room → HasNoCommand place.left → HasNextOrEnd place
next_open place within (inl gaps) = inr (record { gaps = gaps; within = within })
next_open place within (inr begun) =
    inl (
      record { text = begun.text; line = place.line + line_ends begun.before; ended = Unterminated },
      after_item place begun.before begun.text [] (place.room - (length begun.before + length begun.text)),
      record {
        before = begun.before;
        cut = record {
          gaps = begun.gaps;
          begun = begun.begun;
          split = begun.split;
          room = let long : length place.left ≡ length begun.before + length begun.text = ap length begun.split ∙ length-append begun.before begun.text in omega (arith, long, within);
          nothing_left = refl;
        };
        line_is = refl;
        next_line = refl;
      },
    )

next_past : (place : Rest) (bytes past : List ℕ) → place.left ≡ bytes ++ past → length bytes ≡ place.room → past ≢ [] → HasNoCommand bytes → HasNextOrEnd place
next_past place bytes past split full more none =
    inl (
      record { text = []; line = place.line + line_ends bytes; ended = PastLimit },
      after_item place bytes [] [] 0,
      record {
        before = bytes;
        cut = record { no_command = none; full = full; past = past; more = more; split = split; no_text = refl; nothing_left = refl; no_room = refl };
        line_is = refl;
        next_line = refl;
      },
    )

some_past : (n : ℕ) (bytes : List ℕ) → n < length bytes → drop n bytes ≢ []
some_past n bytes less none = let all : 0 ≡ length bytes - n = ap length (sym none) ∙ length-drop n bytes in omega (arith, all)

-- each place has a next item, or is at the end
pub next_or_end : (place : Rest) → HasNextOrEnd place
next_or_end place = by (cases_lt place.room (length place.left))
  where
    all : length place.left ≤ place.room → HasCommand place.left ⊎ HasNoCommand place.left → HasNextOrEnd place
    all within (inl has) = next_command place place.left [] (sym (append-nil place.left)) within has
    all within (inr none) = next_open place within none

    some : (less : place.room < length place.left) → HasCommand (take place.room place.left) ⊎ HasNoCommand (take place.room place.left) → HasNextOrEnd place
    some less (inl has) = next_command place (take place.room place.left) (drop place.room place.left) (sym (take-append-drop place.room place.left)) (omega (arith, length-take-le place.room place.left (omega arith))) has
    some less (inr none) = next_past place (take place.room place.left) (drop place.room place.left) (sym (take-append-drop place.room place.left)) (length-take-le place.room place.left (omega arith)) (some_past place.room place.left less) none

    by : (place.room < length place.left) ⊎ (length place.left ≤ place.room) → HasNextOrEnd place
    by (inl less) = some less (found_command (take place.room place.left))
    by (inr within) = all within (found_command place.left)
