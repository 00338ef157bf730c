-- Bytes that are passed one part after another.
use Rattle.std.proofs.Common.{nat_le, if◌then◌else◌, Ok, Err, ◌≡◌, ◌≢◌, ℕ, ◌+◌, ◌<◌, ◌≤◌, ◌==◌, Bool, true, false, IsTrue, List, [], ◌∷◌, ◌++◌, length, take, drop, None, Some, refl, sym, ap, ◌∙◌, subst, arith, append_assoc, append-nil, length-append, length-drop, slice_index}
use Rattle.std.proofs.lemmas.List.{take-append-drop, take-take, length-take-le}
use Rattle.std.proofs.lemmas.Bool.Decides.{nat_tests}
use Rattle.std.proofs.lemmas.List.Folds.{concat-append}
use Rattle.std.specs.List.{concat}
use Rattle.wal_outside.specs.Views.{SourceView}
use Rattle.script_cut.specs.Asking.{Gives, AreAsked}
use Rattle.script_cut.proofs.AskingSteps.{gives-none, gives-then, gave_once, asked_once}
use Rattle.script_cut.specs.Texts.{all_gaps, commented, quoted, unbroken, Starts}
use Rattle.script_cut.specs.Lengths.{gap_count, gap_open, text_count, text_open}
use Rattle.script_cut.specs.Kept.{Kept, advance}
use Rattle.script_cut.specs.Passing.{Passes, IsBounded, AllGave, IsSupplied, HasHeld, IsOver, Stops, PassesGaps, PassesText}
use Rattle.script_cut.specs.declared.cut.CutFault.{CutFault}
use Rattle.script_cut.proofs.Gaps.{line_ends-append, commented-append, all_gaps-append, all_gaps-prefix, commented-prefix, starts-suffix, starts-take}
use Rattle.script_cut.proofs.Commands.{quoted-append, unbroken-append, unbroken-prefix, quoted-prefix, Ends, ends-suffix, ends-take, ends-first}

pub passes-none : (old : Kept) (was : SourceView) → Passes old was old was []
passes-none old was = record {
  pieces = [];
  given = gives-none was;
  split = append-nil old.held;
  line_is = omega arith;
  room_is = omega arith;
}

abbrev pub passes-then : (old mid new : Kept) (was between now : SourceView) (a b : List ℕ) → Passes old was mid between a → Passes mid between new now b → Passes old was new now (a ++ b)
passes-then old mid new was between now a b p q = record {
  pieces = p.pieces ++ q.pieces;
  given = gives-then was between now p.pieces q.pieces p.given q.given;
  split =
      let d : concat (p.pieces ++ q.pieces) ≡ concat p.pieces ++ concat q.pieces = concat-append p.pieces q.pieces in
      let e : old.held ++ (concat p.pieces ++ concat q.pieces) ≡ (old.held ++ concat p.pieces) ++ concat q.pieces = sym (append_assoc old.held (concat p.pieces) (concat q.pieces)) in
      let f : (a ++ mid.held) ++ concat q.pieces ≡ a ++ (mid.held ++ concat q.pieces) = append_assoc a mid.held (concat q.pieces) in
      let h : (a ++ b) ++ new.held ≡ a ++ (b ++ new.held) = append_assoc a b new.held in
      let s : old.held ++ concat p.pieces ≡ a ++ mid.held = p.split in
      let t : mid.held ++ concat q.pieces ≡ b ++ new.held = q.split in
      cc;
  line_is = omega (arith, p.line_is, q.line_is, line_ends-append a b);
  room_is = omega (arith, p.room_is, q.room_is, length-append a b);
}

-- bytes that are held already
pub supplied-held : (old : Kept) (was : SourceView) → IsSupplied old was old was
unfolding passes-none
supplied-held old was = record { passes = passes-none old was; once = tt; bounded = λ some. absurd (some refl) }

-- one call, which gave these bytes
pub supplied-call : (old : Kept) (was now : SourceView) (bytes : List ℕ) → old.held ≡ [] → Gives was (bytes ∷ []) now → length bytes ≤ old.room + 1 → IsSupplied old was (record old { held = bytes }) now
supplied-call old was now bytes none given few = record {
  passes = record { pieces = bytes ∷ []; given = given; split = rw (none, append-nil bytes) refl; line_is = omega arith; room_is = omega arith };
  once = none;
  bounded = λ some. few;
}

-- one call that gave none
pub supplied-failed : (old : Kept) (was now : SourceView) (bytes : List ℕ) → old.held ≡ [] → Gives was ([] ∷ []) now × (bytes ≡ []) → IsSupplied old was (record old { held = bytes }) now
supplied-failed old was now bytes none (given, nothing) =
    let P : List ℕ → Type 0 = λ xs. IsSupplied old was (record old { held = xs }) now in
    subst P (sym nothing) (supplied-call old was now [] none given (omega arith))

-- and the source has ended
pub supplied-over : (old new : Kept) (was now : SourceView) → IsSupplied old was new now → IsSupplied old was (record new { over = true }) now
supplied-over old new was now s = record {
  passes = record { pieces = s.passes.pieces; given = s.passes.given; split = s.passes.split; line_is = s.passes.line_is; room_is = s.passes.room_is };
  once = s.once;
  bounded = s.bounded;
}

-- bytes were passed, and a call was made only where those so far had the property
pub record PassesBy (P : List ℕ → Type 0) (old : Kept) (was : SourceView) (new : Kept) (now : SourceView) (passed : List ℕ) : Type 0 where
  pub passes : Passes old was new now passed
  pub asked : AreAsked P old.held passes.pieces
  pub bounded : IsBounded passes.pieces new

pub by-none : (P : List ℕ → Type 0) (old : Kept) (was : SourceView) → PassesBy P old was old was []
unfolding passes-none
by-none P old was = record { passes = passes-none old was; asked = tt; bounded = λ some. absurd (some refl) }

-- where no call more is made, the bound stays
pub bounded-then : (ps qs : List (List ℕ)) (mid new : Kept) (passed : List ℕ) → IsBounded ps mid → IsBounded qs new → mid.held ++ concat qs ≡ passed ++ new.held → new.room + length passed ≡ mid.room → IsBounded (ps ++ qs) new
bounded-then ps [] mid new passed bound more split room = λ some.
    let held : mid.held ≡ passed ++ new.held = sym (append-nil mid.held) ∙ split in
    let before : length mid.held ≤ mid.room + 1 = bound (λ none. some (rw none refl)) in
    let long : length mid.held ≡ length passed + length new.held = ap length held ∙ length-append passed new.held in
    omega (arith, before, room, long)
bounded-then ps (q ∷ qs) mid new passed bound more split room = λ some. more (λ is. cc)

-- bytes are supplied after what was passed
pub by-supplied : (P : List ℕ → Type 0) (old mid new : Kept) (was between now : SourceView) (a : List ℕ) (p : PassesBy P old was mid between a) → AllGave p.passes.pieces → P a → IsSupplied mid between new now → PassesBy P old was new now a
by-supplied P old mid new was between now a p gave has q =
    let both : Passes old was new now (a ++ []) = passes-then old mid new was between now a [] p.passes q.passes in
    record {
      passes = record {
        pieces = p.passes.pieces ++ q.passes.pieces;
        given = gives-then was between now p.passes.pieces q.passes.pieces p.passes.given q.passes.given;
        split = both.split ∙ rw (append-nil a) refl;
        line_is = both.line_is ∙ rw (append-nil a) refl;
        room_is = rw (append-nil a) at both.room_is;
      };
      asked = asked_once P old.held mid.held p.passes.pieces q.passes.pieces gave p.asked q.once (λ none. subst P (sym (p.passes.split ∙ rw none (append-nil a))) has);
      bounded = bounded-then p.passes.pieces q.passes.pieces mid new [] p.bounded q.bounded q.passes.split q.passes.room_is;
    }

-- where bytes are held then, each call gave some
pub gave-supplied : (P : List ℕ → Type 0) (old mid new : Kept) (was between now : SourceView) (a : List ℕ) (p : PassesBy P old was mid between a) (gave : AllGave p.passes.pieces) (has : P a) (q : IsSupplied mid between new now) → new.held ≢ [] → AllGave (by-supplied P old mid new was between now a p gave has q).passes.pieces
unfolding by-supplied
gave-supplied P old mid new was between now a p gave has q some = gave_once p.passes.pieces q.passes.pieces mid.held new.held gave q.once q.passes.split some

-- the next bytes are passed after what was passed
pub by-prefix : (P : List ℕ → Type 0) (n : ℕ) (old new : Kept) (was now : SourceView) (a : List ℕ) (p : PassesBy P old was new now a) → n ≤ length new.held → n ≤ new.room → PassesBy P old was (advance n new) now (a ++ take n new.held)
by-prefix P n old new was now a p held room = record {
  passes = record {
    pieces = p.passes.pieces;
    given = p.passes.given;
    split = p.passes.split ∙ (ap (λ (xs : List ℕ). a ++ xs) (sym (take-append-drop n new.held)) ∙ sym (append_assoc a (take n new.held) (drop n new.held)));
    line_is = omega (arith, p.passes.line_is, line_ends-append a (take n new.held));
    room_is = omega (arith, p.passes.room_is, length-append a (take n new.held), length-take-le n new.held held);
  };
  asked = p.asked;
  bounded = λ some. omega (arith, p.bounded some, length-drop n new.held);
}

pub gave-prefix : (P : List ℕ → Type 0) (n : ℕ) (old new : Kept) (was now : SourceView) (a : List ℕ) (p : PassesBy P old was new now a) (held : n ≤ length new.held) (room : n ≤ new.room) → AllGave p.passes.pieces → AllGave (by-prefix P n old new was now a p held room).passes.pieces
unfolding by-prefix
gave-prefix P n old new was now a p held room gave = gave

abbrev pub are_gaps : List ℕ → Type 0
are_gaps bytes = IsTrue (all_gaps false bytes)

abbrev pub is_text : List ℕ → Type 0
is_text bytes = IsTrue (unbroken false bytes)

some_held : (count : ℕ) (new : Kept) → HasHeld count new → new.held ≢ []
some_held count new h = λ none. let empty : length new.held ≡ 0 = rw none refl in absurd (omega (arith, h.some, h.held, empty))

-- gaps were passed, and a comment is open or not
pub record IsInGaps (old : Kept) (was : SourceView) (new : Kept) (now : SourceView) (inside : Bool) : Type 0 where
  pub before : List ℕ
  pub by : PassesBy are_gaps old was new now before
  pub gave : AllGave by.passes.pieces
  pub gaps : IsTrue (all_gaps false before)
  pub open_is : commented false before ≡ inside
  pub over : new.over ≡ false

-- none was passed yet
pub gaps_none : (old : Kept) (was : SourceView) → old.over ≡ false → IsInGaps old was old was false
unfolding by-none passes-none
gaps_none old was over = record { before = []; by = by-none are_gaps old was; gave = tt; gaps = refl; open_is = refl; over = over }

-- the next gaps are passed too
pub gaps_more : (old mid new : Kept) (was between now : SourceView) (inside : Bool) (count n : ℕ) → IsInGaps old was mid between inside → IsSupplied mid between new now → HasHeld count new → n ≡ gap_count inside (take count new.held) → n ≤ count
    → IsInGaps old was (advance n new) now (gap_open inside (take count new.held))
gaps_more old mid new was between now inside count n p q h n_is within =
    let prefix : take n (take count new.held) ≡ take n new.held = take-take n count new.held within in
    let few : n ≤ length new.held = omega (arith, h.held) in
    let room : n ≤ new.room = omega (arith, h.room) in
    let read : PassesBy are_gaps old was new now p.before = by-supplied are_gaps old mid new was between now p.before p.by p.gave p.gaps q in
    let gave : AllGave read.passes.pieces = gave-supplied are_gaps old mid new was between now p.before p.by p.gave p.gaps q (some_held count new h) in
    record {
      before = p.before ++ take n new.held;
      by = by-prefix are_gaps n old new was now p.before read few room;
      gave = gave-prefix are_gaps n old new was now p.before read few room gave;
      gaps = all_gaps-append false p.before (take n new.held) p.gaps (rw (p.open_is, ← prefix, n_is) (all_gaps-prefix inside (take count new.held)));
      open_is = rw (commented-append false p.before (take n new.held), p.open_is, ← prefix, n_is) (commented-prefix inside (take count new.held));
      over = h.over;
    }

-- where they are fewer, no comment is open and no gap comes after them
pub gaps_end : (new : Kept) (inside : Bool) (count n : ℕ) → HasHeld count new → n ≡ gap_count inside (take count new.held) → n < count → (gap_open inside (take count new.held) ≡ false) × Starts (drop n new.held)
gaps_end new inside count n h n_is less =
    let size : length (take count new.held) ≡ count = length-take-le count new.held h.held in
    let opens : (gap_open inside (take count new.held) ≡ false) × Starts (drop (gap_count inside (take count new.held)) (take count new.held)) = starts-suffix inside (take count new.held) (omega arith) in
    (opens.0, starts-take n count new.held (rw n_is opens.1))

pub gaps_done : (old new : Kept) (was now : SourceView) (inside : Bool) → IsInGaps old was new now inside → inside ≡ false → Starts new.held → 0 < new.room → PassesGaps old was (Ok true) new now
gaps_done old new was now inside p closed starts room = record {
  before = p.before;
  passes = p.by.passes;
  gaps = p.gaps;
  asked = p.by.asked;
  bounded = p.by.bounded;
  stops = record { gave = p.gave; closed = p.open_is ∙ closed; starts = starts; room = room; over = p.over };
}

pub gaps_over : (old mid new : Kept) (was between now : SourceView) (inside : Bool) → IsInGaps old was mid between inside → IsSupplied mid between new now → IsOver new now → PassesGaps old was (Ok false) new now
gaps_over old mid new was between now inside p q over =
    let read : PassesBy are_gaps old was new now p.before = by-supplied are_gaps old mid new was between now p.before p.by p.gave p.gaps q in
    record { before = p.before; passes = read.passes; gaps = p.gaps; asked = read.asked; bounded = read.bounded; stops = over }

pub gaps_stop : (old mid new : Kept) (was between now : SourceView) (inside : Bool) (fault : CutFault) → IsInGaps old was mid between inside → IsSupplied mid between new now → Stops fault new → PassesGaps old was (Err fault) new now
gaps_stop old mid new was between now inside fault p q stops =
    let read : PassesBy are_gaps old was new now p.before = by-supplied are_gaps old mid new was between now p.before p.by p.gave p.gaps q in
    record { before = p.before; passes = read.passes; gaps = p.gaps; asked = read.asked; bounded = read.bounded; stops = stops }

-- a text was passed, and a quote is open or not
pub record IsInText (old : Kept) (was : SourceView) (new : Kept) (now : SourceView) (len : ℕ) (inside : Bool) : Type 0 where
  pub text : List ℕ
  pub by : PassesBy is_text old was new now text
  pub gave : AllGave by.passes.pieces
  pub whole : IsTrue (unbroken false text)
  pub open_is : quoted false text ≡ inside
  pub len_is : len ≡ length text
  pub text_is : len ≤ 65536 → new.text ≡ text
  pub over : new.over ≡ false

-- none was passed yet
pub text_none : (old : Kept) (was : SourceView) → old.text ≡ [] → old.over ≡ false → IsInText old was old was 0 false
unfolding by-none passes-none
text_none old was empty over = record { text = []; by = by-none is_text old was; gave = tt; whole = refl; open_is = refl; len_is = refl; text_is = λ few. empty; over = over }

by-text : (P : List ℕ → Type 0) (old new : Kept) (was now : SourceView) (passed text : List ℕ) → PassesBy P old was new now passed → PassesBy P old was (record new { text = text }) now passed
by-text P old new was now passed text p = record {
  passes = record { pieces = p.passes.pieces; given = p.passes.given; split = p.passes.split; line_is = p.passes.line_is; room_is = p.passes.room_is };
  asked = p.asked;
  bounded = p.bounded;
}

kept_short : (len : ℕ) (xs : List ℕ) → len ≤ 65536 → (if nat_le len 65536 then xs else []) ≡ xs
kept_short len xs few = grind (arith, nat_tests)

-- the next text is passed too
pub text_more : (old mid new : Kept) (was between now : SourceView) (len : ℕ) (inside : Bool) (count n : ℕ) → IsInText old was mid between len inside → IsSupplied mid between new now → new.text ≡ mid.text → HasHeld count new → n ≡ text_count inside (take count new.held) → n ≤ count
    → IsInText old was (record (advance n new) { text = (if nat_le (len + n) 65536 then new.text ++ take n new.held else []) }) now (len + n) (text_open inside (take count new.held))
unfolding by-text
text_more old mid new was between now len inside count n p q same h n_is within =
    let prefix : take n (take count new.held) ≡ take n new.held = take-take n count new.held within in
    let few : n ≤ length new.held = omega (arith, h.held) in
    let room : n ≤ new.room = omega (arith, h.room) in
    let size : length (take n new.held) ≡ n = length-take-le n new.held few in
    let read : PassesBy is_text old was new now p.text = by-supplied is_text old mid new was between now p.text p.by p.gave p.whole q in
    let gave : AllGave read.passes.pieces = gave-supplied is_text old mid new was between now p.text p.by p.gave p.whole q (some_held count new h) in
    record {
      text = p.text ++ take n new.held;
      by = by-text is_text old (advance n new) was now (p.text ++ take n new.held) (if nat_le (len + n) 65536 then new.text ++ take n new.held else []) (by-prefix is_text n old new was now p.text read few room);
      gave = gave-prefix is_text n old new was now p.text read few room gave;
      whole = unbroken-append false p.text (take n new.held) p.whole (rw (p.open_is, ← prefix, n_is) (unbroken-prefix inside (take count new.held)));
      open_is = rw (quoted-append false p.text (take n new.held), p.open_is, ← prefix, n_is) (quoted-prefix inside (take count new.held));
      len_is = omega (arith, p.len_is, size, length-append p.text (take n new.held));
      text_is = λ short. let text : mid.text ≡ p.text = p.text_is (omega arith) in
          let kept : (if nat_le (len + n) 65536 then new.text ++ take n new.held else []) ≡ new.text ++ take n new.held = kept_short (len + n) (new.text ++ take n new.held) short in
          cc;
      over = h.over;
    }

-- where it is shorter, no quote is open and a terminator comes after it
pub text_end : (new : Kept) (inside : Bool) (count n : ℕ) → HasHeld count new → n ≡ text_count inside (take count new.held) → n < count → (text_open inside (take count new.held) ≡ false) × Ends (drop n new.held)
text_end new inside count n h n_is less =
    let size : length (take count new.held) ≡ count = length-take-le count new.held h.held in
    let opens : (text_open inside (take count new.held) ≡ false) × Ends (drop (text_count inside (take count new.held)) (take count new.held)) = ends-suffix inside (take count new.held) (omega arith) in
    (opens.0, ends-take n count new.held (rw n_is opens.1))

pub text_done : (old new : Kept) (was now : SourceView) (len : ℕ) (inside : Bool) → IsInText old was new now len inside → inside ≡ false → Ends new.held → 0 < length new.held → 0 < new.room
    → PassesText old was (Ok (record { len = len; shown = Some (slice_index new.held 0 == 58) })) (advance 1 new) now
text_done old new was now len inside p closed ends some room =
    let end : PassesBy is_text old was (advance 1 new) now (p.text ++ take 1 new.held) = by-prefix is_text 1 old new was now p.text p.by (omega arith) (omega arith) in
    record {
      text = p.text;
      end = take 1 new.held;
      passes = end.passes;
      whole = p.whole;
      asked = end.asked;
      bounded = end.bounded;
      stops = record {
        ends = record { end_is = ends-first new.held ends; closed = p.open_is ∙ closed; over = p.over };
        len_is = p.len_is;
        text_is = p.text_is;
      };
    }

-- nothing more was passed
no_more : (P : List ℕ → Type 0) (old new : Kept) (was now : SourceView) (a : List ℕ) → PassesBy P old was new now a → PassesBy P old was new now (a ++ [])
no_more P old new was now a p = let Q : List ℕ → Type 0 = λ xs. PassesBy P old was new now xs in subst Q (sym (append-nil a)) p

pub text_over : (old mid new : Kept) (was between now : SourceView) (len : ℕ) (inside : Bool) → IsInText old was mid between len inside → IsSupplied mid between new now → new.text ≡ mid.text → IsOver new now
    → PassesText old was (Ok (record { len = len; shown = None })) new now
text_over old mid new was between now len inside p q same over =
    let read : PassesBy is_text old was new now (p.text ++ []) = no_more is_text old new was now p.text (by-supplied is_text old mid new was between now p.text p.by p.gave p.whole q) in
    record {
      text = p.text;
      end = [];
      passes = read.passes;
      whole = p.whole;
      asked = read.asked;
      bounded = read.bounded;
      stops = record {
        ends = record { no_end = refl; over = over };
        len_is = p.len_is;
        text_is = λ few. same ∙ p.text_is few;
      };
    }

pub text_stop : (old mid new : Kept) (was between now : SourceView) (len : ℕ) (inside : Bool) (fault : CutFault) → IsInText old was mid between len inside → IsSupplied mid between new now → Stops fault new → PassesText old was (Err fault) new now
text_stop old mid new was between now len inside fault p q stops =
    let read : PassesBy is_text old was new now (p.text ++ []) = no_more is_text old new was now p.text (by-supplied is_text old mid new was between now p.text p.by p.gave p.whole q) in
    record { text = p.text; end = []; passes = read.passes; whole = p.whole; asked = read.asked; bounded = read.bounded; stops = (refl, stops) }
