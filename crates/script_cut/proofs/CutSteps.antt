-- What a call of a cutter gives, from the bytes that were passed.
use Rattle.std.proofs.Common.{◌≡◌, ◌≢◌, ◌⊎◌, ℕ, ◌+◌, ◌<◌, ◌≤◌, Bool, true, false, IsTrue, List, [], ◌∷◌, ◌++◌, length, Option, None, Some, Result, Ok, Err, refl, sym, ◌∙◌, ap, subst, inl, inr, arith, append_assoc, append-nil, length-append}
use Rattle.std.specs.List.{concat}
use Rattle.std.specs.Io.KnownBytes.{IsAtEnd as HasGivenAll}
use Rattle.wal_outside.specs.Views.{SourceView}
use Rattle.script_cut.specs.Asking.{Gives, AreAsked}
use Rattle.std.specs.declared.vec.Vec.{Vec}
use Rattle.std.specs.declared.alloc.Global.{Global}
use Rattle.script_cut.specs.Texts.{is_gap, AreGaps, quoted, unbroken, Starts, IsOpen, terminator_of, line_ends}
use Rattle.script_cut.specs.Cuts.{Ended, Terminated, Unterminated, Next, HasNoCommand, IsAtEnd}
use Rattle.script_cut.specs.Kept.{Kept}
use Rattle.script_cut.specs.Cutting.{place_of, MayCome, HasCut}
use Rattle.script_cut.specs.Passing.{Passes, IsBounded, AllGave, IsOver, Stops, IsAtText, PassesGaps, PassesText, HasScanned, IsAfterText, IsAfterAll}
use Rattle.script_cut.specs.Reading.{IsStillInGaps}
use Rattle.script_cut.specs.declared.cut.Cut.{Cut}
use Rattle.script_cut.specs.declared.cut.Cut.TheVariants as cuts
use Rattle.script_cut.specs.declared.cut.CutFault.{CutFault}
use Rattle.script_cut.specs.declared.cut.CutFault.TheVariants as faults
use Rattle.script_cut.specs.declared.cutter.Scanned.{Scanned}
use Rattle.script_cut.proofs.Gaps.{line_ends-append}
use Rattle.script_cut.proofs.PassingSteps.{passes-then, bounded-then, is_text}
use Rattle.script_cut.proofs.AskingSteps.{asked_then, asked_so, gives-none}

not_both : (b : Bool) → b ≡ false → b ≡ true → ⊥
not_both b p q = cc

-- what is still to come comes after all of them
come_after : (held given more passed rest : List ℕ) → held ++ given ≡ passed ++ rest → held ++ (given ++ more) ≡ passed ++ (rest ++ more)
come_after held given more passed rest split = sym (append_assoc held given more) ∙ ap (λ bytes. bytes ++ more) split ∙ append_assoc passed rest more

-- once the source has ended nothing comes
come_none : (over : Bool) (now : Option (List ℕ)) (more : List ℕ) → over ≡ true → MayCome over now more → more ≡ []
come_none true now more is may = may
come_none false now more is may = cc

-- a text starts as what was held does
starts_prefix : (held given text rest : List ℕ) → Starts held → held ++ given ≡ text ++ rest → 0 < length text → Starts text
starts_prefix [] given text rest starts split some = absurd starts
starts_prefix (b ∷ bs) given [] rest starts split some = absurd (omega arith)
starts_prefix (b ∷ bs) given (x ∷ xs) rest starts split some = let same : b ≡ x = cc in let P : ℕ → Type 0 = λ n. is_gap n ≡ false in subst P same starts

gap_ends : (shown : Bool) → is_gap (terminator_of shown) ≡ true
gap_ends true = refl
gap_ends false = refl

line_ends-terminator : (shown : Bool) → line_ends (terminator_of shown ∷ []) ≡ 0
line_ends-terminator true = refl
line_ends-terminator false = refl

-- no terminator is where a command begins
some_before : (shown : Bool) (held given text rest : List ℕ) → Starts held → held ++ given ≡ (text ++ terminator_of shown ∷ []) ++ rest → 0 < length text
some_before shown [] given text rest starts split = absurd starts
some_before shown (b ∷ bs) given [] rest starts split = let same : b ≡ terminator_of shown = cc in let is : is_gap b ≡ true = rw same (gap_ends shown) in absurd (not_both (is_gap b) starts is)
some_before shown (b ∷ bs) given (x ∷ xs) rest starts split = omega arith

some_at_end : (held given text : List ℕ) → Starts held → held ++ given ≡ (text ++ []) ++ [] → 0 < length text
some_at_end [] given text starts split = absurd starts
some_at_end (b ∷ bs) given [] starts split = cc
some_at_end (b ∷ bs) given (x ∷ xs) starts split = omega arith

-- where calls were made, at most one byte is held past those that may be passed
within_of : (old : Kept) (was : SourceView) (new : Kept) (now : SourceView) (passed : List ℕ) (p : Passes old was new now passed) → IsBounded p.pieces new → p.pieces ≢ [] → length (old.held ++ concat p.pieces) ≤ old.room + 1
within_of old was new now passed p bounded some = rw (p.split, length-append passed new.held) (omega (arith, p.room_is, bounded some))

-- with each byte that is passed one less may be
room_of : (old : Kept) (was : SourceView) (new : Kept) (now : SourceView) (passed : List ℕ) (p : Passes old was new now passed) → new.room + length (old.held ++ concat p.pieces) ≡ old.room + length new.held
room_of old was new now passed p = rw (p.split, length-append passed new.held) (omega (arith, p.room_is))

-- a text starts as each prefix of it does
starts-append : (xs ys : List ℕ) → Starts xs → Starts (xs ++ ys)
starts-append [] ys starts = absurd starts
starts-append (x ∷ xs) ys starts = starts

-- calls were made where a text had begun and not ended
asked_after : (before mid : List ℕ) (qs : List (List ℕ)) → AreGaps before → Starts mid → AreAsked is_text mid qs → AreAsked HasNoCommand (before ++ mid) qs
asked_after before mid [] gaps starts asked = tt
asked_after before mid (q ∷ []) gaps starts asked = inr (record { before = before; text = mid; gaps = gaps; begun = record { starts = starts; unbroken = asked }; split = refl })
asked_after before mid (q ∷ r ∷ qs) gaps starts asked =
    let P : List ℕ → Type 0 = λ xs. AreAsked HasNoCommand xs (r ∷ qs) in
    (asked.0, subst P (sym (append_assoc before mid q)) (asked_after before (mid ++ q) (r ∷ qs) gaps (starts-append mid q starts) asked.1))

-- calls among the gaps, and then in a text
asked_both : (old mid new : Kept) (was between now : SourceView) (p : PassesGaps old was (Ok true) mid between) (gave : AllGave p.passes.pieces) (closed : AreGaps p.before) (starts : Starts mid.held) (qs : List (List ℕ)) → AreAsked is_text mid.held qs → AreAsked HasNoCommand old.held (p.passes.pieces ++ qs)
asked_both old mid new was between now p gave closed starts qs asked =
    let P : List ℕ → Type 0 = λ xs. AreAsked HasNoCommand xs qs in
    asked_then HasNoCommand old.held p.passes.pieces qs gave (asked_so _ HasNoCommand old.held p.passes.pieces (λ bytes gaps. inl gaps) p.asked) (subst P (sym p.passes.split) (asked_after p.before mid.held qs closed starts asked))

-- a text was found: it is the next item, whatever is still to come
pub record HasFound (old : Kept) (was : SourceView) (new : Kept) (now : SourceView) (ended : Ended) (line len : ℕ) : Type 0 where
  pub pieces : List (List ℕ)
  pub given : Gives was pieces now
  pub asked : AreAsked HasNoCommand old.held pieces
  pub within : pieces ≢ [] → length (old.held ++ concat pieces) ≤ old.room + 1
  pub room : new.room + length (old.held ++ concat pieces) ≡ old.room + length new.held
  pub last : new.over ≡ true → HasGivenAll now.left
  pub text : List ℕ
  pub len_is : len ≡ length text
  pub text_is : len ≤ 65536 → new.text ≡ text
  pub next : (more : List ℕ) → MayCome new.over now.left more → Next (place_of old (concat pieces ++ more)) (record { text = text; line = line; ended = ended }) (place_of new more)

command_next : (old mid new : Kept) (was between now : SourceView) (shown : Bool) (before text more : List ℕ) (p : Passes old was mid between before) (q : Passes mid between new now (text ++ terminator_of shown ∷ [])) (t : Passes old was new now (before ++ (text ++ terminator_of shown ∷ [])))
    → old.over ≡ false → new.over ≡ false → AreGaps before → IsOpen text → quoted false text ≡ false
    → Next (place_of old (concat t.pieces ++ more)) (record { text = text; line = mid.line; ended = Terminated shown }) (place_of new more)
command_next old mid new was between now shown before text more p q t over over' gaps begun closed = record {
  before = before;
  cut = record {
    gaps = gaps;
    command = record { begun = begun; closed = closed };
    split = rw (over, over') (come_after old.held (concat t.pieces) more (before ++ (text ++ terminator_of shown ∷ [])) new.held t.split ∙ simp append_assoc);
    room = omega (arith, p.room_is, q.room_is, length-append text (terminator_of shown ∷ []));
  };
  line_is = p.line_is;
  next_line = omega (arith, q.line_is, line_ends-append text (terminator_of shown ∷ []), line_ends-terminator shown);
}

open_next : (old mid new : Kept) (was between now : SourceView) (before text more : List ℕ) (p : Passes old was mid between before) (q : Passes mid between new now (text ++ [])) (t : Passes old was new now (before ++ (text ++ [])))
    → old.over ≡ false → new.over ≡ true → new.held ≡ [] → more ≡ [] → AreGaps before → IsOpen text
    → Next (place_of old (concat t.pieces ++ more)) (record { text = text; line = mid.line; ended = Unterminated }) (place_of new more)
open_next old mid new was between now before text more p q t over over' none no_more gaps begun = record {
  before = before;
  cut = record {
    gaps = gaps;
    begun = begun;
    split = rw (over, no_more, append-nil (concat t.pieces), t.split, none) (simp (append_assoc, append-nil));
    room = omega (arith, p.room_is, q.room_is, length-append text []);
    nothing_left = rw over' refl;
  };
  line_is = p.line_is;
  next_line = omega (arith, q.line_is, line_ends-append text []);
}

-- the same, with what follows the text
abbrev ended_by : (mid : Kept) (between : SourceView) (new : Kept) (now : SourceView) (text end other : List ℕ) → end ≡ other → Passes mid between new now (text ++ end) → Passes mid between new now (text ++ other)
ended_by mid between new now text end other is q = record {
  pieces = q.pieces;
  given = q.given;
  split = q.split ∙ ap (λ (e : List ℕ). (text ++ e) ++ new.held) is;
  line_is = q.line_is ∙ ap (λ (e : List ℕ). mid.line + line_ends (text ++ e)) is;
  room_is = ap (λ (e : List ℕ). new.room + length (text ++ e)) (sym is) ∙ q.room_is;
}

-- a text that ended by a terminator
pub found_command : (old mid new : Kept) (was between now : SourceView) (len : ℕ) (shown : Bool) → old.over ≡ false → PassesGaps old was (Ok true) mid between → PassesText mid between (Ok (record { len = len; shown = Some shown })) new now
    → HasFound old was new now (Terminated shown) mid.line len
found_command old mid new was between now len shown over p q =
    let at : IsAtText p.before p.passes.pieces mid = p.stops in
    let scanned : HasScanned (record { len = len; shown = Some shown }) q.text q.end new now = q.stops in
    let suffix : IsAfterText q.text q.end shown new = scanned.ends in
    let text_passes : Passes mid between new now (q.text ++ terminator_of shown ∷ []) = ended_by mid between new now q.text q.end (terminator_of shown ∷ []) suffix.end_is q.passes in
    let whole : Passes old was new now (p.before ++ (q.text ++ terminator_of shown ∷ [])) = passes-then old mid new was between now p.before (q.text ++ terminator_of shown ∷ []) p.passes text_passes in
    let some : 0 < length q.text = some_before shown mid.held (concat text_passes.pieces) q.text new.held at.starts text_passes.split in
    let split : mid.held ++ (concat text_passes.pieces) ≡ q.text ++ ((terminator_of shown ∷ []) ++ new.held) = text_passes.split ∙ append_assoc q.text (terminator_of shown ∷ []) new.held in
    record {
      pieces = p.passes.pieces ++ q.passes.pieces;
      given = whole.given;
      asked = asked_both old mid new was between now p at.gave (record { all = p.gaps; closed = at.closed }) at.starts q.passes.pieces q.asked;
      within = within_of old was new now _ whole (bounded-then p.passes.pieces q.passes.pieces mid new (q.text ++ q.end) p.bounded q.bounded q.passes.split q.passes.room_is);
      room = room_of old was new now _ whole;
      last = λ is. absurd (not_both new.over suffix.over is);
      text = q.text;
      len_is = scanned.len_is;
      text_is = scanned.text_is;
      next = λ more may. command_next old mid new was between now shown p.before q.text more p.passes text_passes whole over suffix.over
          (record { all = p.gaps; closed = at.closed })
          (record { starts = starts_prefix mid.held (concat text_passes.pieces) q.text ((terminator_of shown ∷ []) ++ new.held) at.starts split some; unbroken = q.whole })
          suffix.closed;
    }

-- a text that ended by the script's end
pub found_open : (old mid new : Kept) (was between now : SourceView) (len : ℕ) → old.over ≡ false → PassesGaps old was (Ok true) mid between → PassesText mid between (Ok (record { len = len; shown = None })) new now
    → HasFound old was new now Unterminated mid.line len
found_open old mid new was between now len over p q =
    let at : IsAtText p.before p.passes.pieces mid = p.stops in
    let scanned : HasScanned (record { len = len; shown = None }) q.text q.end new now = q.stops in
    let suffix : IsAfterAll q.end new now = scanned.ends in
    let all : IsOver new now = suffix.over in
    let text_passes : Passes mid between new now (q.text ++ []) = ended_by mid between new now q.text q.end [] suffix.no_end q.passes in
    let whole : Passes old was new now (p.before ++ (q.text ++ [])) = passes-then old mid new was between now p.before (q.text ++ []) p.passes text_passes in
    let ends : mid.held ++ (concat text_passes.pieces) ≡ (q.text ++ []) ++ [] = rw all.held at text_passes.split in
    let split : mid.held ++ (concat text_passes.pieces) ≡ q.text ++ [] = ends ∙ append-nil (q.text ++ []) in
    record {
      pieces = p.passes.pieces ++ q.passes.pieces;
      given = whole.given;
      asked = asked_both old mid new was between now p at.gave (record { all = p.gaps; closed = at.closed }) at.starts q.passes.pieces q.asked;
      within = within_of old was new now _ whole (bounded-then p.passes.pieces q.passes.pieces mid new (q.text ++ q.end) p.bounded q.bounded q.passes.split q.passes.room_is);
      room = room_of old was new now _ whole;
      last = λ is. all.ended;
      text = q.text;
      len_is = scanned.len_is;
      text_is = scanned.text_is;
      next = λ more may. open_next old mid new was between now p.before q.text more p.passes text_passes whole over all.over all.held (come_none new.over now.left more all.over may)
          (record { all = p.gaps; closed = at.closed })
          (record { starts = starts_prefix mid.held (concat text_passes.pieces) q.text [] at.starts split (some_at_end mid.held (concat text_passes.pieces) q.text at.starts ends); unbroken = q.whole });
    }

-- answers of a text that was found
pub cut_command : (old new : Kept) (was now : SourceView) (shown : Bool) (line len : ℕ) (text : Vec ℕ Global) (kept : List ℕ) → HasFound old was new now (Terminated shown) line len → len ≤ 65536 → text.items ≡ new.text → HasCut old was (Ok (cuts.Command text shown line)) (record new { text = kept }) now
cut_command old new was now shown line len text kept f few is =
    let same : text.items ≡ f.text = is ∙ f.text_is few in
    record {
      pieces = f.pieces;
      given = f.given;
      asked = f.asked;
      within = f.within;
      room = f.room;
      ended = λ begun over. f.last over;
      item = λ more may. (rw same (f.next more may), rw same (omega (arith, f.len_is)));
      failed = λ is. cc;
    }

pub cut_syntax : (old new : Kept) (was now : SourceView) (line len : ℕ) → HasFound old was new now Unterminated line len → len ≤ 65536 → HasCut old was (Err (faults.Syntax line len)) new now
cut_syntax old new was now line len f few = record {
  pieces = f.pieces;
  given = f.given;
  asked = f.asked;
  within = f.within;
  room = f.room;
  ended = λ begun over. f.last over;
  item = λ more may. (f.text, f.next more may, f.len_is, few);
  failed = λ is. cc;
}

pub cut_long : (old new : Kept) (was now : SourceView) (ended : Ended) (line len : ℕ) → HasFound old was new now ended line len → 65536 < len → HasCut old was (Err (faults.Long line)) new now
cut_long old new was now ended line len f many = record {
  pieces = f.pieces;
  given = f.given;
  asked = f.asked;
  within = f.within;
  room = f.room;
  ended = λ begun over. f.last over;
  item = λ more may. (f.text, ended, f.next more may, omega (arith, f.len_is));
  failed = λ is. cc;
}

some_held : (held more : List ℕ) → held ≢ [] → held ++ more ≢ []
some_held [] more some is = some refl
some_held (b ∷ bs) more some is = cc

-- the cutter was stopped before a command ended
pub cut_stop : (old new : Kept) (was now : SourceView) (passed : List ℕ) (fault : CutFault) → old.over ≡ false → (p : Passes old was new now passed) → AreAsked HasNoCommand old.held p.pieces → IsBounded p.pieces new → HasNoCommand passed → Stops fault new → HasCut old was (Err fault) new now
cut_stop old new was now passed faults.Failed over p asked bounded none stops = record {
  pieces = p.pieces;
  given = p.given;
  asked = asked;
  within = within_of old was new now passed p bounded;
  room = room_of old was new now passed p;
  ended = λ begun is. absurd (not_both new.over stops.1 is);
  item = λ more may. tt;
  failed = λ is. record { none = rw (p.split, stops.0, append-nil passed) none; within = rw (p.split, stops.0, append-nil passed) (omega (arith, p.room_is)) };
}
cut_stop old new was now passed (faults.ScriptLimit line) over p asked bounded none stops = record {
  pieces = p.pieces;
  given = p.given;
  asked = asked;
  within = within_of old was new now passed p bounded;
  room = room_of old was new now passed p;
  ended = λ begun is. absurd (not_both new.over stops.3 is);
  item = λ more may. (
    record { left = []; room = 0; line = line + 0 },
    record {
      before = passed;
      cut = record {
        no_command = none;
        full = omega (arith, p.room_is, stops.1);
        past = new.held ++ more;
        more = some_held new.held more stops.0;
        split = rw over (come_after old.held (concat p.pieces) more passed new.held p.split);
        no_text = refl;
        nothing_left = refl;
        no_room = refl;
      };
      line_is = stops.2 ∙ p.line_is;
      next_line = refl;
    },
  );
  failed = λ is. cc;
}
cut_stop old new was now passed faults.Memory over p asked bounded none stops = record {
  pieces = p.pieces;
  given = p.given;
  asked = asked;
  within = within_of old was new now passed p bounded;
  room = room_of old was new now passed p;
  ended = λ begun is. absurd (not_both new.over stops is);
  item = λ more may. tt;
  failed = λ is. cc;
}
cut_stop old new was now passed (faults.Syntax line len) over p asked bounded none stops = absurd stops
cut_stop old new was now passed (faults.Long line) over p asked bounded none stops = absurd stops

-- no command has ended where none has begun, or one has begun
none_so_far : (held given before text rest : List ℕ) → AreGaps before → Starts held → held ++ given ≡ text ++ rest → IsTrue (unbroken false text) → HasNoCommand (before ++ text)
none_so_far held given before [] rest gaps starts split whole = inl (rw (append-nil before) gaps.all)
none_so_far held given before (x ∷ xs) rest gaps starts split whole = inr (record {
  before = before;
  text = x ∷ xs;
  gaps = gaps;
  begun = record { starts = starts_prefix held given (x ∷ xs) rest starts split (omega arith); unbroken = whole };
  split = refl;
})

-- among the gaps
pub cut_gaps_stop : (old new : Kept) (was now : SourceView) (fault : CutFault) → old.over ≡ false → PassesGaps old was (Err fault) new now → HasCut old was (Err fault) new now
cut_gaps_stop old new was now fault over p = cut_stop old new was now p.before fault over p.passes (asked_so _ HasNoCommand old.held p.passes.pieces (λ bytes gaps. inl gaps) p.asked) p.bounded (inl p.gaps) p.stops

-- in a text
pub cut_text_stop : (old mid new : Kept) (was between now : SourceView) (fault : CutFault) → old.over ≡ false → PassesGaps old was (Ok true) mid between → PassesText mid between (Err fault) new now → HasCut old was (Err fault) new now
cut_text_stop old mid new was between now fault over p q =
    let at : IsAtText p.before p.passes.pieces mid = p.stops in
    let text_passes : Passes mid between new now (q.text ++ []) = ended_by mid between new now q.text q.end [] q.stops.0 q.passes in
    let split : mid.held ++ concat text_passes.pieces ≡ q.text ++ new.held = text_passes.split ∙ rw (append-nil q.text) refl in
    let whole : Passes old was new now (p.before ++ (q.text ++ [])) = passes-then old mid new was between now p.before (q.text ++ []) p.passes text_passes in
    let passes : Passes old was new now (p.before ++ q.text) = record {
      pieces = p.passes.pieces ++ q.passes.pieces;
      given = whole.given;
      split = whole.split ∙ rw (append-nil q.text) refl;
      line_is = whole.line_is ∙ rw (append-nil q.text) refl;
      room_is = rw (append-nil q.text) at whole.room_is;
    } in
    let gaps : AreGaps p.before = record { all = p.gaps; closed = at.closed } in
    cut_stop old new was now (p.before ++ q.text) fault over passes (asked_both old mid new was between now p at.gave gaps at.starts q.passes.pieces q.asked)
    (bounded-then p.passes.pieces q.passes.pieces mid new (q.text ++ q.end) p.bounded q.bounded q.passes.split q.passes.room_is) (none_so_far mid.held (concat text_passes.pieces) p.before q.text new.held gaps at.starts split q.whole) q.stops.1

-- the text that was passed, by how it ended
pub found_terminated : (old mid new : Kept) (was between now : SourceView) (scanned : Scanned) (shown : Bool) → old.over ≡ false → PassesGaps old was (Ok true) mid between → PassesText mid between (Ok scanned) new now → scanned.shown ≡ Some shown
    → HasFound old was new now (Terminated shown) mid.line scanned.len
found_terminated old mid new was between now scanned shown over p q is =
    let P : Option Bool → Type 0 = λ end. PassesText mid between (Ok (record { len = scanned.len; shown = end })) new now in
    found_command old mid new was between now scanned.len shown over p (subst P is q)

pub found_unterminated : (old mid new : Kept) (was between now : SourceView) (scanned : Scanned) → old.over ≡ false → PassesGaps old was (Ok true) mid between → PassesText mid between (Ok scanned) new now → scanned.shown ≡ None
    → HasFound old was new now Unterminated mid.line scanned.len
found_unterminated old mid new was between now scanned over p q is =
    let P : Option Bool → Type 0 = λ end. PassesText mid between (Ok (record { len = scanned.len; shown = end })) new now in
    found_open old mid new was between now scanned.len over p (subst P is q)

long_by : (old mid new : Kept) (was between now : SourceView) (scanned : Scanned) (end : Option Bool) → old.over ≡ false → PassesGaps old was (Ok true) mid between → PassesText mid between (Ok scanned) new now → scanned.shown ≡ end → 65536 < scanned.len → HasCut old was (Err (faults.Long mid.line)) new now
long_by old mid new was between now scanned (Some shown) over p q is many = cut_long old new was now (Terminated shown) mid.line scanned.len (found_terminated old mid new was between now scanned shown over p q is) many
long_by old mid new was between now scanned None over p q is many = cut_long old new was now Unterminated mid.line scanned.len (found_unterminated old mid new was between now scanned over p q is) many

-- a command that is too long, whether it ended or not
pub cut_too_long : (old mid new : Kept) (was between now : SourceView) (scanned : Scanned) → old.over ≡ false → PassesGaps old was (Ok true) mid between → PassesText mid between (Ok scanned) new now → 65536 < scanned.len → HasCut old was (Err (faults.Long mid.line)) new now
cut_too_long old mid new was between now scanned over p q many = long_by old mid new was between now scanned scanned.shown over p q refl many

-- no command comes before the script's end
pub cut_end : (old new : Kept) (was now : SourceView) → old.over ≡ false → PassesGaps old was (Ok false) new now → HasCut old was (Ok cuts.End) new now
cut_end old new was now begun p = record {
  pieces = p.passes.pieces;
  given = p.passes.given;
  asked = asked_so _ HasNoCommand old.held p.passes.pieces (λ bytes gaps. inl gaps) p.asked;
  within = within_of old was new now p.before p.passes p.bounded;
  room = room_of old was new now p.before p.passes;
  ended = λ was is. p.stops.ended;
  item = λ more may.
      let left : (place_of old (concat p.passes.pieces ++ more)).left ≡ p.before =
      rw begun (come_after old.held (concat p.passes.pieces) more p.before new.held p.passes.split ∙ rw (p.stops.held, come_none new.over now.left more p.stops.over may, append-nil p.before) refl) in
      record { gaps = rw left p.gaps; within = rw left (omega (arith, p.passes.room_is)) };
  failed = λ is. cc;
}

-- the source is as it was, or no command ends in what was held
pub still_both : (same more then : Type 0) (old mid : Kept) → (same → more → then) → IsStillInGaps same old mid false → Starts mid.held → more ⊎ IsTrue (unbroken false mid.held) → then ⊎ HasNoCommand old.held
still_both same more then old mid join (inr all) starts after = inr (inl all)
still_both same more then old mid join (inl here) starts (inl kept) = inl (join here.0 kept)
still_both same more then old mid join (inl here) starts (inr whole) = inr (inr (record {
  before = here.1.before;
  text = mid.held;
  gaps = record { all = here.1.gaps; closed = here.1.open_is };
  begun = record { starts = starts; unbroken = whole };
  split = here.1.split;
}))

-- the text that was read before does not count
pub cut_anew : (old : Kept) (text : List ℕ) (was : SourceView) (result : Result Cut CutFault) (new : Kept) (now : SourceView) → HasCut (record old { text = text }) was result new now → HasCut old was result new now
cut_anew old text was result new now p = record {
  pieces = p.pieces;
  given = p.given;
  asked = p.asked;
  within = p.within;
  room = p.room;
  ended = p.ended;
  item = p.item;
  failed = λ is. let failed = p.failed is in record { none = failed.none; within = failed.within };
}

-- once a script has ended nothing comes
pub cut_over : (old : Kept) (text : List ℕ) (was : SourceView) → old.over ≡ true → HasCut old was (Ok cuts.End) (record old { text = text }) was
cut_over old text was over = record {
  pieces = [];
  given = gives-none was;
  asked = tt;
  within = λ some. absurd (some refl);
  room = rw (append-nil old.held) refl;
  ended = λ begun ended. absurd (not_both old.over begun over);
  item = λ more may. let P : Bool → Type 0 = λ is_over. IsAtEnd (place_of (record old { over = is_over }) more) in
      subst P (sym over) (record { gaps = refl; within = omega arith });
  failed = λ is. cc;
}
