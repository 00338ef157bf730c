-- How what was sent grows: nothing at first, then piece after piece, up to a call that failed.
use Rattle.std.proofs.Common.{◌≡◌, ◌≢◌, ℕ, ◌+◌, ◌-◌, ◌<◌, List, [], ◌∷◌, ◌++◌, length, take, drop, Option, None, Some, Result, Ok, Err, refl, sym, ◌∙◌, subst, arith, append_assoc, append-nil, length-drop}
use Rattle.std.proofs.lemmas.List.{take-append-drop, take_rest}
use Rattle.std.proofs.Math.Seq.{take-add}
use Rattle.std.specs.Io.KnownBytes.{Appends, Keeps}
use Rattle.wal_outside.specs.declared.sink.WriteFault.{WriteFault}
use Rattle.wal_outside.specs.declared.sink.WriteFault.TheVariants.{Failed}
use Rattle.wal_outside.specs.Calls.{Writes}
use Rattle.wal_outside.specs.Causes.{CountsFault, is_failure}
use Rattle.wal_outside.specs.Views.{SinkView}
use Rattle.wal_outside.specs.Sending.{Grows, Sends, HasSent}

-- a text has bytes where a part of it has
some_after : (text more : List ℕ) → more ≢ [] → text ++ more ≢ []
some_after [] more some = some
some_after (b ∷ bs) more some = λ is. cc

some_before : (text more : List ℕ) → text ≢ [] → text ++ more ≢ []
some_before [] more some = λ is. some refl
some_before (b ∷ bs) more some = λ is. cc

some_long : (text : List ℕ) → 0 < length text → text ≢ []
some_long [] some = λ is. absurd (omega arith)
some_long (b ∷ bs) some = λ is. cc

-- before the first call
grows_none : (held : Option (List ℕ)) → Grows held held [] (Ok tt)
unfolding Grows
grows_none None = tt
grows_none (Some held) = rw append-nil

pub none_sent : (old : SinkView) → HasSent old [] old
none_sent old = record { held = grows_none old.held; faults = refl }

-- a call that took more bytes
grows_more : (held mid new : Option (List ℕ)) (text more : List ℕ) → Grows held mid text (Ok tt) → Appends mid new more → Grows held new (text ++ more) (Ok tt)
unfolding Grows
grows_more None mid new text more sent taken = tt
grows_more (Some held) None new text more sent taken = cc
grows_more (Some held) (Some mid) None text more sent taken = absurd taken
grows_more (Some held) (Some mid) (Some new) text more sent taken = grind (arith, taken, append_assoc)

-- a call that failed in the middle of a text
grows_kept : (held mid new : Option (List ℕ)) (text more : List ℕ) (fault : WriteFault) → Grows held mid text (Ok tt) → Keeps mid new → more ≢ [] → Grows held new (text ++ more) (Err fault)
unfolding Grows
grows_kept None mid new text more fault sent kept some = some_after text more some
grows_kept (Some held) None new text more fault sent kept some = cc
grows_kept (Some held) (Some mid) None text more fault sent kept some = absurd kept
grows_kept (Some held) (Some mid) (Some new) text more fault sent kept some = (text, record { rest = more; some = some; split = refl }, grind (arith, kept, sent))

-- where a call failed there was something to hand over
grows_some : (held new : Option (List ℕ)) (text : List ℕ) (fault : WriteFault) → Grows held new text (Err fault) → text ≢ []
unfolding Grows
grows_some None new text fault sends = sends
grows_some (Some held) new text fault (prefix, p, now) = let P : List ℕ → Type 0 = λ xs. xs ≢ [] in subst P (sym p.split) (some_after prefix p.rest p.some)

-- a text after what was sent
grows_then : (held mid new : Option (List ℕ)) (text more : List ℕ) (result : Result (Unit {0}) WriteFault) → Grows held mid text (Ok tt) → Grows mid new more result → Grows held new (text ++ more) result
unfolding Grows
grows_then None mid new text more (Ok x) sent sends = tt
grows_then None mid new text more (Err fault) sent sends = some_after text more (grows_some mid new more fault sends)
grows_then (Some held) None new text more result sent sends = cc
grows_then (Some held) (Some mid) new text more (Ok x) sent sends = grind (arith, sends, sent, append_assoc)
grows_then (Some held) (Some mid) new text more (Err fault) sent (prefix, p, now) = (text ++ prefix, record { rest = p.rest; some = p.some; split = rw (p.split, append_assoc) refl }, grind (arith, now, sent, append_assoc))

pub sends_then : (old mid new : SinkView) (text more : List ℕ) (result : Result (Unit {0}) WriteFault) → HasSent old text mid → Sends mid more result new → Sends old (text ++ more) result new
sends_then old mid new text more result sent sends = record { held = grows_then old.held mid.held new.held text more result sent.held sends.held; faults = rw sent.faults at sends.faults }

-- a call that failed before a longer text was through
grows_cut : (held new : Option (List ℕ)) (text more : List ℕ) (fault : WriteFault) → Grows held new text (Err fault) → Grows held new (text ++ more) (Err fault)
unfolding Grows
grows_cut None new text more fault sends = some_before text more sends
grows_cut (Some held) new text more fault (prefix, p, now) = (prefix, record { rest = p.rest ++ more; some = some_before p.rest more p.some; split = rw (p.split, append_assoc) refl }, now)

pub sends_cut : (old new : SinkView) (text more : List ℕ) (fault : WriteFault) → Sends old text (Err fault) new → Sends old (text ++ more) (Err fault) new
sends_cut old new text more fault sends = record { held = grows_cut old.held new.held text more fault sends.held; faults = sends.faults }

-- a call that took nothing leaves what is held
pub Keeps-from_appends : (old new : Option (List ℕ)) → Appends old new [] → Keeps old new
Keeps-from_appends None new taken = tt
Keeps-from_appends (Some old) None taken = absurd taken
Keeps-from_appends (Some old) (Some new) taken = grind (arith, taken, append-nil)

-- a call that took bytes of a piece from a place on
pub piece_sent : (old mid new : SinkView) (piece : List ℕ) (at n : ℕ) → HasSent old (take at piece) mid → Appends mid.held new.held (take n (take (length piece - at) (drop at piece))) → new.faults ≡ mid.faults → HasSent old (take (at + n) piece) new
piece_sent old mid new piece at n sent taken kept = record {
  held = rw take-add (grows_more old.held mid.held new.held (take at piece) (take n (drop at piece)) sent.held (rw take_rest at taken));
  faults = kept ∙ sent.faults;
}

-- a call that failed at a place of a piece
pub piece_cut : (old mid new : SinkView) (piece : List ℕ) (at : ℕ) (fault : WriteFault) → HasSent old (take at piece) mid → Keeps mid.held new.held → at < length piece → CountsFault (is_failure fault) mid.faults new.faults → Sends old piece (Err fault) new
piece_cut old mid new piece at fault sent kept less counts =
    let P : List ℕ → Type 0 = λ text. Grows old.held new.held text (Err fault) in
    let some : 0 < length (drop at piece) = omega (arith, less, length-drop at piece) in
    record {
      held = subst P (take-append-drop at piece) (grows_kept old.held mid.held new.held (take at piece) (drop at piece) fault sent.held kept (some_long (drop at piece) some));
      faults = rw sent.faults at counts;
    }

-- a call that took nothing at a place of a piece
pub piece_stuck : (old mid new : SinkView) (piece : List ℕ) (at taken : ℕ) → HasSent old (take at piece) mid → Writes mid (Ok taken) (take (length piece - at) (drop at piece)) new → taken ≡ 0 → at < length piece → Sends old piece (Err Failed) new
piece_stuck old mid new piece at taken sent written none less =
    let rest : List ℕ = take (length piece - at) (drop at piece) in
    let nothing : Appends mid.held new.held (take 0 rest) = rw none at written.bytes in
    let some : 0 < length rest = rw take_rest (omega (arith, less, length-drop at piece)) in
    piece_cut old mid new piece at Failed sent (Keeps-from_appends mid.held new.held nothing) less (written.faults.later, written.faults.stuck none some)
