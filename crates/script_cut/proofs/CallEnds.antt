-- What holds where a call of a cutter ends.
use Rattle.std.proofs.Common.{◌≡◌, ◌⊎◌, ℕ, Bool, true, false, IsTrue, List, None, Ok, Err, inl, inr}
use Rattle.wal_outside.specs.Views.{SourceView}
use Rattle.script_cut.specs.Reading.{IsStillInGaps, IsStillInText}
use Rattle.script_cut.specs.Texts.{all_gaps, unbroken}
use Rattle.script_cut.specs.Cuts.{HasNoCommand}
use Rattle.script_cut.specs.Cutting.{EndsScript}
use Rattle.script_cut.specs.Kept.{Kept}
use Rattle.script_cut.specs.Passing.{EndsText, IsRefilled, PassesText, Stops}
use Rattle.script_cut.specs.declared.cut.CutFault.{CutFault}
use Rattle.script_cut.specs.declared.cut.CutFault.TheVariants as faults
use Rattle.script_cut.specs.declared.cutter.Scanned.{Scanned}

-- a fault that stops a cutter in the middle of a script does not end it
pub stops_end : (fault : CutFault) (new : Kept) → Stops fault new → EndsScript (Err fault) new
stops_end faults.Failed new stops = tt
stops_end (faults.ScriptLimit line) new stops = tt
stops_end faults.Memory new stops = tt
stops_end (faults.Syntax line len) new stops = absurd stops
stops_end (faults.Long line) new stops = tt

-- a source that failed stops it
pub refill_stops : (old new : Kept) (now : SourceView) (fault : CutFault) → IsRefilled old (Err fault) new now → new.over ≡ false → Stops fault new
refill_stops old new now faults.Failed held over = (held, over)
refill_stops old new now (faults.ScriptLimit line) held over = absurd held
refill_stops old new now faults.Memory held over = over
refill_stops old new now (faults.Syntax line len) held over = absurd held
refill_stops old new now (faults.Long line) held over = absurd held

-- a text without terminator ends it
pub open_ends : (old : Kept) (was : SourceView) (scanned : Scanned) (new : Kept) (now : SourceView) → PassesText old was (Ok scanned) new now → scanned.shown ≡ None → new.over ≡ true
open_ends old was scanned new now p is = let ends : EndsText None p.text p.end new now = rw is at p.stops.ends in ends.over.over

-- gaps are no command
pub still_gaps : (same : Type 0) (bytes : List ℕ) → same ⊎ IsTrue (all_gaps false bytes) → same ⊎ HasNoCommand bytes
still_gaps same bytes (inl here) = inl here
still_gaps same bytes (inr all) = inr (inl all)

-- the source is as it was, or no more than gaps was held
pub still_after : (same : Type 0) (old new : Kept) (inside : Bool) → IsStillInGaps same old new inside → same ⊎ IsTrue (all_gaps false old.held)
still_after same old new inside (inl here) = inl here.0
still_after same old new inside (inr all) = inr all

-- the source is as it was, or no terminator was in what was held
pub still_after_text : (same : Type 0) (old new : Kept) (inside : Bool) → IsStillInText same old new inside → same ⊎ IsTrue (unbroken false old.held)
still_after_text same old new inside (inl here) = inl here.0
still_after_text same old new inside (inr whole) = inr whole
