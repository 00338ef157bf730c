-- When a cutter reads: only where what it holds has no whole command.
use Rattle.std.specs.Prelude.{◌≡◌, ◌≢◌, ◌⊎◌, ℕ, Bool, true, false, IsTrue, List, [], ◌++◌, Result, Ok, Err}
use Rattle.script_cut.specs.Texts.{all_gaps, commented, quoted, unbroken}
use Rattle.script_cut.specs.Kept.{Kept}
use Rattle.script_cut.specs.declared.cut.CutFault.{CutFault}

-- gaps were passed of what was held, and the rest is held still
pub record HasPassedGaps (old new : Kept) (inside : Bool) : Type 0 where
  pub before : List ℕ
  pub split : old.held ≡ before ++ new.held
  pub gaps : IsTrue (all_gaps false before)
  pub open_is : commented false before ≡ inside

-- the source is as it was, or all that was held are gaps
abbrev pub IsStillInGaps : Type 0 → Kept → Kept → Bool → Type 0
IsStillInGaps same old new inside = (same × HasPassedGaps old new inside) ⊎ IsTrue (all_gaps false old.held)

abbrev pub IsStillAfterGaps : Type 0 → Kept → Result Bool CutFault → Kept → Type 0
IsStillAfterGaps same old (Ok true) new = IsStillInGaps same old new false
IsStillAfterGaps same old (Ok false) new = same ⊎ IsTrue (all_gaps false old.held)
IsStillAfterGaps same old (Err fault) new = same ⊎ IsTrue (all_gaps false old.held)

-- a prefix of a text was passed of what was held, and the rest is held still
pub record HasPassedText (old new : Kept) (inside : Bool) : Type 0 where
  pub text : List ℕ
  pub split : old.held ≡ text ++ new.held
  pub whole : IsTrue (unbroken false text)
  pub open_is : quoted false text ≡ inside

-- the source is as it was, or no terminator is in what was held
abbrev pub IsStillInText : Type 0 → Kept → Kept → Bool → Type 0
IsStillInText same old new inside = (same × HasPassedText old new inside) ⊎ IsTrue (unbroken false old.held)

-- the source is as it was where something was held, and that is held still
abbrev pub IsStill : Type 0 → Kept → Kept → Type 0
IsStill same old new = old.held ≢ [] → same × (new.held ≡ old.held)
