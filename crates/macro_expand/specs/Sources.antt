-- Where the texts of macros come from: they are found one after another, as their names are met.
use Rattle.std.specs.Prelude.{◌≡◌, List, ℕ, None, Some, Result, Ok, Err, ⊤}
use Rattle.macro_expand.specs.declared.fault.MacroFault.{MacroFault}
use Rattle.macro_expand.specs.declared.fault.MacroFault.TheVariants as faults
use Rattle.macro_expand.specs.Texts.{TextOf}
use Rattle.macro_expand.specs.Views.{Answers}

-- each text that was found is the one of its name among these texts
abbrev pub AreAmong : TextOf → TextOf → Type 0
AreAmong texts found = (name text : List ℕ) → found name ≡ Some text → texts name ≡ Some text

-- where a name is unknown, there is no text of it
abbrev pub LackUnknown : TextOf → MacroFault → Type 0
LackUnknown texts (faults.Unknown name) = texts name ≡ None
LackUnknown texts faults.Memory = ⊤
LackUnknown texts (faults.Syntax at) = ⊤
LackUnknown texts (faults.MacroArgs name n given) = ⊤
LackUnknown texts (faults.MacroDepth name) = ⊤
LackUnknown texts faults.MacroLong = ⊤

-- and so where that is the answer
abbrev pub LackUnknownIn : {X : Type 0} → TextOf → Result X MacroFault → Type 0
LackUnknownIn texts (Ok x) = ⊤
LackUnknownIn texts (Err fault) = LackUnknown texts fault

-- what a source came to: where a name is unknown, to what it comes to for want of the name's text
abbrev pub CameToAt : {S : Type 0} → (S → S → Type 0) → (S → List ℕ → S → Type 0) → S → MacroFault → S → Type 0
CameToAt becomes lacks old (faults.Unknown name) new = lacks old name new
CameToAt becomes lacks old faults.Memory new = becomes old new
CameToAt becomes lacks old (faults.Syntax at) new = becomes old new
CameToAt becomes lacks old (faults.MacroArgs name n given) new = becomes old new
CameToAt becomes lacks old (faults.MacroDepth name) new = becomes old new
CameToAt becomes lacks old faults.MacroLong new = becomes old new

-- and so at each answer
abbrev pub CameTo : {S X : Type 0} → (S → S → Type 0) → (S → List ℕ → S → Type 0) → S → Result X MacroFault → S → Type 0
CameTo becomes lacks old (Ok x) new = becomes old new
CameTo becomes lacks old (Err fault) new = CameToAt becomes lacks old fault new

-- An answer, by texts that a source has found: it is what is defined for all texts among which those are. What was
-- found before is found still.
pub record AnswersFrom {S X Y : Type 0} (found : S → TextOf) (becomes : S → S → Type 0) (lacks : S → List ℕ → S → Type 0) (view : X → Y) (defined : TextOf → Result Y MacroFault) (old : S) (result : Result X MacroFault) (new : S) : Type 0 where
  pub gives : (texts : TextOf) → AreAmong texts (found new) → LackUnknownIn texts result → Answers view result (defined texts)
  pub kept : AreAmong (found new) (found old)
  pub came : CameTo becomes lacks old result new
