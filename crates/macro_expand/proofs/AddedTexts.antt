-- Macros that were added, as a source: they stay as they are.
use Rattle.std.proofs.Common.{◌≡◌, ℕ, List, None, Result, Ok, Err}
use Rattle.macro_expand.specs.declared.fault.MacroFault.{MacroFault}
use Rattle.macro_expand.specs.declared.fault.MacroFault.TheVariants as faults
use Rattle.macro_expand.specs.Texts.{Texts, text_in}
use Rattle.macro_expand.specs.Sources.{LackUnknownIn, CameTo}

module _ {S : Type 0} (macros : S → Texts) where
  abbrev pub Stays : S → S → Type 0
  Stays a b = macros b ≡ macros a

  abbrev pub Lacks : S → List ℕ → S → Type 0
  Lacks a name b = (macros b ≡ macros a) × (text_in (macros a) name ≡ None)

  -- there is no text of a name that is unknown
  pub added_stay : {X : Type 0} (old new : S) (result : Result X MacroFault) → CameTo Stays Lacks old result new → (macros new ≡ macros old) × LackUnknownIn (text_in (macros old)) result
  added_stay old new (Ok x) came = (came, tt)
  added_stay old new (Err faults.Memory) came = (came, tt)
  added_stay old new (Err (faults.Syntax at)) came = (came, tt)
  added_stay old new (Err (faults.Unknown name)) came = (came.0, came.1)
  added_stay old new (Err (faults.MacroArgs name n given)) came = (came, tt)
  added_stay old new (Err (faults.MacroDepth name)) came = (came, tt)
  added_stay old new (Err faults.MacroLong) came = (came, tt)
