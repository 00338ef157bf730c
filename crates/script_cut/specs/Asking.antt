-- Which calls a cutter makes of its source, and when.
use Rattle.std.specs.Prelude.{◌≡◌, ◌≢◌, ℕ, Bool, true, false, List, [], ◌∷◌, ◌++◌, Result, Ok, Err, ⊤}
use Rattle.std.specs.List.{concat}
use Rattle.std.specs.Io.KnownBytes.{Consumes}
use Rattle.wal_outside.specs.Causes.{one_more}
use Rattle.wal_outside.specs.Views.{SourceView}
use Rattle.script_cut.specs.declared.cut.CutFault.{CutFault}
use Rattle.script_cut.specs.declared.cut.CutFault.TheVariants as faults

-- a count of calls after a call for each piece
abbrev pub calls_after : ℕ → List (List ℕ) → ℕ
calls_after calls [] = calls
calls_after calls (piece ∷ pieces) = calls_after (one_more calls) pieces

-- a source was called once for each of these pieces, and gave them one after another
pub record Gives (from : SourceView) (pieces : List (List ℕ)) (to : SourceView) : Type 0 where
  pub taken : Consumes from.left to.left (concat pieces)
  pub calls : to.calls ≡ calls_after from.calls pieces

-- Each call but the last gave bytes, and before the last one what was held and given had the property.
abbrev pub AreAsked : (List ℕ → Type 0) → List ℕ → List (List ℕ) → Type 0
AreAsked P held [] = ⊤
AreAsked P held (piece ∷ []) = P held
AreAsked P held (piece ∷ next ∷ pieces) = (piece ≢ []) × AreAsked P (held ++ piece) (next ∷ pieces)

-- whether a call of the source failed
abbrev pub is_failed_cut : {T : Type 0} → Result T CutFault → Bool
is_failed_cut (Ok x) = false
is_failed_cut (Err faults.Failed) = true
is_failed_cut (Err (faults.Syntax line len)) = false
is_failed_cut (Err (faults.Long line)) = false
is_failed_cut (Err (faults.ScriptLimit line)) = false
is_failed_cut (Err faults.Memory) = false
