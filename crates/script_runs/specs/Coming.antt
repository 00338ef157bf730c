-- What comes next of a text, and of which item that is.
use Rattle.std.specs.Prelude.{◌≡◌, ◌≢◌, ◌<◌, ◌≤◌, length, Result, Ok, Err}
use Rattle.script_cut.specs.Cuts.{Terminated, Unterminated, PastLimit, Item as CutItem}
use Rattle.script_cut.specs.declared.cut.Cut.{Cut}
use Rattle.script_cut.specs.declared.cut.Cut.TheVariants as cuts
use Rattle.script_cut.specs.declared.cut.CutFault.{CutFault}
use Rattle.script_cut.specs.declared.cut.CutFault.TheVariants as faults
use Rattle.script_runs.specs.declared.coming.Coming.{Coming}
use Rattle.script_runs.specs.declared.coming.Coming.TheVariants as coming
use Rattle.script_runs.specs.declared.coming.Item.{Item}
use Rattle.script_runs.specs.declared.coming.ItemText.{ItemText}
use Rattle.script_runs.specs.declared.coming.ItemText.TheVariants as texts
use Rattle.script_runs.specs.declared.script_fault.ScriptFault.TheVariants as script

-- what a cut gives
abbrev pub coming_of : Result Cut CutFault → Coming
coming_of (Ok (cuts.Command text shown line)) = coming.Item (record { line = line; text = texts.Command text shown })
coming_of (Ok cuts.End) = coming.End
coming_of (Err (faults.Long line)) = coming.Item (record { line = line; text = texts.Broken script.Long })
coming_of (Err (faults.Syntax line len)) = coming.Item (record { line = line; text = texts.Broken (script.Unterminated len) })
coming_of (Err (faults.ScriptLimit line)) = coming.Item (record { line = line; text = texts.Broken script.PastLimit })
coming_of (Err faults.Failed) = coming.Failed
coming_of (Err faults.Memory) = coming.Memory

-- a text that is no command is too long, or has no terminator, or is what comes past the limit
abbrev pub IsTextOf : ItemText → CutItem → Type 0
IsTextOf (texts.Command text shown) item = (item.text ≡ text.items) × (item.ended ≡ Terminated shown)
IsTextOf (texts.Broken script.Long) item = (65536 < length item.text) × (item.ended ≢ PastLimit)
IsTextOf (texts.Broken (script.Unterminated len)) item = (len ≡ length item.text) × (len ≤ 65536) × (item.ended ≡ Unterminated)
IsTextOf (texts.Broken script.PastLimit) item = item.ended ≡ PastLimit

-- an item as it is cut
pub record IsItem (item : Item) (cut : CutItem) : Type 0 where
  pub line : cut.line ≡ item.line
  pub text : IsTextOf item.text cut
