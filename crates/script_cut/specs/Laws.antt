-- What holds of the cuts of every script.
use Rattle.std.specs.Prelude.{◌≡◌, ℕ, List, Some, Result}
use Rattle.wal_outside.specs.Views.{SourceView}
use Rattle.script_cut.specs.Cuts.{Item, Rest, Next, HasItems}
use Rattle.script_cut.specs.Kept.{Kept}
use Rattle.script_cut.specs.Cutting.{place_of, GivesItem, HasCut}
use Rattle.script_cut.specs.declared.cut.Cut.{Cut}
use Rattle.script_cut.specs.declared.cut.CutFault.{CutFault}

-- a place has at most one next item, with one place after it
abbrev pub HasOneNext : Rest → Type 0
HasOneNext place = (i j : Item) (p q : Rest) → Next place i p → Next place j q → (i ≡ j) × (p ≡ q)

-- and one list of items up to the end
abbrev pub HasOneList : Rest → Type 0
HasOneList place = (is js : List Item) → HasItems place is → HasItems place js → is ≡ js

-- where the source reports what it has left, the item is the next one of what was held and what was left
abbrev pub GivesReportedItem : Kept → SourceView → Result Cut CutFault → Kept → SourceView → Type 0
GivesReportedItem old from result new to = HasCut old from result new to → (left now : List ℕ) → from.left ≡ Some left → to.left ≡ Some now → GivesItem (place_of old left) result (place_of new now)
