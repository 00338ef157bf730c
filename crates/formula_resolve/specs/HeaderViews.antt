-- The headers that maps keep.
use Rattle.std.specs.Prelude.{ℕ, List, map, Option, Vec}
use Rattle.std.specs.Option.{option_map}
use Rattle.std.specs.FinMap.{from_entries}
use Rattle.std.specs.declared.alloc.Global.{Global}
use Rattle.formula_parse.specs.Tokens.{Name}
use Rattle.formula_resolve.specs.Headers.{Named}

-- what a map from bytes keeps, each thing seen so
abbrev pub named_view : {X Y : Type 0} → (X → Y) → List (Vec ℕ Global × X) → Named Y
named_view see entries = from_entries (map (λ e. (e.0.items, see e.1)) entries)

abbrev pub automata_view : List (Vec ℕ Global × Option (Vec Name Global)) → Named (Option (List Name))
automata_view = named_view (option_map (λ tracks. tracks.items))

abbrev pub words_view : List (Vec ℕ Global × Vec Name Global) → Named (List Name)
words_view = named_view (λ tracks. tracks.items)
