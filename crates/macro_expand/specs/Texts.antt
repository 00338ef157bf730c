-- The texts of macros.
use Rattle.std.specs.Prelude.{ℕ, List, map, Option, Vec}
use Rattle.std.specs.Ordering.{nat_cmp}
use Rattle.std.specs.Cmp.Lexicographic.{slice_cmp}
use Rattle.std.specs.declared.alloc.Global.{Global}
use Rattle.std.specs.FinMap.{FinMap, from_entries, get}

-- the texts that were added, by their names
abbrev pub Texts : Type 0
Texts = FinMap (slice_cmp nat_cmp) (List ℕ)

-- the text of the macro of each name, where there is one
abbrev pub TextOf : Type 0
TextOf = List ℕ → Option (List ℕ)

-- of those that were added
abbrev pub text_in : Texts → TextOf
text_in macros = λ name. get macros name

-- the texts that a map keeps
abbrev pub texts_view : List (Vec ℕ Global × Vec ℕ Global) → Texts
texts_view entries = from_entries (map (λ e. (e.0.items, e.1.items)) entries)
