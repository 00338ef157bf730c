-- Targets of transitions, by their digits on the tracks on which a pattern has digits. Nobody has to believe this: it serves the search
-- for conflicts.
use Rattle.std.specs.Prelude.{ℕ, ◌==◌, Bool, true, false, not, if◌then◌else◌, List, [], ◌∷◌, map, Option, None, Some, nat_eq}
use Rattle.std.specs.Map.{lookup}
use Rattle.std.specs.Option.{option_eq}
use Rattle.std.specs.Cmp.Lexicographic.{pointwise}
use Rattle.std.specs.declared.alloc.Global.{Global}
use Rattle.std.specs.declared.vec.Vec.{Vec}
use Rattle.indexmap.specs.IndexMap.{insert_entry}
use Rattle.dfa_reading.specs.declared.star_table.Targets.{Targets}
use Rattle.dfa_reading.specs.declared.star_table.Targets.TheVariants.{One, Several}

-- the digit, unless the pattern has `*`
abbrev pub kept_digit : Option ℕ → Option ℕ → Option ℕ
kept_digit digit None = None
kept_digit digit (Some other) = digit

-- the digits on the tracks on which the pattern has one, and `*` on the others
abbrev pub masked : List (Option ℕ) → List (Option ℕ) → List (Option ℕ)
masked [] pattern = []
masked (digit ∷ digits) [] = None ∷ masked digits []
masked (digit ∷ digits) (other ∷ pattern) = kept_digit digit other ∷ masked digits pattern

-- both are `*`, or neither is
abbrev pub alike : Option ℕ → Option ℕ → Bool
alike None None = true
alike None (Some other) = false
alike (Some digit) None = false
alike (Some digit) (Some other) = true

-- `*` is on the same tracks
abbrev pub same_stars : List (Option ℕ) → List (Option ℕ) → Bool
same_stars digits pattern = pointwise alike digits pattern

-- the same digits
abbrev pub same_digits : List (Option ℕ) → List (Option ℕ) → Bool
same_digits digits others = pointwise (option_eq nat_eq) digits others

-- a table: its pattern, and the targets by digits
pub record StarTable : Type 0 where
  pub pattern : List (Option ℕ)
  pub entries : List (List (Option ℕ) × Targets)

abbrev pub entry_in : Vec (Option ℕ) Global × Targets → List (Option ℕ) × Targets
entry_in entry = (entry.0.items, entry.1)

abbrev pub entries_in : List (Vec (Option ℕ) Global × Targets) → List (List (Option ℕ) × Targets)
entries_in entries = map entry_in entries

abbrev pub targets_at : List (List (Option ℕ) × Targets) → List (Option ℕ) → Option Targets
targets_at entries digits = lookup (same_digits digits) entries

-- the targets with one more
abbrev pub joined : Option Targets → ℕ → Targets
joined None target = One target
joined (Some (One only)) target = if only == target then One only else Several
joined (Some Several) target = Several

-- there is another target
abbrev pub differs_from : Option Targets → ℕ → Bool
differs_from None target = false
differs_from (Some (One only)) target = not (only == target)
differs_from (Some Several) target = true

abbrev pub with_target : StarTable → List (Option ℕ) → ℕ → StarTable
with_target table digits target = record { pattern = table.pattern; entries = insert_entry same_digits table.entries digits (joined (targets_at table.entries digits) target) }

-- the table that is taken where there is none
abbrev pub no_table : StarTable
no_table = record { pattern = []; entries = [] }
