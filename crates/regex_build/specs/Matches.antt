-- Which words an expression matches.
use Rattle.std.specs.Prelude.{◌≡◌, ◌≢◌, ◌⊎◌, List, [], ◌∷◌, ◌++◌}
use Rattle.std.specs.List.{AllByRecursion, flat_map}
use Rattle.regex_build.specs.Expression.{Expression, empty, letter, any, either, follow, star, plus, optional}

-- the pieces, one after the other
abbrev pub joined : {L : Type 0} → List (List L) → List L
joined pieces = flat_map (λ piece. piece) pieces

-- whether the expression matches a word
abbrev pub Matches : {L : Type 0} → Expression L → List L → Type 0
Matches empty w = w ≡ []
Matches (letter x) w = w ≡ x ∷ []
Matches {L} any w = (x : L) × (w ≡ x ∷ [])
Matches (either e f) w = Matches e w ⊎ Matches f w
Matches {L} (follow e f) w = (u : List L) × (v : List L) × (w ≡ u ++ v) × Matches e u × Matches f v
Matches {L} (star e) w = (pieces : List (List L)) × (w ≡ joined pieces) × AllByRecursion (Matches e) pieces
Matches {L} (plus e) w = (pieces : List (List L)) × (pieces ≢ []) × (w ≡ joined pieces) × AllByRecursion (Matches e) pieces
Matches (optional e) w = (w ≡ []) ⊎ Matches e w
