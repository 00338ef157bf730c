-- What may come right after the places of an expression.
use Rattle.std.specs.Prelude.{◌≡◌, ℕ, ◌+◌, ◌↔◌, ℤ, false, List, length, slice_index_or, IsTrue}
use Rattle.regex_build.specs.declared.fragment.Fragment.{Fragment}
use Rattle.regex_build.specs.declared.next_places.NextPlaces.{NextPlaces}
use Rattle.regex_build.specs.Expression.{Expression, occurrences_in, placed}
use Rattle.regex_build.specs.Positions.{ComesNext, MayEnd}
use Rattle.regex_build.specs.Fragments.{rows_in, Follows, IsFragment}

-- the next places of the beginning and of each place of the expression, and where its words may end
pub record AreNextPlaces (e : Expression (List ℤ)) (made : NextPlaces) : Type 0 where
  pub count : length made.next.items ≡ length (occurrences_in e) + 1
  pub ends_count : length made.ends.items ≡ length (occurrences_in e) + 1
  pub next : (q place : ℕ) → Follows (rows_in made.next.items) q place ↔ ComesNext (placed 1 e) q place
  pub ends : (q : ℕ) → IsTrue (slice_index_or made.ends.items q false) ↔ MayEnd (placed 1 e) q

-- the fragment is that of the whole expression
abbrev pub FinishesWith : List (List ℕ) → Fragment → NextPlaces → Type 0
FinishesWith rows whole made = (e : Expression (List ℤ)) → length rows ≡ length (occurrences_in e) + 1 → IsFragment 1 e whole rows → AreNextPlaces e made
