-- What is known of a part of an expression while its automaton is made.
use Rattle.std.specs.Prelude.{◌≡◌, ℕ, ◌+◌, ◌<◌, ◌≤◌, ◌↔◌, ◌⊎◌, ℤ, Bool, List, [], length, map, slice_index_or, Contains, IsTrue, Vec}
use Rattle.std.specs.declared.alloc.Global.{Global}
use Rattle.regex_build.specs.declared.fragment.Crossing.{Crossing}
use Rattle.regex_build.specs.declared.fragment.Fragment.{Fragment}
use Rattle.regex_build.specs.Expression.{Expression, empty, letter, any, either, follow, star, plus, optional, occurrences_in, placed}
use Rattle.regex_build.specs.Matches.{Matches}
use Rattle.regex_build.specs.Neighbours.{IsFirst, IsLast, IsNext}

-- the lists of next places, one for each place, as the code has them
abbrev pub rows_in : List (Vec ℕ Global) → List (List ℕ)
rows_in rows = map (λ row. row.items) rows

-- the second place is among those that are listed for the first
abbrev pub Follows : List (List ℕ) → ℕ → ℕ → Type 0
Follows rows p q = Contains (slice_index_or rows p []) q

-- the places are a pair of one of the crossings
abbrev pub Crosses : List Crossing → ℕ → ℕ → Type 0
Crosses crossings p q = (c : Crossing) × Contains crossings c × Contains c.lasts.items p × Contains c.firsts.items q

-- What a fragment says of an expression whose places are counted from a number on. Which place comes right after which is determined by the
-- lists, and by the pairs that are owed: these lead from a last place to a first one.
pub record IsFragment {L : Type 0} (n : ℕ) (e : Expression L) (fragment : Fragment) (rows : List (List ℕ)) : Type 0 where
  pub nullable : IsTrue fragment.nullable ↔ Matches (placed n e) []
  pub firsts : (q : ℕ) → Contains fragment.firsts.items q ↔ IsFirst (placed n e) q
  pub lasts : (p : ℕ) → Contains fragment.lasts.items p ↔ IsLast (placed n e) p
  pub repeats : IsTrue fragment.repeats → (p q : ℕ) → IsLast (placed n e) p → IsFirst (placed n e) q → IsNext (placed n e) p q
  pub owed : (p q : ℕ) → Crosses fragment.owed.items p q → IsLast (placed n e) p × IsFirst (placed n e) q × IsNext (placed n e) p q
  pub listed : (p q : ℕ) → n ≤ p → p < n + length (occurrences_in e) → Follows rows p q → IsNext (placed n e) p q
  pub whole : (p q : ℕ) → IsNext (placed n e) p q → Follows rows p q ⊎ Crosses fragment.owed.items p q

-- the places before a number have the next places that they had
abbrev pub IsKeptBelow : ℕ → List (List ℕ) → List (List ℕ) → Type 0
IsKeptBelow n old new = (p q : ℕ) → p < n → Follows new p q ↔ Follows old p q

-- the pairs were added to the lists
pub record AreLinked (Pair : ℕ → ℕ → Type 0) (old new : List (List ℕ)) : Type 0 where
  pub count : length new ≡ length old
  pub pairs : (p q : ℕ) → Follows new p q ↔ (Follows old p q ⊎ Pair p q)

-- the pairs were added to the lists, or are owed still, which may only be where they may be owed
pub record AreSettled (Pair : ℕ → ℕ → Type 0) (may_owe : Bool) (left : List Crossing) (old new : List (List ℕ)) : Type 0 where
  pub count : length new ≡ length old
  pub kept : (p q : ℕ) → Follows old p q → Follows new p q
  pub listed : (p q : ℕ) → Follows new p q → Follows old p q ⊎ Pair p q
  pub owed : (p q : ℕ) → Crosses left p q → IsTrue may_owe × Pair p q
  pub whole : (p q : ℕ) → Pair p q → Follows new p q ⊎ Crosses left p q

-- the places of the fragment have lists
pub record HasRows (count : ℕ) (fragment : Fragment) : Type 0 where
  pub lasts : (p : ℕ) → Contains fragment.lasts.items p → p < count
  pub owed : (p q : ℕ) → Crosses fragment.owed.items p q → p < count

-- the fragment of one of two expressions
abbrev pub IsEither : Fragment → Fragment → Fragment → Type 0
IsEither left right made = (n : ℕ) (e f : Expression (List ℤ)) (rows : List (List ℕ)) → IsFragment n e left rows → IsFragment (n + length (occurrences_in e)) f right rows → IsFragment n (either e f) made rows

-- the fragment of two expressions, one after the other
pub record IsFollow (left right made : Fragment) (old new : List (List ℕ)) : Type 0 where
  pub count : length new ≡ length old
  pub fragment : (n : ℕ) (e f : Expression (List ℤ)) → IsFragment n e left old → IsFragment (n + length (occurrences_in e)) f right old → IsFragment n (follow e f) made new
  pub kept : (n : ℕ) (e f : Expression (List ℤ)) → IsFragment n e left old → IsFragment (n + length (occurrences_in e)) f right old → IsKeptBelow n old new

-- the fragment of an expression once more, at least once, at most once
abbrev pub IsStar : Fragment → Fragment → Type 0
IsStar fragment made = (n : ℕ) (e : Expression (List ℤ)) (rows : List (List ℕ)) → IsFragment n e fragment rows → IsFragment n (star e) made rows

abbrev pub IsPlus : Fragment → Fragment → Type 0
IsPlus fragment made = (n : ℕ) (e : Expression (List ℤ)) (rows : List (List ℕ)) → IsFragment n e fragment rows → IsFragment n (plus e) made rows

abbrev pub IsOptional : Fragment → Fragment → Type 0
IsOptional fragment made = (n : ℕ) (e : Expression (List ℤ)) (rows : List (List ℕ)) → IsFragment n e fragment rows → IsFragment n (optional e) made rows

-- the expression is of one occurrence
abbrev pub IsOccurrence : Expression (List ℤ) → Type 0
IsOccurrence (letter x) = Unit {0}
IsOccurrence any = Unit {0}
IsOccurrence _ = ⊥

-- the fragment of the empty word, and of a letter at a place
abbrev pub IsEmptyWord : Fragment → Type 0
IsEmptyWord made = (n : ℕ) (rows : List (List ℕ)) → IsFragment {L = List ℤ} n empty made rows

abbrev pub IsPlace : ℕ → Fragment → Type 0
IsPlace place made = (e : Expression (List ℤ)) (rows : List (List ℕ)) → IsOccurrence e → slice_index_or rows place [] ≡ [] → IsFragment place e made rows
