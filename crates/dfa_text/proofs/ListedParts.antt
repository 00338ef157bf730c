-- What is listed, and the tuples of letters.
use Rattle.std.proofs.Common.{◌≡◌, ◌⊎◌, inl, inr, zero, suc, List, [], ◌∷◌, ℤ, arith}
use Rattle.std.specs.List.{All, Contains}
use Rattle.std.proofs.lemmas.List.Elements.{recursion_from_All}
use mir.Val.{SFits}
use mir.Syntax.{w32}
use Rattle.digit_tuple.specs.Sets.{IsAscending}
use Rattle.dfa_text.specs.Meaning.{IsTrackSet, AreTrackSets}
use Rattle.dfa_text.proofs.PrintedHeaders.{IsPrintable}

-- elements of a list
pub contains_none : {X : Type 0} (x : X) → Contains [] x → ⊥
contains_none x (k, lt, e) = absurd (omega arith)

pub contains_cases : {X : Type 0} (x y : X) (xs : List X) → Contains (x ∷ xs) y → (x ≡ y) ⊎ Contains xs y
contains_cases x y xs (zero, lt, e) = inl e
contains_cases x y xs (suc k, lt, e) = inr (k, omega arith, e)

pub contains_only : {X : Type 0} (x y : X) → Contains (x ∷ []) y → x ≡ y
contains_only x y h = elim (contains_cases x y [] h) [ inl e ↦ e | inr k ↦ absurd (contains_none y k) ]

-- sets of tracks
pub printable : (set : List ℤ) → IsTrackSet set → IsPrintable set
printable set h = record { some = h.some; ascending = h.ascending; fits = recursion_from_All (SFits w32) set h.fits }

pub all_ascending : (sets : List (List ℤ)) → AreTrackSets sets → All IsAscending sets
all_ascending sets h = λ k d lt. (h.each k d lt).ascending
