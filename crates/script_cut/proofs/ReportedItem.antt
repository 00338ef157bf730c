-- The item of a source that says what it has left.
use Rattle.std.proofs.Common.{◌≡◌, ℕ, Bool, true, false, List, [], ◌++◌, Option, Some, Result, refl, sym, subst}
use Rattle.std.specs.List.{concat}
use Rattle.std.specs.Io.KnownBytes.{Consumes, IsAtEnd as HasGivenAll}
use Rattle.wal_outside.specs.Views.{SourceView}
use Rattle.script_cut.specs.Cuts.{Rest}
use Rattle.script_cut.specs.Kept.{Kept}
use Rattle.script_cut.specs.Cutting.{place_of, MayCome, GivesItem, HasCut}
use Rattle.script_cut.specs.Laws.{GivesReportedItem}
use Rattle.script_cut.specs.declared.cut.Cut.{Cut}
use Rattle.script_cut.specs.declared.cut.CutFault.{CutFault}

same_place : (kept : Kept) (xs ys : List ℕ) → kept.over ≡ true → place_of kept xs ≡ place_of kept ys
same_place kept xs ys over = rw over refl

may_come : (over : Bool) (was : Option (List ℕ)) (now : List ℕ) (v : Bool) → over ≡ v → was ≡ Some now → MayCome v (Some now) now → MayCome over was now
may_come over was now v is was_is may = rw (is, was_is) may

may_come_over : (over : Bool) (was : Option (List ℕ)) → over ≡ true → MayCome over was []
may_come_over true was is = refl
may_come_over false was is = cc

reported_by : (old new : Kept) (left now : List ℕ) (from to : SourceView) (result : Result Cut CutFault) (v w : Bool) → old.over ≡ v → new.over ≡ w → from.left ≡ Some left → to.left ≡ Some now → HasCut old from result new to → GivesItem (place_of old left) result (place_of new now)
reported_by old new left now from to result v false begun is was was' h =
    let P : List ℕ → Type 0 = λ bytes. GivesItem (place_of old bytes) result (place_of new now) in
    let taken : Consumes (Some left) (Some now) (concat h.pieces) = rw (was, was') at h.given.taken in
    subst P (sym taken) (h.item now (may_come new.over to.left now false is was' refl))
reported_by old new left now from to result false true begun is was was' h =
    let P : List ℕ → Type 0 = λ bytes. GivesItem (place_of old bytes) result (place_of new now) in
    let taken : Consumes (Some left) (Some now) (concat h.pieces) = rw (was, was') at h.given.taken in
    let ended : HasGivenAll (Some now) = rw was' at (h.ended begun is) in
    subst P (sym taken) (h.item now (may_come new.over to.left now true is was' ended))
reported_by old new left now from to result true true begun is was was' h =
    let P : Rest → Type 0 = λ place. GivesItem place result (place_of new now) in
    let Q : Rest → Type 0 = λ place. GivesItem (place_of old (concat h.pieces ++ [])) result place in
    subst P (same_place old (concat h.pieces ++ []) left begun) (subst Q (same_place new [] now is) (h.item [] (may_come_over new.over to.left is)))

pub reported_item : (old : Kept) (from : SourceView) (result : Result Cut CutFault) (new : Kept) (to : SourceView) → GivesReportedItem old from result new to
reported_item old from result new to = λ h left now was was'. reported_by old new left now from to result old.over new.over refl refl was was' h
