use Rattle.std.proofs.Common.{◌≡◌, ℕ, ◌<◌, length}
use Rattle.residual_classes.specs.Classes.{class_of}
use Rattle.residual_classes.specs.FirstPlaces.{IsFirstPlace}
use Rattle.residual_classes.specs.PlaceSlots.{HoldPlaces}
use Rattle.residual_classes.proofs.first_places.first_places.Given as goal

abbrev pub invariant-loop-place : goal.invariant-loop-place
invariant-loop-place l = record {
  width : length l.places.items ≡ l.place;
  first : (q : ℕ) → q < l.place → IsFirstPlace l.numbers q (class_of l.places.items q);
  held : HoldPlaces l.slots l.numbers l.place;
}
