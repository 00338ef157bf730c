use Rattle.std.proofs.Common.{◌≡◌, ◌≢◌, ℕ, ◌<◌, Some}
use Rattle.std.specs.Prelude.{slice_get}
use Rattle.system_files.specs.SystemTexts.{FoundText}
use Rattle.system_files.specs.TextViews.{texts_in}
use Rattle.system_files.proofs.texts.SystemTexts.place_of.Given as goal

-- none of the earlier ones has the name
abbrev pub invariant-loop-place : goal.invariant-loop-place
invariant-loop-place l = record {
  texts : texts_in l.found-items ≡ l.self;
  prefix : (k : ℕ) (one : FoundText) → k < l.place → slice_get (texts_in l.found-items) k ≡ Some one → one.name ≢ l.name;
}
