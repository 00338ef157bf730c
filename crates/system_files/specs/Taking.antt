-- Which language a name takes, among what was found. Nobody has to believe this: it serves the loading of files.
use Rattle.std.specs.Prelude.{◌≡◌, ℕ, true, List}
use Rattle.digit_tuple.specs.declared.direction.Direction.{Direction}
use Rattle.dfa_reading.specs.declared.system_part.SystemPart.TheVariants.{Language}
use Rattle.system_files.specs.SystemFiles.{Custom, is_there, is_reversed, taken_name}
use Rattle.system_files.specs.SystemTexts.{FoundText}
use Rattle.system_files.specs.Looks.{IsAt, IsPartAt}
use Rattle.system_files.specs.declared.taking.Taken.{Taken}
use Rattle.system_files.specs.declared.taking.TakenLanguage.{TakenLanguage}

-- the text of the language that is taken is at this place, and whether it is the one of the other direction
pub record IsTaken (direction : Direction) (part : List ℕ) (custom : Custom) (found : List FoundText) (taken : Taken) : Type 0 where
  pub reversed : taken.reversed ≡ is_reversed custom direction part
  pub at : IsAt found (taken_name custom direction part) taken.place
  pub there : is_there (custom (taken_name custom direction part)) ≡ true

-- and it lists this language
pub record IsTakenLanguage (direction : Direction) (part : List ℕ) (custom : Custom) (found : List FoundText) (taken : TakenLanguage) : Type 0 where
  pub reversed : taken.reversed ≡ is_reversed custom direction part
  pub name : taken.name ≡ taken_name custom direction part
  pub language : IsPartAt Language custom (taken_name custom direction part) taken.language
