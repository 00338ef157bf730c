-- Which file the last call that failed was about.
use Rattle.std.specs.Prelude.{◌≡◌, ℕ, Bool, true, false, List, Option, Some}
use Rattle.std.specs.Option.{option_map}
use Rattle.wal_outside.specs.declared.folder.Folder.{Folder}

-- a folder and a name in it
abbrev pub Place : Type 0
Place = Folder × List ℕ

-- where the last failed call is reported, a call that fails is the last from then on, and no other call changes which it is
abbrev pub FailedAt : Bool → Place → Option (Option Place) → Option (Option Place) → Type 0
FailedAt true place old new = new ≡ option_map (λ _. Some place) old
FailedAt false place old new = new ≡ old
