-- What a list of texts holds.
use Rattle.std.specs.Prelude.{◌≡◌, ℕ, ◌<◌, Bool, true, List, [], ◌∷◌, length, slice_get, None, Some, IfSome, if◌then◌else◌}
use Rattle.std.specs.String.{string_bytes}
use Rattle.wal_outside.specs.declared.folder.Folder.{Folder}
use Rattle.wal_outside.specs.declared.shelf.Text.{Text}
use Rattle.wal_outside.specs.Files.{Files, same_file}

-- whether a text is under this name in this folder
abbrev pub is_at : Text → Folder → List ℕ → Bool
is_at text folder name = same_file text.folder (string_bytes text.name) folder name

-- the first text under a name in a folder
abbrev pub lookup : List Text → Files
lookup [] folder name = None
lookup (text ∷ texts) folder name = if is_at text folder name then Some text.bytes.items else lookup texts folder name

-- at this place of the list is a text under this name in this folder
abbrev pub HasAt : List Text → ℕ → Folder → List ℕ → Type 0
HasAt texts i folder name = (i < length texts) × IfSome (slice_get texts i) (λ text. is_at text folder name ≡ true)
