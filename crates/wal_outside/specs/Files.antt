-- What a store holds: a finite map from folder and name to bytes, seen as a function.
use Rattle.std.specs.Prelude.{ℕ, ◌==◌, Bool, ◌&&◌, List, Option, Some, if◌then◌else◌}
use Rattle.std.specs.Str.{bytes_eq}
use Rattle.wal_outside.specs.declared.folder.Folder.{Folder}
use Rattle.wal_outside.specs.Folders.{folder_index}

-- the text of each name in each folder, where there is one
abbrev pub Files : Type 0
Files = Folder → List ℕ → Option (List ℕ)

-- whether two folders and names are the same
abbrev pub same_file : Folder → List ℕ → Folder → List ℕ → Bool
same_file f n g m = (folder_index f == folder_index g) && bytes_eq n m

-- the files with this text at one name, and else as they were
abbrev pub put : Files → Folder → List ℕ → List ℕ → Files
put files folder name text = λ g m. if same_file folder name g m then Some text else files g m
