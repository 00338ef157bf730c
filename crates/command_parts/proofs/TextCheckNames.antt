-- What is stored and printed of bytes, by a name.
use Rattle.std.specs.Prelude.{ℕ, List, [], None}
use Rattle.wal_outside.specs.declared.folder.Folder.{Folder}
use Rattle.definitions.specs.Trees.{Bytes}
use Rattle.command_parts.specs.Accepting.{Success}

-- what is stored and printed of bytes
abbrev pub text_success : Folder → List ℕ → List ℕ → Success
text_success folder name bytes = record { folder = folder; name = name; entry = Bytes bytes; lines = []; verdict = None }
