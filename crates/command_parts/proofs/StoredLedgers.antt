-- Files store the ledger that has their texts.
use Rattle.std.proofs.Common.{ℕ, List, Option, None, Some, refl}
use Rattle.std.specs.Option.{option_map}
use Rattle.wal_outside.specs.Files.{Files}
use Rattle.wal_outside.specs.declared.folder.Folder.{Folder}
use Rattle.definitions.specs.Texts.{HasTextAt, Stores}
use Rattle.definitions.specs.Trees.{Bytes, ledger_of, custom_of}
use Rattle.system_files.specs.SystemFiles.{Custom}

entry_stores : (custom : Custom) (folder : Folder) (found : Option (List ℕ)) → HasTextAt custom folder (option_map (λ (bytes : List ℕ). Bytes bytes) found) found
entry_stores custom folder None = tt
entry_stores custom folder (Some text) = (tt, refl)

-- files store the ledger that has their texts
pub files_store : (found : Files) → Stores (ledger_of found) found
files_store found = λ folder name. entry_stores (custom_of (ledger_of found)) folder (found folder name)
