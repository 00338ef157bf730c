-- What is seen of a source, a sink and a store: what each says, and its count of faults.
use Rattle.std.specs.Prelude.{ℕ, List, Option}
use Rattle.wal_outside.specs.Files.{Files}
use Rattle.wal_outside.specs.Places.{Place}

-- a source: the bytes that are left to be read, where they are reported, and how many calls and faults there were
pub record SourceView : Type 0 where
  pub left : Option (List ℕ)
  pub calls : ℕ
  pub faults : ℕ

-- a sink: the bytes that were written, where they are reported, and how many faults there were
pub record SinkView : Type 0 where
  pub held : Option (List ℕ)
  pub faults : ℕ

-- a store: its files, where they are reported; how many faults there were; and the file of the last call that failed, if one did, where that is
-- reported
pub record StoreView : Type 0 where
  pub files : Option Files
  pub faults : ℕ
  pub failed : Option (Option Place)
