-- A word that is loaded of files is loaded of those with the morphisms and the transducers of others.
use Rattle.std.proofs.Common.{ℕ, List, Result, Ok, Err}
use Rattle.wal_outside.specs.Files.{Files}
use Rattle.formula_resolve.specs.FirstMentions.{first_files}
use Rattle.command_parts.specs.declared.fault.Fault.{Fault}
use Rattle.word_commands.specs.declared.old_word.OldWord.{OldWord}
use Rattle.word_commands.specs.ImageOutcomes.{old_mentions}
use Rattle.word_commands.specs.OldWordMakes.{LoadsOld}
use Rattle.word_commands.proofs.ImageReads.{listed_with, unloaded_with, with_maps}

pub old_with : (files others : Files) (name : List ℕ) (r : Result OldWord Fault) → LoadsOld name files r → LoadsOld name (with_maps files others) r
old_with files others name (Ok old) is = record {
  name_is = is.name_is;
  there = record { mentions_are = is.there.mentions_are; listed = listed_with files others (first_files (old_mentions old.name)) old.mentioned.tables.items is.there.listed };
}
old_with files others name (Err fault) refused = unloaded_with files others (first_files (old_mentions name)) fault refused
