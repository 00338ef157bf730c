-- Files are loaded alike whatever texts of users' systems are beside them.
use Rattle.std.proofs.Common.{List, [], ◌∷◌}
use Rattle.wal_outside.specs.Files.{Files}
use Rattle.dfa_loading.specs.Loading.{AreListedBy}
use Rattle.dfa_loading.specs.Places.{IsListedBy}
use Rattle.dfa_loading.specs.declared.loaded.Loaded.{Loaded}
use Rattle.formula_resolve.specs.FirstMentions.{first_files}
use Rattle.formula_resolve.specs.declared.file.File.{File}
use Rattle.formula_resolve.specs.declared.file.File.TheVariants.{Automaton, Word}
use Rattle.formula_resolve.specs.declared.mention.Mention.{Mention}
use Rattle.system_files.specs.SystemFiles.{Custom}
use Rattle.command_parts.specs.declared.mentioned_tables.MentionedTables.{MentionedTables}
use Rattle.command_parts.specs.MentionedTables.{AreMentionedIn}
use Rattle.command_parts.proofs.TextReads.{with_bases}

one_elsewhere : (files : Files) (custom : Custom) (file : File) (table : Loaded) → IsListedBy files file table → IsListedBy (with_bases files custom) file table
one_elsewhere files custom (Automaton name) table l = record { text = l.text; there = l.there; short = l.short; lists = l.lists }
one_elsewhere files custom (Word name) table l = record { text = l.text; there = l.there; short = l.short; lists = l.lists }

pub listed_elsewhere : (files : Files) (custom : Custom) (named : List File) (tables : List Loaded) → AreListedBy files named tables → AreListedBy (with_bases files custom) named tables
listed_elsewhere files custom [] [] all = tt
listed_elsewhere files custom [] (table ∷ tables) all = all
listed_elsewhere files custom (file ∷ named) [] all = all
listed_elsewhere files custom (file ∷ named) (table ∷ tables) all = (one_elsewhere files custom file table all.0, listed_elsewhere files custom named tables all.1)

pub mentioned_elsewhere : (files : Files) (custom : Custom) (mentions : List Mention) (mentioned : MentionedTables) → AreMentionedIn mentions files mentioned → AreMentionedIn mentions (with_bases files custom) mentioned
mentioned_elsewhere files custom mentions mentioned is = record { mentions_are = is.mentions_are; listed = listed_elsewhere files custom (first_files mentions) mentioned.tables.items is.listed }
