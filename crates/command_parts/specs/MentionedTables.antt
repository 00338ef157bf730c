-- The tables of the files that a command mentions, and what the names of their systems mean.
use Rattle.std.specs.Prelude.{◌≡◌, ℕ, List, Ok, Result, MatchResult}
use Rattle.dfa_loading.specs.Headers.{headers_of}
use Rattle.dfa_loading.specs.Loading.{AreListedBy}
use Rattle.dfa_loading.specs.declared.loaded.Loaded.{Loaded}
use Rattle.formula_build.specs.declared.names.Names.{Names}
use Rattle.formula_resolve.specs.FirstMentions.{first_files, first_systems}
use Rattle.formula_resolve.specs.declared.mention.Mention.{Mention}
use Rattle.system_admission.specs.SystemSteps.{AdmitsNames, no_steps}
use Rattle.system_files.specs.SystemFiles.{Custom}
use Rattle.wal_outside.specs.Files.{Files}
use Rattle.command_parts.specs.declared.fault.Fault.{Fault}
use Rattle.command_parts.specs.declared.mentioned_tables.MentionedTables.{MentionedTables}
use Rattle.command_parts.specs.declared.mentioned_tables.SealedNames.{SealedNames}
use Rattle.command_parts.specs.Checks.{Fails}
use Rattle.command_parts.specs.FormulaLoads.{AreUnloaded, HasSystems}
use Rattle.command_parts.specs.FormulaSteps.{AreMeant}
use Rattle.command_parts.specs.SystemChecks.{systems_known}

-- these are the mentions, and the files list the tables of those that they name
pub record AreMentionedIn (mentions : List Mention) (files : Files) (mentioned : MentionedTables) : Type 0 where
  pub mentions_are : mentioned.mentions.items ≡ mentions
  pub listed : AreListedBy files (first_files mentions) mentioned.tables.items

-- some files do
abbrev pub AreLoaded : List Mention → MentionedTables → Type 0
AreLoaded mentions mentioned = (files : Files) × AreMentionedIn mentions files mentioned

-- the files do, or not
abbrev pub LoadsMentioned : List Mention → Files → Result MentionedTables Fault → Type 0
LoadsMentioned mentions files result = MatchResult result (AreMentionedIn mentions files) (AreUnloaded files (first_files mentions))

-- the systems that are mentioned are sealed, each under its name, which means it
pub record AreNames (mentions : List Mention) (tables : List Loaded) (custom : Custom) (names : Names) : Type 0 where
  pub headers : names.headers ≡ headers_of tables
  pub systems : HasSystems (first_systems (headers_of tables) mentions) names.systems
  pub meant : AreMeant custom names.systems

-- and these are the steps of those that were admitted
pub record AreNamesOf (limit : ℕ) (mentions : List Mention) (tables : List Loaded) (custom : Custom) (named : SealedNames) : Type 0 where
  pub names : AreNames mentions tables custom named.names
  pub admits : AdmitsNames custom (first_systems (headers_of tables) mentions) (no_steps limit) (Ok tt) named.steps

-- they are there, or not
abbrev pub GivesNames : ℕ → List Mention → List Loaded → Custom → Result SealedNames Fault → Type 0
GivesNames limit mentions tables custom result = MatchResult result (AreNamesOf limit mentions tables custom) (Fails (systems_known limit custom (first_systems (headers_of tables) mentions)))
