-- What is given of some mentions is given of the same ones.
use Rattle.std.proofs.Common.{◌≡◌, ℕ, List, Result, subst}
use Rattle.dfa_loading.specs.declared.loaded.Loaded.{Loaded}
use Rattle.formula_resolve.specs.declared.mention.Mention.{Mention}
use Rattle.wal_outside.specs.Views.{StoreView}
use Rattle.command_parts.specs.declared.fault.Fault.{Fault}
use Rattle.command_parts.specs.declared.mentioned_tables.MentionedTables.{MentionedTables}
use Rattle.command_parts.specs.declared.mentioned_tables.SealedNames.{SealedNames}
use Rattle.command_parts.specs.MentionedTables.{GivesNames, LoadsMentioned}
use Rattle.command_parts.specs.StoreReads.{FromFiles, FromTexts}

-- their tables
pub same_loads : {given mentions : List Mention} {old new : StoreView} {r : Result MentionedTables Fault} → given ≡ mentions → FromFiles (LoadsMentioned given) old r new → FromFiles (LoadsMentioned mentions) old r new
same_loads {old = old} {new = new} {r = r} same loads = subst (λ (ms : List Mention). FromFiles (LoadsMentioned ms) old r new) same loads

-- and what the names of their systems mean
pub same_names : (limit : ℕ) (tables : List Loaded) {given mentions : List Mention} {old new : StoreView} {r : Result SealedNames Fault} → given ≡ mentions → FromTexts (GivesNames limit given tables) old r new → FromTexts (GivesNames limit mentions tables) old r new
same_names limit tables {old = old} {new = new} {r = r} same names = subst (λ (ms : List Mention). FromTexts (GivesNames limit ms tables) old r new) same names
