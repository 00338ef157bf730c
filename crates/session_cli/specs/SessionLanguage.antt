-- The command language of scripts.
use Rattle.std.specs.Prelude.{◌≡◌, ◌⊎◌, ℕ, Bool, true, false, List, Option, None, Some, Result, Ok, Err}
use Rattle.std.specs.Option.{option_map}
use Rattle.wal_outside.specs.Files.{Files, put}
use Rattle.script_runs.specs.Languages.{CommandLanguage, Deed, Enters}
use Rattle.script_runs.specs.declared.script_fault.ScriptFault.{ScriptFault}
use Rattle.script_runs.specs.declared.script_fault.ScriptFault.TheVariants as script
use Rattle.command_parts.specs.declared.text_refusal.Grammar.TheVariants as grammars
use Rattle.command_parts.specs.declared.text_refusal.TextRefusal.TheVariants as text_refusals
use Rattle.command_parts.specs.declared.file_refusal.FileRefusal.TheVariants as file_refusals
use Rattle.command_parts.specs.declared.refusal.Refusal.TheVariants as refusals
use Rattle.command_parts.specs.declared.fault.Fault.{Fault}
use Rattle.command_parts.specs.declared.fault.Fault.TheVariants as faults
use Rattle.definitions.specs.Trees.{Ledger, ledger_of, custom_of}
use Rattle.definitions.specs.Texts.{HasText, Stores}
use Rattle.system_files.specs.SystemFiles.{Custom}
use Rattle.command_parts.specs.Checks.{Check, Fails}
use Rattle.command_parts.specs.Accepting.{Success, Accepted, Storing, Saying, Answer, after}
use Rattle.session_cli.specs.RunOutcomes.{run_checks}
use Rattle.command_parts.specs.Lines.{accepted_text, fault_line}
use Rattle.command_parts.specs.StoreFailures.{failed_at}

-- A command's answer is what its checks answer. Or the store failed at a file that they read, or at the one of what the command stores; or
-- memory ran out.
abbrev pub IsAnswer : Check Accepted → Answer → Type 0
IsAnswer checks (Ok accepted) = checks.answers (Ok accepted)
IsAnswer checks (Err (faults.Store folder name)) = checks.reads (folder, name) ⊎ ((success : Success) × checks.answers (Ok (Storing success)) × (folder ≡ success.folder) × (name ≡ success.name))
IsAnswer checks (Err fault) = Fails checks fault

-- So is the reply to a command of a script, which may load a text or end the run.
abbrev pub IsReply : Check (Deed Accepted) → Result (Deed Accepted) Fault → Type 0
IsReply checks (Ok deed) = checks.answers (Ok deed)
IsReply checks (Err fault) = Fails checks fault ⊎ ((success : Success) × checks.answers (Ok (Enters (Storing success))) × (fault ≡ faults.Store success.folder success.name))

-- a command that stores changes the file of its entry to that entry's text
abbrev pub StoresEntry : Custom → Success → Option Files → Option Files → Type 0
StoresEntry custom success old new = (stored : List ℕ) × HasText custom success.entry stored × (new ≡ option_map (λ files. put files success.folder success.name stored) old)

-- an accepted command changes that file, or none
abbrev pub ChangesFiles : Custom → Accepted → Option Files → Option Files → Type 0
ChangesFiles custom (Storing success) old new = StoresEntry custom success old new
ChangesFiles custom (Saying said) old new = new ≡ old

abbrev pub is_memory_fault : Fault → Bool
is_memory_fault faults.Memory = true
is_memory_fault _ = false

-- how texts are refused that are no commands
abbrev pub script_refusal : ScriptFault → Fault
script_refusal script.Long = faults.Refused (refusals.Text (text_refusals.Long 65536))
script_refusal (script.Unterminated at) = faults.Refused (refusals.Text (text_refusals.Syntax grammars.Command at))
script_refusal script.PastLimit = faults.Refused (refusals.File file_refusals.ScriptLimit)

-- The limit ends a run. So does each other refusal where the run is to stop at the first.
abbrev pub ends_run : Bool → Fault → Bool
ends_run stop (faults.Refused (refusals.File file_refusals.ScriptLimit)) = true
ends_run stop _ = stop

-- the ledger at the beginning: the store's files, where these are reported
abbrev pub first_ledger : Option Files → Ledger
first_ledger None = λ folder name. None
first_ledger (Some files) = ledger_of files

-- the commands of a script, each step of which may have `limit` values, in a run that stops at the first refusal or does not
abbrev pub session_language : ℕ → Bool → CommandLanguage Fault
session_language limit stop = record {
  Ledger = Ledger;
  Success = Accepted;
  first = first_ledger;
  stores = Stores;
  answers = λ depth ledger text reply. IsReply (run_checks limit depth ledger text) reply;
  changes = λ ledger accepted old new. ChangesFiles (custom_of ledger) accepted old new;
  after = after;
  failed_at = failed_at;
  is_memory = is_memory_fault;
  of_script = script_refusal;
  ends_run = ends_run stop;
  success_text = accepted_text;
  fault_line = fault_line;
}
