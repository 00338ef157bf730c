-- What is to be done for a command, from its checks.
use Rattle.std.proofs.Common.{◌≡◌, ℕ, Bool, List, Result, Ok, Err, refl}
use Rattle.wal_outside.specs.Files.{Files}
use Rattle.wal_outside.specs.Views.{StoreView}
use Rattle.command_parts.specs.declared.fault.Fault.{Fault}
use Rattle.command_parts.specs.declared.file_change.Action.{Action}
use Rattle.command_parts.specs.declared.file_change.FileChange.{FileChange}
use Rattle.command_parts.specs.Checks.{Check, Passing, Then}
use Rattle.system_files.specs.SystemFiles.{Custom}
use Rattle.command_parts.specs.Accepting.{Success, Said, Accepted, Storing, Saying, storing, saying}
use Rattle.command_parts.specs.FileChanges.{ChangesFile, PrintsChecked, Acts, writing, printing}
use Rattle.command_parts.specs.StoreReads.{HasRead, FromFiles}
use Rattle.command_parts.proofs.CheckSteps.{fails_first, fails_after}

-- what the checks after the first lead to
pub acts_after : {Y : Type 0} (custom : Custom) (first : Check Y) (rest : Y → Check Accepted) (y : Y) (shown : Bool) (r : Result Action Fault) → first.answers (Ok y) → Acts custom (rest y) shown r → Acts custom (Then first rest) shown r
acts_after custom first rest y shown (Ok action) passed a = record { accepted = a.accepted; answers = (y, passed, a.answers); is_of = a.is_of }
acts_after custom first rest y shown (Err f) passed refused = fails_after first rest y f passed refused

-- a command that stores
pub stores_change : (custom : Custom) (checks : Check Success) (shown : Bool) (r : Result FileChange Fault) → ChangesFile custom checks shown r → Acts custom (storing checks) shown (writing r)
stores_change custom checks shown (Ok change) p = record {
  accepted = Storing p.made.success;
  answers = (p.made.success, p.made.answers, refl);
  is_of = record { has_text = p.made.has_text; printed_is = p.made.printed_is; folder_is = p.folder_is; name_is = p.name_is };
}
stores_change custom checks shown (Err f) refused = fails_first checks (λ success. Passing (λ accepted. accepted ≡ Storing success)) f refused

-- what a command reads that stores
written_read : (old new : StoreView) (r : Result FileChange Fault) → HasRead old r new → HasRead old (writing r) new
written_read old new (Ok change) read = record { files = read.files; later = read.later; cause = read.cause }
written_read old new (Err f) read = record { files = read.files; later = read.later; cause = read.cause }

pub from_change : (First : Files → Result FileChange Fault → Type 0) (Gives : Files → Result Action Fault → Type 0) (old new : StoreView) (r : Result FileChange Fault) → FromFiles First old r new → ((found : Files) → First found r → Gives found (writing r)) → FromFiles Gives old (writing r) new
from_change First Gives old new r first so = record { found = first.found; reported = first.reported; gives = so first.found first.gives; has_read = written_read old new r first.has_read }

-- a command that says something
pub prints_action : (custom : Custom) (checks : Check Said) (shown : Bool) (r : Result (List ℕ) Fault) → PrintsChecked checks shown r → Acts custom (saying checks) shown (printing r)
prints_action custom checks shown (Ok printed) (said, answers, is) = record { accepted = Saying said; answers = (said, answers, refl); is_of = is }
prints_action custom checks shown (Err f) refused = fails_first checks (λ said. Passing (λ accepted. accepted ≡ Saying said)) f refused

said_read : (old new : StoreView) (r : Result (List ℕ) Fault) → HasRead old r new → HasRead old (printing r) new
said_read old new (Ok printed) read = record { files = read.files; later = read.later; cause = read.cause }
said_read old new (Err f) read = record { files = read.files; later = read.later; cause = read.cause }

pub from_said : (First : Files → Result (List ℕ) Fault → Type 0) (Gives : Files → Result Action Fault → Type 0) (old new : StoreView) (r : Result (List ℕ) Fault) → FromFiles First old r new → ((found : Files) → First found r → Gives found (printing r)) → FromFiles Gives old (printing r) new
from_said First Gives old new r first so = record { found = first.found; reported = first.reported; gives = so first.found first.gives; has_read = said_read old new r first.has_read }
