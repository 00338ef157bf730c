-- What a command is to store and to print, from its checks.
use Rattle.std.specs.Prelude.{◌≡◌, ℕ, Bool, List, Result, Ok, Err, MatchResult}
use Rattle.command_parts.specs.declared.fault.Fault.{Fault}
use Rattle.command_parts.specs.declared.file_change.Action.{Action}
use Rattle.command_parts.specs.declared.file_change.Action.TheVariants as actions
use Rattle.command_parts.specs.declared.file_change.Made.{Made}
use Rattle.command_parts.specs.declared.file_change.FileChange.{FileChange}
use Rattle.command_parts.specs.Checks.{Check, Fails}
use Rattle.command_parts.specs.Lines.{success_text, said_text}
use Rattle.definitions.specs.Texts.{HasText}
use Rattle.system_files.specs.SystemFiles.{Custom}
use Rattle.command_parts.specs.Accepting.{Success, Said, Accepted, Storing, Saying}

-- the text to store and the one to print are those of an accepted command
pub record IsMade (custom : Custom) (checks : Check Success) (shown : Bool) (made : Made) : Type 0 where
  pub success : Success
  pub answers : checks.answers (Ok success)
  pub has_text : HasText custom success.entry made.stored.items
  pub printed_is : made.printed ≡ success_text shown success

-- what was made is what the checks accept, or the fault is one by which they refuse
abbrev pub Makes : Custom → Check Success → Bool → Result Made Fault → Type 0
Makes custom checks shown result = MatchResult result (IsMade custom checks shown) (Fails checks)

-- and is under the name of the accepted command
pub record IsFileChange (custom : Custom) (checks : Check Success) (shown : Bool) (change : FileChange) : Type 0 where
  pub made : IsMade custom checks shown change.made
  pub folder_is : change.folder ≡ made.success.folder
  pub name_is : change.name ≡ made.success.name

abbrev pub ChangesFile : Custom → Check Success → Bool → Result FileChange Fault → Type 0
ChangesFile custom checks shown result = MatchResult result (IsFileChange custom checks shown) (Fails checks)

-- the change is that of what a command stores
pub record IsFileChangeOf (custom : Custom) (success : Success) (shown : Bool) (change : FileChange) : Type 0 where
  pub has_text : HasText custom success.entry change.made.stored.items
  pub printed_is : change.made.printed ≡ success_text shown success
  pub folder_is : change.folder ≡ success.folder
  pub name_is : change.name ≡ success.name

-- the action is that of an accepted command: to write what it stores, or to print what it says
abbrev pub IsActionOf : Custom → Accepted → Bool → Action → Type 0
IsActionOf custom (Storing success) shown (actions.Write change) = IsFileChangeOf custom success shown change
IsActionOf custom (Storing success) shown (actions.Print printed) = ⊥
IsActionOf custom (Saying said) shown (actions.Write change) = ⊥
IsActionOf custom (Saying said) shown (actions.Print printed) = printed ≡ said_text shown said

-- and the checks accept the command
pub record IsAction (custom : Custom) (checks : Check Accepted) (shown : Bool) (action : Action) : Type 0 where
  pub accepted : Accepted
  pub answers : checks.answers (Ok accepted)
  pub is_of : IsActionOf custom accepted shown action

-- an action is what the checks accept, or the fault is one by which they refuse
abbrev pub Acts : Custom → Check Accepted → Bool → Result Action Fault → Type 0
Acts custom checks shown result = MatchResult result (IsAction custom checks shown) (Fails checks)

-- what is printed is what a command says, or the fault is one by which its checks refuse
abbrev pub PrintsChecked : Check Said → Bool → Result (List ℕ) Fault → Type 0
PrintsChecked checks shown result = MatchResult result (λ printed. (said : Said) × checks.answers (Ok said) × (printed ≡ said_text shown said)) (Fails checks)

-- the action of a command that stores
abbrev pub writing : Result FileChange Fault → Result Action Fault
writing (Ok change) = Ok (actions.Write change)
writing (Err fault) = Err fault

-- and of one that says something
abbrev pub printing : Result (List ℕ) Fault → Result Action Fault
printing (Ok printed) = Ok (actions.Print printed)
printing (Err fault) = Err fault
