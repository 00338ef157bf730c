-- A command that is accepted: what its checks made, and which file it stored, or what it said.
use Rattle.std.proofs.Common.{◌≡◌, ℕ, Bool, List, Option, None, Some, IfSome, Ok, Err, codes, inl, inr, ap, ◌∙◌, subst}
use Rattle.std.specs.Option.{option_map}
use Rattle.wal_outside.specs.Files.{Files, put}
use Rattle.wal_outside.specs.Views.{StoreView}
use Rattle.wal_outside.specs.declared.folder.Folder.{Folder}
use Rattle.wal_outside.specs.declared.folder.Folder.TheVariants.{Automata, Results}
use Rattle.definitions.specs.Texts.{HasText}
use Rattle.definitions.specs.Trees.{Ledger, custom_of}
use Rattle.command_parts.specs.Accepting.{Success, Said, Accepted, Storing, Saying, Answer, saying, storing}
use Rattle.command_parts.specs.Checks.{Check}
use Rattle.session_cli.specs.Commands.{Commands, Gives, Changes}
use Rattle.session_cli.specs.Outcomes.{after_length, checks_of}
use Rattle.formula_commands.specs.FormulaOutcomes.{formula_checks}
use Rattle.command_parts.specs.Lines.{accepted_text, said_text}
use Rattle.session_cli.specs.SessionLanguage.{IsAnswer, ChangesFiles, StoresEntry}
use Rattle.session_cli.proofs.CommandsMade.{eval_made, def_made}
use Rattle.headlines.specs.Sentences.{IsFormulaCommand}

-- what was made of the formula of a command
pub record IsFormulaMade (limit : ℕ) (known : Ledger) (command : List ℕ) (accepted : Accepted) : Type 0 where
  pub word : List ℕ
  pub folder : Folder
  pub success : Success
  pub made : (formula_checks word folder limit known command).answers (Ok success)
  pub is : accepted ≡ Storing success

pub formula_made : (limit : ℕ) (known : Ledger) (command : List ℕ) (accepted : Accepted) → IsFormulaCommand command → (after_length limit known command).answers (Ok accepted) → IsFormulaMade limit known command accepted
formula_made limit known command accepted (inl is) answered = let m = eval_made limit known command accepted is answered in record { word = codes "eval"; folder = Results; success = m.0; made = m.1; is = m.2 }
formula_made limit known command accepted (inr is) answered = let m = def_made limit known command accepted is answered in record { word = codes "def"; folder = Automata; success = m.0; made = m.1; is = m.2 }

-- what was made by some checks, and the file that was stored
pub record IsMade (checks : Check Success) (ledger : Ledger) (files : Files) (new : StoreView) : Type 0 where
  pub success : Success
  pub made : checks.answers (Ok success)
  pub bytes : List ℕ
  pub text : HasText (custom_of ledger) success.entry bytes
  pub stored : new.files ≡ Some (put files success.folder success.name bytes)

-- the ledger is the one that is reported
pub reported_ledger : (reported : Option Files) (files : Files) (known ledger : Ledger) → reported ≡ Some files → IfSome reported (λ (files : Files). known ≡ ledger) → known ≡ ledger
reported_ledger None files known ledger is same = absurd cc
reported_ledger (Some others) files known ledger is same = same

-- a command whose checks are these, which store
pub is_made : (limit : ℕ) (command : List ℕ) (checks : Ledger → Check Success) → ((known : Ledger) (accepted : Accepted) → (after_length limit known command).answers (Ok accepted) → (storing (checks known)).answers (Ok accepted))
    → (ledger : Ledger) (files : Files) (old new : StoreView) (shown : Bool) (printed : List ℕ) → old.files ≡ Some files → Commands limit ledger old command shown (Ok printed) new → IsMade (checks ledger) ledger files new
is_made limit command checks stores ledger files old new shown printed reported c =
    subst (λ (known : Ledger). IsMade (checks known) known files new) (reported_ledger old.files files c.known ledger reported c.known_is) (by c.answer c.gives c.answered c.stored.files)
  where
    put_by : (success : Success) (accepted : Accepted) → accepted ≡ Storing success → ChangesFiles (custom_of c.known) accepted old.files new.files → StoresEntry (custom_of c.known) success old.files new.files
    put_by success accepted same changes = subst (λ (a : Accepted). ChangesFiles (custom_of c.known) a old.files new.files) same changes

    by : (answer : Answer) → Gives shown (Ok printed) answer → IsAnswer (checks_of limit c.known command) answer → Changes c.known old.files answer new.files → IsMade (checks c.known) c.known files new
    by (Ok accepted) gives (done, short, answered) changes =
        let m = stores c.known accepted answered in
        let entry : StoresEntry (custom_of c.known) m.0 old.files new.files = put_by m.0 accepted m.2 changes in
        record {
          success = m.0;
          made = m.1;
          bytes = entry.0;
          text = entry.1;
          stored = entry.2 ∙ ap (option_map (λ (files : Files). put files m.0.folder m.0.name entry.0)) reported;
        }
    by (Err fault) gives answered changes = absurd gives

-- what was said by some checks that store nothing, and what was printed of it
pub record IsSaid (checks : Check Said) (files : Files) (shown : Bool) (printed : List ℕ) (new : StoreView) : Type 0 where
  pub said : Said
  pub made : checks.answers (Ok said)
  pub printed_is : printed ≡ said_text shown said
  pub kept : new.files ≡ Some files

-- a command whose checks are these, which say something
pub is_said : (limit : ℕ) (command : List ℕ) (checks : Ledger → Check Said) → ((known : Ledger) (accepted : Accepted) → (after_length limit known command).answers (Ok accepted) → (saying (checks known)).answers (Ok accepted))
    → (ledger : Ledger) (files : Files) (old new : StoreView) (shown : Bool) (printed : List ℕ) → old.files ≡ Some files → Commands limit ledger old command shown (Ok printed) new → IsSaid (checks ledger) files shown printed new
is_said limit command checks says ledger files old new shown printed reported c =
    subst (λ (known : Ledger). IsSaid (checks known) files shown printed new) (reported_ledger old.files files c.known ledger reported c.known_is) (by c.answer c.gives c.answered c.stored.files)
  where
    kept_by : (said : Said) (accepted : Accepted) → accepted ≡ Saying said → ChangesFiles (custom_of c.known) accepted old.files new.files → new.files ≡ old.files
    kept_by said accepted same changes = subst (λ (a : Accepted). ChangesFiles (custom_of c.known) a old.files new.files) same changes

    by : (answer : Answer) → Gives shown (Ok printed) answer → IsAnswer (checks_of limit c.known command) answer → Changes c.known old.files answer new.files → IsSaid (checks c.known) files shown printed new
    by (Ok accepted) gives (done, short, answered) changes =
        let m = says c.known accepted answered in
        record { said = m.0; made = m.1; printed_is = gives ∙ ap (accepted_text shown) m.2; kept = kept_by m.0 accepted m.2 changes ∙ reported }
    by (Err fault) gives answered changes = absurd gives
