-- The systems of an accepted formula are systems.
use Rattle.std.proofs.Common.{ℕ, List, [], ◌∷◌, Ok, codes, inl, inr}
use Rattle.std.specs.List.{AllByRecursion}
use Rattle.wal_outside.specs.declared.folder.Folder.{Folder}
use Rattle.wal_outside.specs.declared.folder.Folder.TheVariants.{Automata, Results}
use Rattle.digit_tuple.specs.Steps.{StepLog}
use Rattle.adder_check.specs.Admission.{user_system}
use Rattle.system_files.specs.SystemFiles.{Custom}
use Rattle.dfa_loading.specs.Headers.{headers_of}
use Rattle.formula_resolve.specs.FirstMentions.{first_systems}
use Rattle.formula_resolve.specs.Mentions.{mentions}
use Rattle.system_admission.specs.SystemSteps.{AdmitsName, AdmitsNames, no_steps}
use Rattle.system_admission.proofs.OneNames.{admitted_are_meant}
use Rattle.definitions.specs.Trees.{Ledger, custom_of}
use Rattle.command_parts.specs.Accepting.{Success}
use Rattle.command_parts.specs.Checks.{Check}
use Rattle.formula_commands.specs.FormulaOutcomes.{formula_checks}
use Rattle.session_cli.proofs.CommandsMade.{eval_made, def_made}
use Rattle.headlines.specs.Sentences.{IsFormulaCommand}
use Rattle.headlines.specs.OwnSystems.{IsUsedSystem, UsesSystems, OwnSystems}
use Rattle.headlines.proofs.AcceptedCommands.{IsMade, is_made}
use Rattle.headlines.proofs.VerdictSteps.{is_of_formula}

-- a name that is admitted is that of a system
one_system : (custom : Custom) (name : List ℕ) (old new : StepLog) → AdmitsName custom name old (Ok tt) new → IsUsedSystem custom name
one_system custom name old new (inl (built_in, is, same)) = inl built_in
one_system custom name old new (inr (other, (user, admitted))) = inr (user.direction, user_system user, admitted_are_meant custom name old new user admitted)

all_systems : (custom : Custom) (names : List (List ℕ)) (old new : StepLog) → AdmitsNames custom names old (Ok tt) new → AllByRecursion (IsUsedSystem custom) names
all_systems custom [] old new admitted = tt
all_systems custom (name ∷ names) old new (inl (done, mid, first, rest)) = (one_system custom name old mid first, all_systems custom names mid new rest)
all_systems custom (name ∷ names) old new (inr (fault, refused, is)) = absurd cc

uses : (limit : ℕ) (ledger : Ledger) (command : List ℕ) (success : Success) (word : List ℕ) (folder : Folder) → IsFormulaCommand command → (formula_checks word folder limit ledger command).answers (Ok success) → UsesSystems ledger command
uses limit ledger command success word folder is_word (head, h, (expanded, (files, stores, expands), (formula, f, (tables, t, (admitted, a, rest))))) = record {
  files = files;
  formula = formula;
  is_of = is_of_formula files command word expanded head formula is_word h expands f;
  tables = tables;
  loaded = t;
  systems = all_systems (custom_of ledger) (first_systems (headers_of tables) (mentions formula)) (no_steps limit) admitted a;
}

pub own_systems : OwnSystems
own_systems limit ledger files old new command shown printed (inl is) reported c =
    let checks : Ledger → Check Success = λ known. formula_checks (codes "eval") Results limit known command in
    let m : IsMade (checks ledger) ledger files new = is_made limit command checks (λ known accepted answered. eval_made limit known command accepted is answered) ledger files old new shown printed reported c in
    uses limit ledger command m.success (codes "eval") Results (inl is) m.made
own_systems limit ledger files old new command shown printed (inr is) reported c =
    let checks : Ledger → Check Success = λ known. formula_checks (codes "def") Automata limit known command in
    let m : IsMade (checks ledger) ledger files new = is_made limit command checks (λ known accepted answered. def_made limit known command accepted is answered) ledger files old new shown printed reported c in
    uses limit ledger command m.success (codes "def") Automata (inr is) m.made
