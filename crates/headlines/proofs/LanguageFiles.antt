-- The files of languages that commands make.
use Rattle.std.proofs.Common.{◌≡◌, ℕ, List, Some, Ok, ap, subst}
use Rattle.wal_outside.specs.Files.{Files, put}
use Rattle.wal_outside.specs.Views.{StoreView}
use Rattle.wal_outside.specs.declared.folder.Folder.{Folder}
use Rattle.wal_outside.specs.declared.folder.Folder.TheVariants.{Automata}
use Rattle.language_steps.specs.declared.op.LanguageOp.{LanguageOp}
use Rattle.definitions.specs.Texts.{HasText}
use Rattle.definitions.specs.Trees.{Language, Entry, Ledger, Defined, custom_of, trees_of}
use Rattle.command_parts.specs.Accepting.{Success}
use Rattle.command_parts.specs.Checks.{Check}
use Rattle.language_commands.specs.LanguageOutcomes.{language_checks, tree_op}
use Rattle.session_cli.proofs.CommandsMade.{language_made}
use Rattle.headlines.specs.Languages.{IsLanguageMade, Languages}
use Rattle.headlines.proofs.AcceptedCommands.{IsMade, is_made}

made : (op : LanguageOp) (limit : ℕ) (ledger : Ledger) (files : Files) (command : List ℕ) (new : StoreView) (success : Success) (bytes : List ℕ) → HasText (custom_of ledger) success.entry bytes → new.files ≡ Some (put files success.folder success.name bytes)
    → (language_checks op limit ledger command).answers (Ok success) → IsLanguageMade op ledger files command new
made op limit ledger files command new success bytes text stored (head, h, (tables, t, (plain, p, (sets, o, (lines, l, (is, fits)))))) =
    let own : HasText (custom_of ledger) (Defined (Language sets (tree_op op) (trees_of ledger head.languages))) bytes = subst (λ (e : Entry). HasText (custom_of ledger) e bytes) (ap (λ (s : Success). s.entry) is) text in
    let folder_is : success.folder ≡ Automata = ap (λ (s : Success). s.folder) is in
    let name_is : success.name ≡ head.name = ap (λ (s : Success). s.name) is in
    record {
      head = head;
      derived = h;
      tables = tables;
      loaded = t;
      sets = sets;
      over = o;
      bytes = bytes;
      stored = subst (λ (n : List ℕ). new.files ≡ Some (put files Automata n bytes)) name_is (subst (λ (f : Folder). new.files ≡ Some (put files f success.name bytes)) folder_is stored);
      accepts = own.accepts;
    }

pub languages : Languages
languages op limit ledger files old new command shown printed is reported c =
    let checks : Ledger → Check Success = λ known. language_checks op limit known command in
    let m : IsMade (checks ledger) ledger files new = is_made limit command checks (λ known accepted answered. language_made limit known command accepted op is answered) ledger files old new shown printed reported c in
    made op limit ledger files command new m.success m.bytes m.text m.stored m.made
