-- The verdict of an accepted command is that on the formula of its text.
use Rattle.std.proofs.Common.{◌≡◌, ℕ, ◌≤◌, ◌↔◌, Bool, true, false, IsTrue, List, [], ◌∷◌, ◌++◌, length, length-append, None, Some, IfSome, Ok, Err, refl, sym, ap, ◌∙◌, subst, arith}
use Rattle.std.specs.Option.{option_map, option_or}
use Rattle.std.specs.List.{AllZip}
use Rattle.std.proofs.lemmas.Bool.{false≢true}
use Rattle.wal_outside.specs.Files.{Files}
use Rattle.wal_outside.specs.Views.{StoreView}
use Rattle.wal_outside.specs.declared.folder.Folder.{Folder}
use Rattle.command_head.specs.Grammar.{DerivesNamed}
use Rattle.command_head.specs.Heads.{NamedHead}
use Rattle.command_head.specs.Parts.{parts_of, texts_of}
use Rattle.macro_expand.specs.Expansion.{expansion}
use Rattle.macro_expand.proofs.PlainTexts.{text_keeps}
use Rattle.macro_loading.specs.MacroFiles.{macros_of}
use Rattle.text_grammar.specs.Spots.{tokens}
use Rattle.dfa_loading.specs.Headers.{headers_of}
use Rattle.formula_parse.specs.Trees.{Formula}
use Rattle.formula_parse.specs.Grammar.{Reads}
use Rattle.formula_parse.specs.Spots.{spots}
use Rattle.formula_truth.specs.Assignments.{Assignment}
use Rattle.formula_truth.specs.Truth.{Meanings, Holds}
use Rattle.formula_resolve.specs.Headers.{Headers}
use Rattle.formula_resolve.specs.Mentions.{mentions}
use Rattle.formula_resolve.specs.Arity.{first_misuse}
use Rattle.formula_resolve.specs.FreeVariables.{free_variables}
use Rattle.formula_resolve.specs.Occurrences.{all_occurrences}
use Rattle.formula_resolve.specs.Clashes.{first_clash}
use Rattle.formula_resolve.specs.Directions.{first_conflict}
use Rattle.formula_resolve.specs.Resolving.{direction_fault, fault_of}
use Rattle.formula_resolve.specs.declared.variable.Variable as resolved
use Rattle.definitions.specs.Trees.{Variable, Bindings, Ledger, custom_of}
use Rattle.definitions.specs.FormulaTexts.{HasVerdict}
use Rattle.definitions.specs.TreeMeanings.{meanings_in}
use Rattle.system_files.specs.SystemFiles.{Custom}
use Rattle.command_parts.specs.Accepting.{Success, Answer}
use Rattle.command_parts.specs.Lines.{success_text, accepted_text}
use Rattle.session_cli.specs.Commands.{Commands, Gives}
use Rattle.session_cli.specs.Outcomes.{checks_of}
use Rattle.formula_commands.specs.FormulaOutcomes.{IsVariable, bindings_now, formula_checks}
use Rattle.session_cli.specs.SessionLanguage.{IsAnswer}
use Rattle.headlines.specs.Sentences.{HasInQuotes, IsReadAs, IsFormulaCommand, IsVerdict, truth_line}
use Rattle.headlines.specs.Verdicts.{IsOfFormula, meanings_now, SaysTruth, Verdicts}
use Rattle.headlines.specs.PlainVerdicts.{no_meanings, IsPlain, IsPlainVerdict, SaysPlainTruth, PlainVerdicts}
use Rattle.headlines.proofs.AcceptedCommands.{IsFormulaMade, formula_made}
use Rattle.headlines.proofs.QuotedTexts.{in_quotes}
use Rattle.headlines.proofs.ClosedFormulas.{head_of_none, closed_moves}
use Rattle.headlines.proofs.PlainTrees.{IsPlainFormula, plain_formula}
use Rattle.headlines.proofs.PlainTruth.{plain_moved}
use Rattle.headlines.proofs.VerdictLines.{printed_verdict}

-- a formula that is resolved misuses no name
well_used : (h : Headers) (f : Formula) → fault_of h f ≡ None → first_misuse h (mentions f) ≡ None
well_used h f none = head_of_none (first_misuse h (mentions f)) (option_or (first_clash (all_occurrences h f)) (option_map direction_fault (first_conflict h f))) none

no_variable : (custom : Custom) (found : List resolved.Variable) → AllZip (IsVariable custom) found [] → found ≡ []
no_variable custom [] all = refl
no_variable custom (v ∷ vs) all = absurd all

-- the verdict on a formula without free variables
closed_verdict : (h : Headers) (f : Formula) (m : Meanings) (zero_at : Assignment) (truth : Bool) → first_misuse h (mentions f) ≡ None → free_variables (all_occurrences h f) ≡ [] → (IsTrue truth ↔ Holds m f zero_at) → IsVerdict truth m f
closed_verdict h f m zero_at true used none is = λ a. closed_moves h f used none m zero_at a (is.0 refl)
closed_verdict h f m zero_at false used none is = λ a holds. false≢true (is.1 (closed_moves h f used none m a zero_at holds))

pub says_verdict : (custom : Custom) (h : Headers) (f : Formula) (bindings : Bindings) (variables : List Variable) (truth : Bool) → fault_of h f ≡ None → AllZip (IsVariable custom) (free_variables (all_occurrences h f)) variables
    → HasVerdict custom bindings variables f (Some truth) → IsVerdict truth (meanings_in custom bindings) f
says_verdict custom h f bindings [] truth resolved over is = closed_verdict h f (meanings_in custom bindings) (λ name. 0) truth (well_used h f resolved) (no_variable custom (free_variables (all_occurrences h f)) over) is
says_verdict custom h f bindings (v ∷ variables) truth resolved over is = absurd is

pub read_as : (text : List ℕ) (f : Formula) → Reads (tokens (spots text)) f → IsReadAs text f
read_as text f read = record { written = read.text; tokens_are = read.derives.derived_is; takes_all = read.derives.takes_all; tree_is = read.tree_is }

-- the command is of the formula that its expanded text is read as
pub is_of_formula : (files : Files) (command word expanded : List ℕ) (head : NamedHead) (formula : Formula) → IsFormulaCommand command → DerivesNamed word (texts_of (parts_of command)) head → expansion (macros_of files) head.body ≡ Ok expanded
    → Reads (tokens (spots expanded)) formula → IsOfFormula files command formula
is_of_formula files command word expanded head formula is_word derived expands read = record {
  word = is_word;
  body = head.body;
  in_quotes = in_quotes word command head derived;
  text = expanded;
  expanded = expands;
  read = read_as expanded formula read;
}

-- what the verdict of an accepted formula says
pub formula_says : (limit : ℕ) (ledger : Ledger) (text : List ℕ) (success : Success) (truth : Bool) → success.verdict ≡ Some truth → (word : List ℕ) (folder : Folder) → IsFormulaCommand text
    → (formula_checks word folder limit ledger text).answers (Ok success) → SaysTruth ledger text truth
formula_says limit ledger text success truth said word folder is_word (head, h, (expanded, (files, stores, expands), (formula, f, (tables, t, (admitted, a, (resolved, r, (lines, b, (variables, v, (verdict, d, (is, fits)))))))))) =
    let found : verdict ≡ Some truth = sym (ap (λ (s : Success). s.verdict) is) ∙ said in
    record {
      files = files;
      stored = stores;
      formula = formula;
      is_of = is_of_formula files text word expanded head formula is_word h expands f;
      verdict = says_verdict (custom_of ledger) (headers_of tables) formula (bindings_now ledger formula) variables truth r v (subst (HasVerdict (custom_of ledger) (bindings_now ledger formula) variables formula) found d);
    }

-- what is in the quotes of a text is not longer
body_short : (text body : List ℕ) → (quotes : HasInQuotes text body) → length text ≤ 65536 → length body ≤ 65536
body_short text body quotes short = omega (arith, short, ap length quotes.split, length-append quotes.before (34 ∷ (body ++ 34 ∷ quotes.after)), length-append body (34 ∷ quotes.after))

-- the verdict on a formula that names nothing is the same whatever names mean
verdict_moved : (truth : Bool) (m n : Meanings) (f : Formula) → IsPlainFormula f → IsVerdict truth m f → IsVerdict truth n f
verdict_moved true m n f plain verdict = λ a. plain_moved m n f plain a (verdict a)
verdict_moved false m n f plain verdict = λ a holds. verdict a (plain_moved n m f plain a holds)

-- the body of a command without names is the text that is read
plain_verdict : (ledger : Ledger) (text : List ℕ) (truth : Bool) → length text ≤ 65536 → (says : SaysTruth ledger text truth) → IsPlain says.is_of.body → IsPlainVerdict says.is_of.body truth
plain_verdict ledger text truth short says is =
    let body : List ℕ = says.is_of.body in
    let kept : Ok says.is_of.text ≡ Ok body = sym says.is_of.expanded ∙ text_keeps (macros_of says.files) body is.no_macro (body_short text body says.is_of.in_quotes short) in
    let same : says.is_of.text ≡ body = cc in
    let read : IsReadAs body says.formula = subst (λ (l : List ℕ). IsReadAs l says.formula) same says.is_of.read in
    record {
      formula = says.formula;
      read = read;
      verdict = verdict_moved truth (meanings_now ledger says.formula) no_meanings says.formula (plain_formula body says.formula read is.no_automaton is.no_word) says.verdict;
    }

-- what a verdict says of a sentence without names
pub plain_says : (ledger : Ledger) (text : List ℕ) (truth : Bool) → length text ≤ 65536 → SaysTruth ledger text truth → SaysPlainTruth text truth
plain_says ledger text truth short says = record { body = says.is_of.body; in_quotes = says.is_of.in_quotes; says = plain_verdict ledger text truth short says }

-- an `eval` or a `def` that a session accepted and that printed a verdict
record IsSaid (ledger : Ledger) (old : StoreView) (text : List ℕ) (truth : Bool) : Type 0 where
  known : Ledger
  known_is : IfSome old.files (λ (files : Files). known ≡ ledger)
  short : length text ≤ 65536
  says : SaysTruth known text truth

said : (limit : ℕ) (ledger : Ledger) (old new : StoreView) (text : List ℕ) (shown : Bool) (lines : List ℕ) (truth : Bool) → IsFormulaCommand text → Commands limit ledger old text shown (Ok (lines ++ truth_line truth)) new → IsSaid ledger old text truth
said limit ledger old new text shown lines truth is_word c = by c.answer c.gives c.answered
  where
    by : (answer : Answer) → Gives shown (Ok (lines ++ truth_line truth)) answer → IsAnswer (checks_of limit c.known text) answer → IsSaid ledger old text truth
    by (Ok accepted) gives (done, short, answered) =
        let m : IsFormulaMade limit c.known text accepted = formula_made limit c.known text accepted is_word answered in
        let line : lines ++ truth_line truth ≡ success_text shown m.success = gives ∙ ap (accepted_text shown) m.is in
        record {
          known = c.known;
          known_is = c.known_is;
          short = short;
          says = formula_says limit c.known text m.success truth (printed_verdict shown m.success.lines m.success.verdict lines truth line) m.word m.folder is_word m.made;
        }
    by (Err fault) gives answered = absurd gives

pub verdicts_say : Verdicts
verdicts_say limit ledger old new text shown lines truth is_word c = let s : IsSaid ledger old text truth = said limit ledger old new text shown lines truth is_word c in (s.known, s.known_is, s.says)

pub plain_verdicts_say : PlainVerdicts
plain_verdicts_say limit ledger old new text shown lines truth is_word c = let s : IsSaid ledger old text truth = said limit ledger old new text shown lines truth is_word c in plain_says s.known text truth s.short s.says
