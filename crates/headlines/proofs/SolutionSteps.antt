-- The text of a formula with free variables, read as a file.
use Rattle.std.proofs.Common.{◌≡◌, ◌↔◌, ℕ, ◌<◌, Bool, List, [], ◌∷◌, length, None, Some, Ok, codes, sym, ap, ◌∙◌, subst, inl, inr, ◌⊎◌, arith, IsTrue}
use Rattle.std.specs.List.{AllZip}
use Rattle.wal_outside.specs.Files.{Files, put}
use Rattle.wal_outside.specs.Views.{StoreView}
use Rattle.wal_outside.specs.declared.folder.Folder.TheVariants.{Automata}
use Rattle.command_head.specs.Parts.{first_word_of}
use Rattle.digit_tuple.specs.Deterministic.{accepts_of}
use Rattle.digit_tuple.specs.declared.header.Header.{Header}
use Rattle.dfa_reading.specs.Branching.{IsLetterOfDigits}
use Rattle.dfa_reading.specs.Listed.{Listed, ListedAccepts}
use Rattle.dfa_reading.specs.Reading.{relation_of}
use Rattle.dfa_reading.proofs.TupleWords.{word_of_tuples}
use Rattle.dfa_text.specs.Lists.{automaton_listed}
use Rattle.dfa_text.proofs.ListedPaths.{accepts_listed}
use Rattle.dfa_text.proofs.PrintedRelations.{text_lists}
use Rattle.numeration.specs.Representation.{sizes_of}
use Rattle.numeration.specs.Systems.{System}
use Rattle.formula_parse.specs.Trees.{Formula}
use Rattle.formula_resolve.specs.FreeVariables.{free_variables}
use Rattle.formula_resolve.specs.Occurrences.{all_occurrences}
use Rattle.formula_resolve.specs.FirstMentions.{first_files}
use Rattle.formula_resolve.specs.Mentions.{mentions}
use Rattle.formula_resolve.specs.Resolving.{fault_of}
use Rattle.dfa_loading.specs.declared.loaded.Loaded.{Loaded}
use Rattle.dfa_loading.specs.Headers.{headers_of}
use Rattle.definitions.specs.FormulaTexts.{IsSolvedBy, named_systems, IsSolutionText, IsFormulaText}
use Rattle.definitions.specs.Texts.{HasText, Stores}
use Rattle.definitions.specs.Tracks.{OverSystems, systems_of, header_of}
use Rattle.definitions.specs.Trees.{Ledger, Variable, Bindings, custom_of}
use Rattle.definitions.proofs.FileNames.{file_systems}
use Rattle.definitions.proofs.TextMeanings.{system_sizes}
use Rattle.system_files.specs.SystemFiles.{Custom}
use Rattle.command_parts.specs.Accepting.{Success}
use Rattle.command_parts.specs.Checks.{Check}
use Rattle.session_cli.specs.Commands.{Commands}
use Rattle.command_parts.specs.FileChecks.{FilesAnswers}
use Rattle.formula_commands.specs.FormulaOutcomes.{IsVariable, bindings_now, formula_checks}
use Rattle.session_cli.proofs.CommandsMade.{def_made}
use Rattle.headlines.specs.Verdicts.{IsOfFormula}
use Rattle.headlines.specs.Solutions.{AcceptsExactly, IsSolutionFile, IsTruthFile, IsDefined}
use Rattle.headlines.proofs.AcceptedCommands.{IsMade, is_made}
use Rattle.headlines.proofs.VerdictSteps.{is_of_formula, says_verdict}

-- the text of the solutions, read as a file
module _ (custom : Custom) (bindings : Bindings) (variables : List Variable) (formula : Formula) (text : List ℕ) (some : 0 < length (named_systems variables)) (is : IsSolutionText custom bindings variables formula text) where
  abbrev systems : List System
  systems = systems_of (named_systems variables)

  abbrev header : Header
  header = header_of (OverSystems is.direction (named_systems variables))

  abbrev listed : Listed
  listed = automaton_listed header is.automaton

  path : (tuples : List (List ℕ)) (word : List ℕ) → AllZip (IsLetterOfDigits (sizes_of systems)) tuples word → ListedAccepts is.automaton.sizes listed tuples ↔ IsTrue (accepts_of is.automaton word)
  path tuples word letters = accepts_listed header is.automaton is.canonical.table tuples word (subst (λ (sizes : List ℕ). AllZip (IsLetterOfDigits sizes) tuples word) (sym is.holds.sizes) letters)

  solution_accepts : AcceptsExactly is.direction systems (IsSolvedBy custom bindings variables formula) text
  solution_accepts = record {
    listed = listed;
    lists = ap relation_of is.text_is ∙ text_lists header is.automaton (record { tracks = file_systems custom is.direction (named_systems variables) some is.named; sizes = is.holds.sizes ∙ sym (system_sizes is.direction (named_systems variables)); table = is.canonical.table });
    accepts = λ tuples word letters. (
      (λ accepts. (is.holds.accepts word (word_of_tuples (sizes_of systems) tuples word letters)).0 ((path tuples word letters).0 (subst (λ (sizes : List ℕ). ListedAccepts sizes listed tuples) (sym is.holds.sizes) accepts))),
      (λ found. subst (λ (sizes : List ℕ). ListedAccepts sizes listed tuples) is.holds.sizes ((path tuples word letters).1 ((is.holds.accepts word (word_of_tuples (sizes_of systems) tuples word letters)).1 found))),
    );
  }

-- what the text of a formula means
module _ (known : Ledger) (command : List ℕ) (own : Files) (stores : Stores known own) (formula : Formula) (is_of : IsOfFormula own command formula) (tables : List Loaded) (loaded : FilesAnswers known (first_files (mentions formula)) (Ok tables))
    (resolved : fault_of (headers_of tables) formula ≡ None) (bytes : List ℕ) where
  text_means : (variables : List Variable) → AllZip (IsVariable (custom_of known)) (free_variables (all_occurrences (headers_of tables) formula)) variables → IsFormulaText (custom_of known) (bindings_now known formula) variables formula bytes
      → IsSolutionFile known command bytes ⊎ IsTruthFile known command bytes
  text_means [] v (truth, has, text) = inr (record {
    truth = truth;
    bytes_are = text;
    says = record { files = own; stored = stores; formula = formula; is_of = is_of; verdict = says_verdict (custom_of known) (headers_of tables) formula (bindings_now known formula) [] truth resolved v has };
  })
  text_means (w ∷ ws) v solution = inl (record {
    files = own;
    stored = stores;
    formula = formula;
    is_of = is_of;
    variables = w ∷ ws;
    some = λ none. cc;
    are_free = record { tables = tables; loaded = loaded; are = v };
    direction = solution.direction;
    read = solution.read;
    accepts = solution_accepts (custom_of known) (bindings_now known formula) (w ∷ ws) formula bytes (omega arith) solution;
  })

-- what an accepted `def` of a formula stores
defined : (limit : ℕ) (known : Ledger) (files : Files) (command : List ℕ) (new : StoreView) (success : Success) (bytes : List ℕ) → first_word_of command ≡ codes "def" → (formula_checks (codes "def") Automata limit known command).answers (Ok success)
    → HasText (custom_of known) success.entry bytes → new.files ≡ Some (put files success.folder success.name bytes) → IsDefined known files command new
defined limit known files command new success bytes is_word (head, h, (expanded, (own, stores, expands), (formula, f, (tables, t, (admitted, a, (resolved, r, (lines, b, (variables, v, (verdict, d, (is, fits)))))))))) text put_there = record {
  head = head;
  derived = h;
  bytes = bytes;
  stored = subst (λ (s : Success). new.files ≡ Some (put files s.folder s.name bytes)) is put_there;
  means = text_means known command own stores formula (is_of_formula own command (codes "def") expanded head formula (inr is_word) h expands f) tables t r bytes variables v (subst (λ (s : Success). HasText (custom_of known) s.entry bytes) is text);
}

pub solutions : (limit : ℕ) (ledger : Ledger) (files : Files) (old new : StoreView) (command : List ℕ) (shown : Bool) (printed : List ℕ)
    → first_word_of command ≡ codes "def" → old.files ≡ Some files → Commands limit ledger old command shown (Ok printed) new → IsDefined ledger files command new
solutions limit ledger files old new command shown printed is reported c =
    let checks : Ledger → Check Success = λ known. formula_checks (codes "def") Automata limit known command in
    let m : IsMade (checks ledger) ledger files new = is_made limit command checks (λ known accepted answered. def_made limit known command accepted is answered) ledger files old new shown printed reported c in
    defined limit ledger files command new m.success m.bytes is m.made m.text m.stored
