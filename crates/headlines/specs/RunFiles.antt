-- What commands of a run store and print.
use Rattle.std.specs.Prelude.{◌≡◌, ◌⊎◌, ℕ, Bool, List, Some, codes}
use Rattle.wal_outside.specs.Files.{Files}
use Rattle.wal_outside.specs.Views.{SourceView, SinkView, StoreView}
use Rattle.command_head.specs.Parts.{first_word_of}
use Rattle.script_cut.specs.Cuts.{start}
use Rattle.script_runs.specs.Ends.{HasRun}
use Rattle.script_runs.specs.Printed.{is_shown}
use Rattle.script_runs.specs.declared.status.Status.{Status}
use Rattle.language_steps.specs.declared.op.LanguageOp.{LanguageOp}
use Rattle.definitions.specs.Trees.{Ledger, ledger_of}
use Rattle.language_commands.specs.LanguageOutcomes.{op_word}
use Rattle.session_cli.specs.SessionLanguage.{session_language}
use Rattle.headlines.specs.Sentences.{IsFormulaCommand}
use Rattle.headlines.specs.Languages.{IsLanguageMade}
use Rattle.headlines.specs.Listings.{IsCounted, IsTested}
use Rattle.headlines.specs.OwnSystems.{UsesSystems}
use Rattle.headlines.specs.RunVerdicts.{IsNext, IsRefused}
use Rattle.headlines.specs.Runs.{Answer, Answers, AreIn, ArePrinted, EachBy}
use Rattle.headlines.specs.Solutions.{IsDefined}
use Rattle.headlines.specs.Words.{IsCombined, IsConverted, IsImaged, IsPromoted, IsTransduced}

-- what there is at a place of a run: the ledger, and the store
pub record Known : Type 0 where
  pub ledger : Ledger
  pub store : StoreView

-- what a command does, by the ledger and the files that there are: with its text, whether its steps are shown, what is printed of it, and the store after it
abbrev pub Did : Type 1
Did = Ledger → Files → List ℕ → Bool → List ℕ → StoreView → Type 0

-- the item is no such command, or is refused, or it did this
abbrev pub HasDone : (List ℕ → Type 0) → Did → Known → Answer → Known → Type 0
HasDone IsCommand Does now answer next =
    IsCommand answer.item.text → IsRefused answer.line ⊎ ((files : Files) × (now.store.files ≡ Some files) × Does now.ledger files answer.item.text (is_shown answer.item.ended) answer.line next.store)

-- a command of this word made this
abbrev pub HasMade : List ℕ → (Ledger → Files → List ℕ → StoreView → Type 0) → Known → Answer → Known → Type 0
HasMade word Made = HasDone (λ text. first_word_of text ≡ word) (λ ledger files text shown printed new. Made ledger files text new)

-- after a command the ledger is as before, or has one more entry, which the command made; and this holds of the command
pub record IsDone (Does : Known → Answer → Known → Type 0) (now : Known) (answer : Answer) (next : Known) : Type 0 where
  pub changed : IsNext now.ledger next.ledger
  pub does : Does now answer next

-- The items of a script were answered, and this holds of each, item by item, from the files at the beginning on.
pub record AnswersDo (Does : Known → Answer → Known → Type 0) (script : List ℕ) (files : Files) (old new : StoreView) (held now : SinkView) : Type 0 where
  pub answers : Answers
  pub cut : AreIn (start script) answers
  pub printed : ArePrinted answers held now
  pub last : Ledger
  pub done : EachBy (IsDone Does) (record { ledger = ledger_of files; store = old }) answers (record { ledger = last; store = new })

-- what follows of the script, the files at the beginning, the store before and after a run, and the sink before and after it
abbrev pub OfRun : Type 1
OfRun = List ℕ → Files → StoreView → StoreView → SinkView → SinkView → Type 0

-- in each run over a script, where the store reports its files
abbrev pub InRuns : OfRun → Type 0
InRuns Follows = (limit : ℕ) (stop : Bool) (from to : SourceView) (old new : StoreView) (held now : SinkView) (state : Status) (script : List ℕ) (files : Files)
    → HasRun (session_language limit stop) from to old new held now state → from.left ≡ Some script → old.files ≡ Some files → Follows script files old new held now

-- each `def` stores a file of the solutions of its formula
abbrev pub StoresSolutions : OfRun
StoresSolutions = AnswersDo (HasMade (codes "def") IsDefined)

abbrev pub RunSolutions : Type 0
RunSolutions = InRuns StoresSolutions

-- what the commands store that make words
pub record HasMadeWord (now : Known) (answer : Answer) (next : Known) : Type 0 where
  pub promoted : HasMade (codes "promote") IsPromoted now answer next
  pub imaged : HasMade (codes "image") IsImaged now answer next
  pub combined : HasMade (codes "combine") IsCombined now answer next
  pub transduced : HasMade (codes "transduce") IsTransduced now answer next
  pub converted : HasMade (codes "convert") IsConverted now answer next

abbrev pub StoresWords : OfRun
StoresWords = AnswersDo HasMadeWord

abbrev pub RunWords : Type 0
RunWords = InRuns StoresWords

-- what those store that make languages
abbrev pub HasMadeLanguage : Known → Answer → Known → Type 0
HasMadeLanguage now answer next = (op : LanguageOp) → HasMade (op_word op) (IsLanguageMade op) now answer next

abbrev pub StoresLanguages : OfRun
StoresLanguages = AnswersDo HasMadeLanguage

abbrev pub RunLanguages : Type 0
RunLanguages = InRuns StoresLanguages

-- what `test` and `inf` print
pub record HasListed (now : Known) (answer : Answer) (next : Known) : Type 0 where
  pub tested : HasDone (λ text. first_word_of text ≡ codes "test") (λ ledger files text shown printed new. IsTested ledger text shown printed) now answer next
  pub counted : HasDone (λ text. first_word_of text ≡ codes "inf") (λ ledger files text shown printed new. IsCounted ledger text shown printed) now answer next

abbrev pub PrintsLists : OfRun
PrintsLists = AnswersDo HasListed

abbrev pub RunListings : Type 0
RunListings = InRuns PrintsLists

-- which systems an `eval` and a `def` use
abbrev pub UsesOwnSystems : OfRun
UsesOwnSystems = AnswersDo (HasDone IsFormulaCommand (λ ledger files text shown printed new. UsesSystems ledger text))

abbrev pub RunSystems : Type 0
RunSystems = InRuns UsesOwnSystems
