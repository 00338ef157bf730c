-- What the verdicts of a run say.
use Rattle.std.specs.Prelude.{◌≡◌, ◌⊎◌, ℕ, Bool, List, [], ◌++◌, Option, None, Some, codes}
use Rattle.std.specs.List.{AllByRecursion, flat_map}
use Rattle.wal_outside.specs.Files.{Files}
use Rattle.wal_outside.specs.Views.{SourceView, SinkView, StoreView}
use Rattle.script_cut.specs.Cuts.{start}
use Rattle.script_runs.specs.Ends.{HasRun}
use Rattle.script_runs.specs.declared.status.Status.{Status}
use Rattle.wal_outside.specs.declared.folder.Folder.{Folder}
use Rattle.definitions.specs.Trees.{Entry, Ledger, ledger_of, entered}
use Rattle.session_cli.specs.SessionLanguage.{session_language}
use Rattle.headlines.specs.Sentences.{HasNo, IsFormulaCommand, truth_line}
use Rattle.headlines.specs.Verdicts.{SaysTruth}
use Rattle.headlines.specs.PlainVerdicts.{SaysPlainTruth}
use Rattle.headlines.specs.Runs.{Answer, Answers, AreIn, ArePrinted, Each, EachBy}

-- the line of a step, whose number, kind, width and size are this, and what is printed of a verdict
abbrev pub step_text : List ℕ → List ℕ
step_text step = codes "step " ++ (step ++ codes "\n")

abbrev pub verdict_text : Option Bool → List ℕ
verdict_text None = []
verdict_text (Some truth) = truth_line truth

-- what is printed of an accepted command: the lines of its steps, or none, and then its verdict, if it has one
pub record IsAccepted (line : List ℕ) (verdict : Option Bool) : Type 0 where
  pub steps : List (List ℕ)
  pub single : AllByRecursion (HasNo 10) steps
  pub line_is : line ≡ flat_map step_text steps ++ verdict_text verdict

-- what is printed of a refused one
abbrev pub IsRefused : List ℕ → Type 0
IsRefused line = (rest : List ℕ) × (line ≡ codes "error " ++ rest)

-- An `eval` or a `def` is refused, or accepted with no verdict or with one that says this of its text.
abbrev pub Says : (List ℕ → Bool → Type 0) → Answer → Type 0
Says Means answer = IsFormulaCommand answer.item.text → IsRefused answer.line ⊎ ((verdict : Option Bool) × IsAccepted answer.line verdict × ((truth : Bool) → verdict ≡ Some truth → Means answer.item.text truth))

-- after a command the ledger is as before, or has one more entry, which the command made
abbrev pub IsNext : Ledger → Ledger → Type 0
IsNext now next = (next ≡ now) ⊎ ((folder : Folder) × (name : List ℕ) × (entry : Entry) × (next ≡ entered now folder name entry))

-- a verdict says truth of the text of its command, where names mean what the ledger has of them
pub record IsTrueBy (now : Ledger) (answer : Answer) (next : Ledger) : Type 0 where
  pub changed : IsNext now next
  pub says : Says (SaysTruth now) answer

-- The items of a script were answered, and what was printed of them, item by item, says truth.
pub record AnswersPlainly (script : List ℕ) (held now : SinkView) : Type 0 where
  pub answers : Answers
  pub cut : AreIn (start script) answers
  pub printed : ArePrinted answers held now
  pub verdicts : Each (Says SaysPlainTruth) answers

pub record AnswersTruly (script : List ℕ) (files : Files) (held now : SinkView) : Type 0 where
  pub answers : Answers
  pub cut : AreIn (start script) answers
  pub printed : ArePrinted answers held now
  pub last : Ledger
  pub verdicts : EachBy IsTrueBy (ledger_of files) answers last

-- In a run over a script each verdict on a sentence without names says truth of its command's text, and is in what was printed at the place
-- of that command. The script is what the source gave, with what it has left.
abbrev pub PlainRunVerdicts : Type 0
PlainRunVerdicts = (limit : ℕ) (stop : Bool) (from to : SourceView) (old new : StoreView) (held now : SinkView) (state : Status) (script : List ℕ)
    → HasRun (session_language limit stop) from to old new held now state → from.left ≡ Some script → AnswersPlainly script held now

-- The same of each verdict, where the store reports its files. Names mean what commands before made of them, and else what the files had.
abbrev pub RunVerdicts : Type 0
RunVerdicts = (limit : ℕ) (stop : Bool) (from to : SourceView) (old new : StoreView) (held now : SinkView) (state : Status) (script : List ℕ) (files : Files)
    → HasRun (session_language limit stop) from to old new held now state → from.left ≡ Some script → old.files ≡ Some files → AnswersTruly script files held now
