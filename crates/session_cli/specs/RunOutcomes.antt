-- What the commands of a script do: those of a session, and `load`, `exit` and `quit`.
use Rattle.std.specs.Prelude.{◌≡◌, ◌≢◌, ◌⊎◌, ℕ, ◌<◌, ◌≤◌, List, length, Vec, Option, None, Some, Result, Ok, Err, MatchResult, ⊤, codes}
use Rattle.std.specs.Global.{Global}
use Rattle.wal_outside.specs.Files.{Files}
use Rattle.wal_outside.specs.declared.folder.Folder.TheVariants.{Commands}
use Rattle.command_head.specs.Parts.{first_word_of}
use Rattle.command_head.specs.Grammar.{DerivesLoad, DerivesAlone}
use Rattle.dfa_loading.specs.declared.fault.FileFlaw.TheVariants as flaws
use Rattle.script_runs.specs.Languages.{Deed, Enters, Loads, Ends}
use Rattle.command_parts.specs.declared.file_refusal.FileRefusal.TheVariants as file_refusals
use Rattle.command_parts.specs.declared.refusal.Refusal.{Refusal}
use Rattle.command_parts.specs.declared.refusal.Refusal.TheVariants as refusals
use Rattle.command_parts.specs.declared.fault.Fault.{Fault}
use Rattle.command_parts.specs.declared.fault.Fault.TheVariants as faults
use Rattle.session_cli.specs.declared.run_word.RunWord.{RunWord}
use Rattle.session_cli.specs.declared.run_word.RunWord.TheVariants as words
use Rattle.command_parts.specs.Checks.{Check, Pure, Passing, Then, Fails}
use Rattle.definitions.specs.Texts.{Stores}
use Rattle.definitions.specs.Trees.{Ledger}
use Rattle.command_parts.specs.Accepting.{Accepted}
use Rattle.command_parts.specs.HeadAnswers.{HeadAnswers}
use Rattle.session_cli.specs.Outcomes.{LengthAnswers, after_length}

-- the word with which a command begins that makes nothing
abbrev pub run_word_text : RunWord → List ℕ
run_word_text words.Load = codes "load"
run_word_text words.Exit = codes "exit"
run_word_text words.Quit = codes "quit"

-- the first word is one of these, or none of them
abbrev pub RunWordAnswers : List ℕ → Result (Option RunWord) Refusal → Type 0
RunWordAnswers text result =
    ((word : RunWord) × (first_word_of text ≡ run_word_text word) × (result ≡ Ok (Some word)))
    ⊎ (((word : RunWord) → first_word_of text ≢ run_word_text word) × (result ≡ Ok None))

-- a load of this name is inside fewer than eight others
abbrev pub DepthAnswers : ℕ → List ℕ → Result (Unit {0}) Refusal → Type 0
DepthAnswers depth name result = ((depth < 8) × (result ≡ Ok tt)) ⊎ ((8 ≤ depth) × (result ≡ Err (refusals.File (file_refusals.LoadDepth name))))

-- the text of a file of commands, which has at most 16,777,216 bytes; or that it is not there, or too long
abbrev pub TextIn : List ℕ → Option (List ℕ) → Result (List ℕ) Refusal → Type 0
TextIn name None result = result ≡ Err (refusals.File (file_refusals.Unknown Commands name))
TextIn name (Some text) result =
    ((length text ≤ 16777216) × (result ≡ Ok text))
    ⊎ ((16777216 < length text) × (result ≡ Err (refusals.File (file_refusals.File Commands name flaws.TooLong))))

-- by the texts of the ledger
abbrev pub text_read : Ledger → List ℕ → Check (List ℕ)
text_read ledger name = record { answers = λ result. (files : Files) × Stores ledger files × TextIn name (files Commands name) result; reads = λ place. (place.0 ≡ Commands) × (place.1 ≡ name) }

-- the checks of a `load`: its head, the loads around it, and its file
abbrev pub load_checks : ℕ → Ledger → List ℕ → Check (List ℕ)
load_checks depth ledger text =
    Then (Pure (HeadAnswers DerivesLoad text)) (λ name.
    Then (Pure (DepthAnswers depth name)) (λ few. text_read ledger name))

-- the checks of a command by its first word; a step may have `limit` values
abbrev pub checks_by_word : Option RunWord → ℕ → ℕ → Ledger → List ℕ → Check (Deed Accepted)
checks_by_word None limit depth ledger text = Then (after_length limit ledger text) (λ accepted. Passing (λ deed. deed ≡ Enters accepted))
checks_by_word (Some words.Load) limit depth ledger text = Then (load_checks depth ledger text) (λ loaded. Passing (λ deed. deed ≡ Loads loaded))
checks_by_word (Some words.Exit) limit depth ledger text = Then (Pure (HeadAnswers (DerivesAlone (codes "exit")) text)) (λ done. Passing (λ deed. deed ≡ Ends))
checks_by_word (Some words.Quit) limit depth ledger text = Then (Pure (HeadAnswers (DerivesAlone (codes "quit")) text)) (λ done. Passing (λ deed. deed ≡ Ends))

-- all checks of a command of a script that has its terminator and is inside so many loads
abbrev pub run_checks : ℕ → ℕ → Ledger → List ℕ → Check (Deed Accepted)
run_checks limit depth ledger text =
    Then (Pure (LengthAnswers text)) (λ short.
    Then (Pure (RunWordAnswers text)) (λ word. checks_by_word word limit depth ledger text))

-- what a `load` gives is its file's text, or it is refused
abbrev pub LoadsText : ℕ → Ledger → List ℕ → Result (Vec ℕ Global) Fault → Type 0
LoadsText depth ledger text result = MatchResult result (λ loaded. (load_checks depth ledger text).answers (Ok loaded.items)) (Fails (load_checks depth ledger text))

-- what was read of a file of commands
abbrev pub IsLoadedText : List ℕ → Files → Result (Vec ℕ Global) Fault → Type 0
IsLoadedText name files (Ok text) = TextIn name (files Commands name) (Ok text.items)
IsLoadedText name files (Err (faults.Refused refusal)) = TextIn name (files Commands name) (Err refusal)
IsLoadedText name files (Err (faults.Store folder under)) = (folder ≡ Commands) × (under ≡ name)
IsLoadedText name files (Err faults.Memory) = ⊤
