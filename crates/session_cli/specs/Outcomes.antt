-- What a command does: the entry that it makes or what it says, or the fault by which it is refused.
use Rattle.std.specs.Prelude.{◌≡◌, ◌≢◌, ℕ, ◌<◌, ◌≤◌, List, length, Result, Ok, Err, codes}
use Rattle.wal_outside.specs.declared.folder.Folder.TheVariants.{Automata, Results}
use Rattle.command_head.specs.Parts.{first_word_of}
use Rattle.command_parts.specs.declared.text_refusal.TextRefusal.TheVariants as text_refusals
use Rattle.command_parts.specs.declared.refusal.Refusal.{Refusal}
use Rattle.command_parts.specs.declared.refusal.Refusal.TheVariants as refusals
use Rattle.session_cli.specs.declared.actions.CommandWord.{CommandWord}
use Rattle.session_cli.specs.declared.actions.CommandWord.TheVariants as words
use Rattle.command_parts.specs.Checks.{Check, Pure, Then}
use Rattle.definitions.specs.Trees.{Ledger}
use Rattle.command_parts.specs.Accepting.{Accepted, saying, storing}
use Rattle.language_commands.specs.RegOutcomes.{reg_checks}
use Rattle.formula_commands.specs.FormulaOutcomes.{formula_checks}
use Rattle.session_cli.specs.TextOutcomes.{macro_checks, morphism_checks}
use Rattle.word_commands.specs.PromoteOutcomes.{promote_checks}
use Rattle.word_commands.specs.CombineOutcomes.{combine_checks}
use Rattle.word_commands.specs.ImageOutcomes.{image_checks}
use Rattle.language_commands.specs.LanguageOutcomes.{language_checks, op_word}
use Rattle.word_commands.specs.TransduceOutcomes.{transduce_checks}
use Rattle.listing_commands.specs.ListingOutcomes.{inf_checks, test_checks}
use Rattle.word_commands.specs.ConvertOutcomes.{convert_checks}

-- a command may have 65,536 bytes
abbrev pub IsShort : List ℕ → Type 0
IsShort text = length text ≤ 65536

abbrev pub LengthAnswers : List ℕ → Result (Unit {0}) Refusal → Type 0
LengthAnswers text (Ok short) = IsShort text
LengthAnswers text (Err refusal) = (refusal ≡ refusals.Text (text_refusals.Long 65536)) × (65536 < length text)

-- the word with which a command begins
abbrev pub word_text : CommandWord → List ℕ
word_text words.Reg = codes "reg"
word_text words.Eval = codes "eval"
word_text words.Def = codes "def"
word_text words.Macro = codes "macro"
word_text words.Morphism = codes "morphism"
word_text words.Promote = codes "promote"
word_text words.Combine = codes "combine"
word_text words.Image = codes "image"
word_text (words.Language op) = op_word op
word_text words.Transduce = codes "transduce"
word_text words.Test = codes "test"
word_text words.Inf = codes "inf"
word_text words.Convert = codes "convert"

-- the first word is that of this command, or none that a command has
abbrev pub WordAnswers : List ℕ → Result CommandWord Refusal → Type 0
WordAnswers text (Ok word) = first_word_of text ≡ word_text word
WordAnswers text (Err refusal) = (refusal ≡ refusals.Text text_refusals.Command) × ((word : CommandWord) → first_word_of text ≢ word_text word)

-- the checks of each command
abbrev pub checks_by : CommandWord → ℕ → Ledger → List ℕ → Check Accepted
checks_by words.Reg limit ledger text = storing (reg_checks limit ledger text)
checks_by words.Eval limit ledger text = storing (formula_checks (word_text words.Eval) Results limit ledger text)
checks_by words.Def limit ledger text = storing (formula_checks (word_text words.Def) Automata limit ledger text)
checks_by words.Macro limit ledger text = storing (macro_checks ledger text)
checks_by words.Morphism limit ledger text = storing (morphism_checks ledger text)
checks_by words.Promote limit ledger text = storing (promote_checks limit ledger text)
checks_by words.Combine limit ledger text = storing (combine_checks limit ledger text)
checks_by words.Image limit ledger text = storing (image_checks limit ledger text)
checks_by (words.Language op) limit ledger text = storing (language_checks op limit ledger text)
checks_by words.Test limit ledger text = saying (test_checks limit ledger text)
checks_by words.Inf limit ledger text = saying (inf_checks limit ledger text)
checks_by words.Transduce limit ledger text = storing (transduce_checks limit ledger text)
checks_by words.Convert limit ledger text = storing (convert_checks limit ledger text)

-- the checks after that of the length: the first word, and those of the command of that word
abbrev pub after_length : ℕ → Ledger → List ℕ → Check Accepted
after_length limit ledger text = Then (Pure (WordAnswers text)) (λ word. checks_by word limit ledger text)

-- all checks of a command that has its terminator: its length, its first word, and those of the command of that word. A step may have
-- `limit` values.
abbrev pub checks_of : ℕ → Ledger → List ℕ → Check Accepted
checks_of limit ledger text = Then (Pure (LengthAnswers text)) (λ short. after_length limit ledger text)

-- the proper outcome of a command that has its terminator
abbrev pub Outcome : ℕ → Ledger → List ℕ → Result Accepted Refusal → Type 0
Outcome limit ledger text answer = (checks_of limit ledger text).answers answer
