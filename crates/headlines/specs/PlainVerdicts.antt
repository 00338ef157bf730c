-- What a verdict says of a sentence without names.
use Rattle.std.specs.Prelude.{ℕ, Bool, List, ◌++◌, Ok}
use Rattle.wal_outside.specs.Views.{StoreView}
use Rattle.formula_parse.specs.Trees.{Formula}
use Rattle.formula_truth.specs.Truth.{Meanings}
use Rattle.definitions.specs.Trees.{Ledger}
use Rattle.session_cli.specs.Commands.{Commands}
use Rattle.headlines.specs.Sentences.{HasNo, HasInQuotes, IsReadAs, IsFormulaCommand, IsVerdict, truth_line}

-- no name means anything: no automaton holds of numbers, and no word has a letter
abbrev pub no_meanings : Meanings
no_meanings = record { holds_of = λ name ns. ⊥; has_letter = λ name ns letter. ⊥ }

-- no macro is called in the text, no automaton, and no word is indexed: it has no `#`, no `$` and no `[`
pub record IsPlain (text : List ℕ) : Type 0 where
  pub no_macro : HasNo 35 text
  pub no_automaton : HasNo 36 text
  pub no_word : HasNo 91 text

-- the text is read as a formula on which this is the verdict
pub record IsPlainVerdict (text : List ℕ) (truth : Bool) : Type 0 where
  pub formula : Formula
  pub read : IsReadAs text formula
  pub verdict : IsVerdict truth no_meanings formula

-- The command has a text in quotes, and if that has no names, it is a formula, and this is the verdict on it.
pub record SaysPlainTruth (command : List ℕ) (truth : Bool) : Type 0 where
  pub body : List ℕ
  pub in_quotes : HasInQuotes command body
  pub says : IsPlain body → IsPlainVerdict body truth

-- An `eval` or a `def` that is accepted and prints a verdict, after the lines of its steps or after none, says truth.
abbrev pub PlainVerdicts : Type 0
PlainVerdicts = (limit : ℕ) (ledger : Ledger) (old new : StoreView) (command : List ℕ) (shown : Bool) (lines : List ℕ) (truth : Bool)
    → IsFormulaCommand command → Commands limit ledger old command shown (Ok (lines ++ truth_line truth)) new → SaysPlainTruth command truth
