-- What the file of a language says that a command makes of others.
use Rattle.std.specs.Prelude.{◌≡◌, ◌↔◌, ℕ, ℤ, Bool, List, Some, Ok}
use Rattle.std.specs.List.{AllByRecursion}
use Rattle.wal_outside.specs.Files.{Files, put}
use Rattle.wal_outside.specs.Views.{StoreView}
use Rattle.wal_outside.specs.declared.folder.Folder.TheVariants.{Automata}
use Rattle.command_head.specs.Heads.{LanguagesHead}
use Rattle.command_head.specs.Parts.{first_word_of, parts_of, texts_of}
use Rattle.dfa_loading.specs.declared.loaded.Loaded.{Loaded}
use Rattle.dfa_text.specs.Meaning.{FileAccepts}
use Rattle.language_steps.specs.Tables.{AreOverSets}
use Rattle.language_steps.specs.declared.op.LanguageOp.{LanguageOp}
use Rattle.regex_build.specs.Patterns.{AreMembers}
use Rattle.definitions.specs.TreeMeanings.{made_words}
use Rattle.definitions.specs.Trees.{Ledger, custom_of, trees_of}
use Rattle.session_cli.specs.Commands.{Commands}
use Rattle.command_parts.specs.FileChecks.{FilesAnswers}
use Rattle.language_commands.specs.LanguageOutcomes.{DerivesOperation, language_files, op_word, tree_op}

-- A file was stored among automata under the name, and no other file changed. The automata that the command names are all over the same sets. Read as a
-- file over sets, the bytes accept exactly the words over these sets that the operation makes of the languages of the definitions under the names.
pub record IsLanguageMade (op : LanguageOp) (ledger : Ledger) (files : Files) (command : List ℕ) (new : StoreView) : Type 0 where
  pub head : LanguagesHead
  pub derived : DerivesOperation op (texts_of (parts_of command)) head
  pub tables : List Loaded
  pub loaded : FilesAnswers ledger (language_files head.languages) (Ok tables)
  pub sets : List (List ℤ)
  pub over : AreOverSets sets tables
  pub bytes : List ℕ
  pub stored : new.files ≡ Some (put files Automata head.name bytes)
  pub accepts : (word : List (List ℤ)) → FileAccepts bytes word ↔ (AllByRecursion (AreMembers sets) word × made_words (custom_of ledger) (tree_op op) (trees_of ledger head.languages) word)

-- a `union`, `intersect`, `concat`, `star` or `reverse` that is accepted stores such a file
abbrev pub Languages : Type 0
Languages = (op : LanguageOp) (limit : ℕ) (ledger : Ledger) (files : Files) (old new : StoreView) (command : List ℕ) (shown : Bool) (printed : List ℕ)
    → first_word_of command ≡ op_word op → old.files ≡ Some files → Commands limit ledger old command shown (Ok printed) new → IsLanguageMade op ledger files command new
