-- What the checks of a command made, by its first word.
use Rattle.std.proofs.Common.{◌≡◌, ◌⊎◌, inl, inr, ℕ, ◌≤◌, List, length, None, Some, Ok, codes, subst}
use Rattle.wal_outside.specs.declared.folder.Folder.TheVariants.{Automata, Results}
use Rattle.command_head.specs.Parts.{first_word_of}
use Rattle.definitions.specs.Trees.{Ledger}
use Rattle.language_steps.specs.declared.op.LanguageOp.{LanguageOp}
use Rattle.script_runs.specs.Languages.{Enters, Loads, Ends}
use Rattle.session_cli.specs.declared.actions.CommandWord.{CommandWord}
use Rattle.session_cli.specs.declared.actions.CommandWord.TheVariants as words
use Rattle.session_cli.specs.declared.run_word.RunWord.{RunWord}
use Rattle.session_cli.specs.declared.run_word.RunWord.TheVariants as others
use Rattle.command_parts.specs.Accepting.{Accepted, saying, storing}
use Rattle.word_commands.specs.CombineOutcomes.{combine_checks}
use Rattle.word_commands.specs.ConvertOutcomes.{convert_checks}
use Rattle.formula_commands.specs.FormulaOutcomes.{formula_checks}
use Rattle.word_commands.specs.ImageOutcomes.{image_checks}
use Rattle.language_commands.specs.LanguageOutcomes.{language_checks, op_word}
use Rattle.listing_commands.specs.ListingOutcomes.{inf_checks, test_checks}
use Rattle.session_cli.specs.Outcomes.{word_text, checks_by, after_length}
use Rattle.word_commands.specs.PromoteOutcomes.{promote_checks}
use Rattle.session_cli.specs.RunOutcomes.{run_checks, run_word_text}
use Rattle.word_commands.specs.TransduceOutcomes.{transduce_checks}
use Rattle.session_cli.specs.SoundCommands.{one_word}

module _ (limit : ℕ) (known : Ledger) (command : List ℕ) (accepted : Accepted) where
  -- the checks are those of the command whose word comes first
  made_by : (word : CommandWord) → first_word_of command ≡ word_text word → (after_length limit known command).answers (Ok accepted) → (checks_by word limit known command).answers (Ok accepted)
  made_by word is (own, own_is, made) = subst (λ (w : CommandWord). (checks_by w limit known command).answers (Ok accepted)) (one_word (first_word_of command) own word own_is is) made

  pub eval_made : first_word_of command ≡ codes "eval" → (after_length limit known command).answers (Ok accepted) → (storing (formula_checks (codes "eval") Results limit known command)).answers (Ok accepted)
  eval_made is answered = made_by words.Eval is answered

  pub def_made : first_word_of command ≡ codes "def" → (after_length limit known command).answers (Ok accepted) → (storing (formula_checks (codes "def") Automata limit known command)).answers (Ok accepted)
  def_made is answered = made_by words.Def is answered

  pub promote_made : first_word_of command ≡ codes "promote" → (after_length limit known command).answers (Ok accepted) → (storing (promote_checks limit known command)).answers (Ok accepted)
  promote_made is answered = made_by words.Promote is answered

  pub image_made : first_word_of command ≡ codes "image" → (after_length limit known command).answers (Ok accepted) → (storing (image_checks limit known command)).answers (Ok accepted)
  image_made is answered = made_by words.Image is answered

  pub combine_made : first_word_of command ≡ codes "combine" → (after_length limit known command).answers (Ok accepted) → (storing (combine_checks limit known command)).answers (Ok accepted)
  combine_made is answered = made_by words.Combine is answered

  pub transduce_made : first_word_of command ≡ codes "transduce" → (after_length limit known command).answers (Ok accepted) → (storing (transduce_checks limit known command)).answers (Ok accepted)
  transduce_made is answered = made_by words.Transduce is answered

  pub convert_made : first_word_of command ≡ codes "convert" → (after_length limit known command).answers (Ok accepted) → (storing (convert_checks limit known command)).answers (Ok accepted)
  convert_made is answered = made_by words.Convert is answered

  pub language_made : (op : LanguageOp) → first_word_of command ≡ op_word op → (after_length limit known command).answers (Ok accepted) → (storing (language_checks op limit known command)).answers (Ok accepted)
  language_made op is answered = made_by (words.Language op) is answered

  pub test_made : first_word_of command ≡ codes "test" → (after_length limit known command).answers (Ok accepted) → (saying (test_checks limit known command)).answers (Ok accepted)
  test_made is answered = made_by words.Test is answered

  pub inf_made : first_word_of command ≡ codes "inf" → (after_length limit known command).answers (Ok accepted) → (saying (inf_checks limit known command)).answers (Ok accepted)
  inf_made is answered = made_by words.Inf is answered

-- a command of a script that is neither a load nor an end is one of a session
pub session_command : (limit depth : ℕ) (known : Ledger) (text : List ℕ) (accepted : Accepted) → (run_checks limit depth known text).answers (Ok (Enters accepted)) → (length text ≤ 65536) × (after_length limit known text).answers (Ok accepted)
session_command limit depth known text accepted (done, short, (None, is_word, (made, is_made, is))) = let same : made ≡ accepted = cc in (short, subst (λ (a : Accepted). (after_length limit known text).answers (Ok a)) same is_made)
session_command limit depth known text accepted (done, short, (Some others.Load, is_word, (loaded, read, is))) = absurd cc
session_command limit depth known text accepted (done, short, (Some others.Exit, is_word, (ended, head, is))) = absurd cc
session_command limit depth known text accepted (done, short, (Some others.Quit, is_word, (ended, head, is))) = absurd cc

-- the words of commands that make nothing
abbrev pub IsRunWord : List ℕ → Type 0
IsRunWord word = (word ≡ codes "load") ⊎ ((word ≡ codes "exit") ⊎ (word ≡ codes "quit"))

run_word : (word : List ℕ) (own : RunWord) → word ≡ run_word_text own → IsRunWord word
run_word word others.Load is = inl is
run_word word others.Exit is = inr (inl is)
run_word word others.Quit is = inr (inr is)

module _ (limit depth : ℕ) (known : Ledger) (text : List ℕ) where
  -- a text that loads another one, or ends the run, begins with such a word
  pub loads_word : (loaded : List ℕ) → (run_checks limit depth known text).answers (Ok (Loads loaded)) → IsRunWord (first_word_of text)
  loads_word loaded (done, short, (word, inl (own, is, same), checks)) = run_word (first_word_of text) own is
  loads_word loaded (done, short, (None, inr (other, same), (accepted, made, is))) = absurd cc
  loads_word loaded (done, short, (Some word, inr (other, same), checks)) = absurd cc

  pub ends_word : (run_checks limit depth known text).answers (Ok Ends) → IsRunWord (first_word_of text)
  ends_word (done, short, (word, inl (own, is, same), checks)) = run_word (first_word_of text) own is
  ends_word (done, short, (None, inr (other, same), (accepted, made, is))) = absurd cc
  ends_word (done, short, (Some word, inr (other, same), checks)) = absurd cc
