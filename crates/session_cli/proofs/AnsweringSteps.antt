-- The commands of a script, from what a session answers, what is loaded, and a word alone.
use Rattle.std.proofs.Common.{◌≡◌, ◌≢◌, ℕ, ◌<◌, ◌≤◌, Bool, false, List, length, Vec, Global, Option, None, Some, IfSome, Result, Ok, Err, refl, ◌∙◌, inl, inr, arith, ◌⊎◌, codes}
use Rattle.wal_outside.specs.Files.{Files}
use Rattle.wal_outside.specs.Views.{StoreView}
use Rattle.command_head.specs.Parts.{first_word_of}
use Rattle.command_head.specs.Grammar.{DerivesAlone}
use Rattle.script_runs.specs.Languages.{Deed, Enters, Loads, Ends}
use Rattle.script_runs.specs.Replies.{AnswersCommand}
use Rattle.script_runs.specs.declared.deed.Deed.TheVariants as deeds
use Rattle.command_parts.specs.declared.text_refusal.TextRefusal.TheVariants as text_refusals
use Rattle.command_parts.specs.declared.refusal.Refusal.TheVariants as refusals
use Rattle.command_parts.specs.declared.fault.Fault.{Fault}
use Rattle.command_parts.specs.declared.fault.Fault.TheVariants as faults
use Rattle.session_cli.specs.declared.run_word.RunWord.{RunWord}
use Rattle.session_cli.specs.declared.run_word.RunWord.TheVariants as words
use Rattle.command_parts.specs.Checks.{Check, Pure, Passing, Then, Fails}
use Rattle.command_parts.specs.HeadAnswers.{HeadAnswers}
use Rattle.session_cli.specs.Outcomes.{LengthAnswers, checks_of}
use Rattle.session_cli.specs.RunOutcomes.{run_word_text, RunWordAnswers, load_checks, checks_by_word, run_checks, LoadsText}
use Rattle.session_cli.specs.SessionLanguage.{IsAnswer, IsReply, session_language}
use Rattle.command_parts.specs.Accepting.{Success, Accepted, Storing, Answer}
use Rattle.session_cli.specs.Commands.{Commands, Gives, Leaves}
use Rattle.command_parts.specs.StoreReads.{FromFiles, HasRead}
use Rattle.definitions.specs.Texts.{Stores}
use Rattle.definitions.specs.Trees.{Ledger}
use Rattle.std.specs.Prelude.{⊤}
use Rattle.script_runs.proofs.ReplySteps.{own_ledger}
use Rattle.command_parts.proofs.StoreFaults.{is_store_fault}
use Rattle.command_parts.proofs.StoreReads.{own_fault, from_none}
use Rattle.command_parts.proofs.CheckSteps.{fails_first, fails_after, fails_wider}
use Rattle.session_cli.proofs.CommandSteps.{IsAnswering, answering, cause_of, failed_of}

-- an answer that is a fault is a fault of the checks, or the store's at the file that the command makes
failed_answer : (checks : Check Accepted) (f : Fault) → IsAnswer checks (Err f) → Fails checks f ⊎ ((success : Success) × checks.answers (Ok (Storing success)) × (f ≡ faults.Store success.folder success.name))
failed_answer checks (faults.Store folder name) (inl read) = inl read
failed_answer checks (faults.Store folder name) (inr (success, made, folders, names)) = inr (success, made, λ i. faults.Store (folders i) (names i))
failed_answer checks faults.Memory is = inl tt
failed_answer checks (faults.Refused refusal) is = inl is

module _ (limit : ℕ) (stop : Bool) (depth : ℕ) (text : List ℕ) (short : length text ≤ 65536) where
  -- the checks of a word, after those of the length and of the word
  by_word : (ledger : Ledger) (word : Option RunWord) → RunWordAnswers text (Ok word) → (deed : Deed Accepted) → (checks_by_word word limit depth ledger text).answers (Ok deed) → (run_checks limit depth ledger text).answers (Ok deed)
  by_word ledger word is deed made = (tt, short, (word, is, made))

  fails_by_word : (ledger : Ledger) (word : Option RunWord) → RunWordAnswers text (Ok word) → (f : Fault) → Fails (checks_by_word word limit depth ledger text) f → Fails (run_checks limit depth ledger text) f
  fails_by_word ledger word is f refused =
      fails_after (Pure (LengthAnswers text)) (λ short. Then (Pure (RunWordAnswers text)) (λ word. checks_by_word word limit depth ledger text)) tt f short
      (fails_after (Pure (RunWordAnswers text)) (λ word. checks_by_word word limit depth ledger text) word f is refused)

  -- a command that a session answers
  module _ (other : (word : RunWord) → first_word_of text ≢ run_word_text word) where
    none : RunWordAnswers text (Ok None)
    none = inr (other, refl)

    wider : (ledger : Ledger) (f : Fault) → Fails (checks_of limit ledger text) f → Fails (run_checks limit depth ledger text) f
    wider ledger f refused = fails_wider (checks_of limit ledger text) (run_checks limit depth ledger text)
        (λ f refused. elim refused [ inl long ↦ inl long | inr rest ↦ inr (rest.0, rest.1, inr (None, none, inl rest.2)) ])
        (λ place reads. elim reads [ inl never ↦ absurd never | inr rest ↦ inr (rest.0, rest.1, inr (None, none, inl rest.2)) ]) f refused

    entered : (ledger : Ledger) (success : Accepted) → (checks_of limit ledger text).answers (Ok success) → (run_checks limit depth ledger text).answers (Ok (Enters success))
    entered ledger success (done, is_short, made) = (done, is_short, (None, none, (success, made, refl)))

    reply_refused : (ledger : Ledger) (f : Fault) → IsAnswer (checks_of limit ledger text) (Err f) → IsReply (run_checks limit depth ledger text) (Err f)
    reply_refused ledger f is = elim (failed_answer (checks_of limit ledger text) f is) [
      | inl refused ↦ inl (wider ledger f refused)
      | inr stored ↦ inr (stored.0, entered ledger (Storing stored.0) stored.1, stored.2)
    ]

    pub command_enters : (ledger : Ledger) (old new : StoreView) (shown : Bool) (printed : List ℕ) (bytes : Vec ℕ Global) → bytes.items ≡ printed → Commands limit ledger old text shown (Ok printed) new
        → AnswersCommand (session_language limit stop) depth ledger old text shown (Ok (deeds.Enters bytes)) new
    command_enters ledger old new shown printed bytes is c = by_answer c.answer c.gives c.answered c.stored
      where
        by_answer : (answer : Answer) → Gives shown (Ok printed) answer → IsAnswer (checks_of limit c.known text) answer → Leaves c.known old answer new → AnswersCommand (session_language limit stop) depth ledger old text shown (Ok (deeds.Enters bytes)) new
        by_answer (Ok success) gives answered stored = record {
          reply = Ok (Enters success);
          gives = is ∙ gives;
          known = c.known;
          known_is = c.known_is;
          answered = entered c.known success answered;
          stored = record { files = stored.files; later = stored.later; cause = stored.cause; failed = stored.failed };
        }
        by_answer (Err fault) gives answered stored = absurd gives

    pub command_refused : (ledger : Ledger) (old new : StoreView) (shown : Bool) (fault : Fault) → Commands limit ledger old text shown (Err fault) new
        → AnswersCommand (session_language limit stop) depth ledger old text shown (Err fault) new
    command_refused ledger old new shown fault c = by_answer c.answer c.gives c.answered c.stored
      where
        by_answer : (answer : Answer) → Gives shown (Err fault) answer → IsAnswer (checks_of limit c.known text) answer → Leaves c.known old answer new → AnswersCommand (session_language limit stop) depth ledger old text shown (Err fault) new
        by_answer (Ok success) gives answered stored = absurd gives
        by_answer (Err refusal) gives answered stored = record {
          reply = Err refusal;
          gives = gives;
          known = c.known;
          known_is = c.known_is;
          answered = reply_refused c.known refusal answered;
          stored = record { files = stored.files; later = stored.later; cause = stored.cause; failed = stored.failed };
        }

  -- a command that is refused after a read
  refused_read : (ledger : Ledger) (old new : StoreView) (shown : Bool) (fault : Fault) (found : Files) → IsAnswering old.files ledger found → ((known : Ledger) → Stores known found → Fails (run_checks limit depth known text) fault)
      → HasRead {X = Vec ℕ Global} old (Err fault) new → AnswersCommand (session_language limit stop) depth ledger old text shown (Err fault) new
  refused_read ledger old new shown fault found by refused read = record {
    reply = Err fault;
    gives = refl;
    known = by.known;
    known_is = by.known_is;
    answered = inl (refused by.known by.stores);
    stored = record { files = read.files; later = read.later; cause = cause_of old new fault read.cause; failed = failed_of old new fault read.cause };
  }

  -- a load
  pub text_loaded : (ledger : Ledger) (old new : StoreView) (shown : Bool) (file : Vec ℕ Global) → first_word_of text ≡ run_word_text words.Load → IfSome old.files (Stores ledger)
      → FromFiles (λ found loaded. (ledger : Ledger) → Stores ledger found → LoadsText depth ledger text loaded) old (Ok file) new → AnswersCommand (session_language limit stop) depth ledger old text shown (Ok (deeds.Loads file)) new
  text_loaded ledger old new shown file word stores from =
      let by : IsAnswering old.files ledger from.found = answering old.files ledger from.found stores from.reported in
      record {
        reply = Ok (Loads file.items);
        gives = refl;
        known = by.known;
        known_is = by.known_is;
        answered = by_word by.known (Some words.Load) (inl (words.Load, word, refl)) (Loads file.items) (file.items, from.gives by.known by.stores, refl);
        stored = record { files = from.has_read.files; later = from.has_read.later; cause = λ is. cc; failed = from.has_read.cause };
      }

  pub load_refused : (ledger : Ledger) (old new : StoreView) (shown : Bool) (fault : Fault) → first_word_of text ≡ run_word_text words.Load → IfSome old.files (Stores ledger)
      → FromFiles (λ found loaded. (ledger : Ledger) → Stores ledger found → LoadsText depth ledger text loaded) old (Err fault) new → AnswersCommand (session_language limit stop) depth ledger old text shown (Err fault) new
  load_refused ledger old new shown fault word stores from =
      refused_read ledger old new shown fault from.found (answering old.files ledger from.found stores from.reported)
      (λ known stores. fails_by_word known (Some words.Load) (inl (words.Load, word, refl)) fault
      (fails_first (load_checks depth known text) (λ loaded. Passing (λ (deed : Deed Accepted). deed ≡ Loads loaded)) fault (from.gives known stores))) from.has_read

  -- a word alone
  alone_ends : (ledger : Ledger) (store : StoreView) (shown : Bool) (word : RunWord) → first_word_of text ≡ run_word_text word → (checks_by_word (Some word) limit depth ledger text).answers (Ok Ends) → AnswersCommand (session_language limit stop) depth ledger store text shown (Ok deeds.Ends) store
  alone_ends ledger store shown word is ends = record {
    reply = Ok Ends;
    gives = tt;
    known = ledger;
    known_is = own_ledger store.files ledger;
    answered = by_word ledger (Some word) (inl (word, is, refl)) Ends ends;
    stored = record { files = refl; later = omega arith; cause = λ is. cc; failed = refl };
  }

  alone_refused : (ledger : Ledger) (store : StoreView) (shown : Bool) (fault : Fault) (word : RunWord) → first_word_of text ≡ run_word_text word → IfSome store.files (Stores ledger) → is_store_fault fault ≡ false
      → ((known : Ledger) → Fails (checks_by_word (Some word) limit depth known text) fault) → AnswersCommand (session_language limit stop) depth ledger store text shown (Err fault) store
  alone_refused ledger store shown fault word is stores own refused =
      let P : Files → Result (Vec ℕ Global) Fault → Type 0 = λ found result. ⊤ in
      let from : FromFiles P store (Err fault) store = from_none P store (Err fault) own (λ found. tt) in
      refused_read ledger store store shown fault from.found (answering store.files ledger from.found stores from.reported) (λ known stores. fails_by_word known (Some word) (inl (word, is, refl)) fault (refused known)) from.has_read

  head_own : (word : List ℕ) (fault : Fault) → Fails (Pure (HeadAnswers (DerivesAlone word) text)) fault → is_store_fault fault ≡ false
  head_own word fault refused = own_fault (Pure (HeadAnswers (DerivesAlone word) text)) (λ place none. none) fault refused

  pub exit_ends : (ledger : Ledger) (store : StoreView) (shown : Bool) → first_word_of text ≡ run_word_text words.Exit → HeadAnswers (DerivesAlone (codes "exit")) text (Ok tt) → AnswersCommand (session_language limit stop) depth ledger store text shown (Ok deeds.Ends) store
  exit_ends ledger store shown is head = alone_ends ledger store shown words.Exit is (tt, head, refl)

  pub exit_refused : (ledger : Ledger) (store : StoreView) (shown : Bool) (fault : Fault) → first_word_of text ≡ run_word_text words.Exit → IfSome store.files (Stores ledger) → Fails (Pure (HeadAnswers (DerivesAlone (codes "exit")) text)) fault
      → AnswersCommand (session_language limit stop) depth ledger store text shown (Err fault) store
  exit_refused ledger store shown fault is stores refused = alone_refused ledger store shown fault words.Exit is stores (head_own (codes "exit") fault refused)
      (λ known. fails_first (Pure (HeadAnswers (DerivesAlone (codes "exit")) text)) (λ done. Passing (λ (deed : Deed Accepted). deed ≡ Ends)) fault refused)

  pub quit_ends : (ledger : Ledger) (store : StoreView) (shown : Bool) → first_word_of text ≡ run_word_text words.Quit → HeadAnswers (DerivesAlone (codes "quit")) text (Ok tt) → AnswersCommand (session_language limit stop) depth ledger store text shown (Ok deeds.Ends) store
  quit_ends ledger store shown is head = alone_ends ledger store shown words.Quit is (tt, head, refl)

  pub quit_refused : (ledger : Ledger) (store : StoreView) (shown : Bool) (fault : Fault) → first_word_of text ≡ run_word_text words.Quit → IfSome store.files (Stores ledger) → Fails (Pure (HeadAnswers (DerivesAlone (codes "quit")) text)) fault
      → AnswersCommand (session_language limit stop) depth ledger store text shown (Err fault) store
  quit_refused ledger store shown fault is stores refused = alone_refused ledger store shown fault words.Quit is stores (head_own (codes "quit") fault refused)
      (λ known. fails_first (Pure (HeadAnswers (DerivesAlone (codes "quit")) text)) (λ done. Passing (λ (deed : Deed Accepted). deed ≡ Ends)) fault refused)

-- a command that is too long
pub long_refused : (limit : ℕ) (stop : Bool) (depth : ℕ) (ledger : Ledger) (store : StoreView) (text : List ℕ) (shown : Bool) → 65536 < length text → AnswersCommand (session_language limit stop) depth ledger store text shown (Err (faults.Refused (refusals.Text (text_refusals.Long 65536)))) store
long_refused limit stop depth ledger store text shown long = record {
  reply = Err (faults.Refused (refusals.Text (text_refusals.Long 65536)));
  gives = refl;
  known = ledger;
  known_is = own_ledger store.files ledger;
  answered = inl (inl (refl, long));
  stored = record { files = refl; later = omega arith; cause = λ is. cc; failed = refl };
}
