-- What holds of each command of a session holds of each command of a run.
use Rattle.std.proofs.Common.{◌≡◌, ℕ, ◌==◌, Bool, false, List, get_or, Some, Result, Ok, Err, codes, inl, inr, refl, sym, ap, ◌∙◌, subst}
use Rattle.std.proofs.lemmas.Bool.{false≢true, eqb-false}
use Rattle.wal_outside.specs.Files.{Files}
use Rattle.wal_outside.specs.Views.{SourceView, SinkView, StoreView}
use Rattle.command_head.specs.Parts.{first_word_of}
use Rattle.script_cut.specs.Cuts.{Item, Ended, Terminated, Unterminated, PastLimit, start}
use Rattle.script_runs.specs.Languages.{Deed, Enters, Loads, Ends}
use Rattle.script_runs.specs.Replies.{IsReplyOf, State, Answered, Replies, ledger_after}
use Rattle.script_runs.specs.Printed.{is_shown}
use Rattle.script_runs.specs.Runs.{first_state}
use Rattle.script_runs.specs.Ends.{HasRun}
use Rattle.script_runs.specs.declared.status.Status.{Status}
use Rattle.language_steps.specs.declared.op.LanguageOp.{LanguageOp}
use Rattle.language_steps.specs.declared.op.LanguageOp.TheVariants.{Pair, One}
use Rattle.language_steps.specs.declared.op.OneOp.TheVariants.{Star, Reversal}
use Rattle.language_steps.specs.declared.op.PairOp.TheVariants.{Union, Intersection, Concatenation}
use Rattle.definitions.specs.Trees.{Ledger}
use Rattle.command_parts.specs.declared.fault.Fault.{Fault}
use Rattle.command_parts.specs.Accepting.{Accepted}
use Rattle.session_cli.specs.Commands.{Commands}
use Rattle.language_commands.specs.LanguageOutcomes.{op_word}
use Rattle.command_parts.specs.Lines.{accepted_text}
use Rattle.session_cli.specs.RunOutcomes.{run_checks}
use Rattle.session_cli.specs.SessionLanguage.{first_ledger, session_language}
use Rattle.session_cli.proofs.CommandsMade.{IsRunWord, ends_word, loads_word, session_command}
use Rattle.headlines.specs.Sentences.{IsFormulaCommand}
use Rattle.headlines.specs.Listings.{IsCounted, IsTested}
use Rattle.headlines.specs.Languages.{IsLanguageMade}
use Rattle.headlines.specs.OwnSystems.{UsesSystems}
use Rattle.headlines.specs.RunFiles.{AnswersDo, Did, HasDone, HasListed, HasMade, HasMadeLanguage, HasMadeWord, IsDone, Known, RunLanguages, RunListings, RunSolutions, RunSystems, RunWords}
use Rattle.headlines.specs.Runs.{Answer, EachBy}
use Rattle.headlines.specs.Solutions.{IsDefined}
use Rattle.headlines.specs.Words.{IsCombined, IsConverted, IsImaged, IsPromoted, IsTransduced, Stored}
use Rattle.headlines.proofs.LanguageFiles.{languages}
use Rattle.headlines.proofs.ListingSteps.{infinities, tests}
use Rattle.headlines.proofs.RunAnswers.{answer_of, answers_of, each_says, IsAnswered, run_answers}
use Rattle.headlines.proofs.RunVerdictSteps.{Reports, changed, reports_kept}
use Rattle.headlines.proofs.SolutionSteps.{solutions}
use Rattle.headlines.proofs.StepTexts.{refused_line}
use Rattle.headlines.proofs.SystemSteps.{own_systems}
use Rattle.headlines.proofs.WordSteps.{combinations, conversions, images, promotions, transductions}

-- no such command begins with a word of those that make nothing
abbrev IsApart : (List ℕ → Type 0) → Type 0
IsApart IsCommand = (text : List ℕ) → IsCommand text → IsRunWord (first_word_of text) → ⊥

-- what holds of each command of a session that is accepted
abbrev Law : (List ℕ → Type 0) → Did → Type 0
Law IsCommand Does = (limit : ℕ) (ledger : Ledger) (files : Files) (old new : StoreView) (command : List ℕ) (shown : Bool) (printed : List ℕ)
    → IsCommand command → old.files ≡ Some files → Commands limit ledger old command shown (Ok printed) new → Does ledger files command shown printed new

module _ (limit : ℕ) (stop : Bool) where
  abbrev Replied : Type 0
  Replied = Result (Deed Accepted) Fault

  abbrev Run : Type 0
  Run = State (session_language limit stop)

  -- what was answered to an item that was not refused
  answered_in : (depth room : ℕ) (known : Ledger) (text : List ℕ) (ended : Ended) (deed : Deed Accepted) → IsReplyOf (session_language limit stop) ended depth room known text (Ok deed) → (run_checks limit depth known text).answers (Ok deed)
  answered_in depth room known text (Terminated shown) deed (inl (answered, fits)) = answered
  answered_in depth room known text (Terminated shown) deed (inr (loaded, answered, long, is)) = absurd cc
  answered_in depth room known text Unterminated deed (inl (long, is)) = absurd cc
  answered_in depth room known text Unterminated deed (inr (short, is)) = absurd cc
  answered_in depth room known text PastLimit deed is = absurd cc

  module _ (IsCommand : List ℕ → Type 0) (Does : Did) (apart : IsApart IsCommand) (law : Law IsCommand Does) where
    -- an accepted command of a run is one of a session
    accepted_does : (depth : ℕ) (old : Run) (item : Item) (accepted : Accepted) (store : StoreView) → Replies (session_language limit stop) depth old (record { item = item; reply = Ok (Enters accepted) }) store → Reports limit stop old.store → IsCommand item.text
        → (files : Files) × (old.store.files ≡ Some files) × Does old.ledger files item.text (is_shown item.ended) (accepted_text (is_shown item.ended) accepted) store
    accepted_does depth old item accepted store replies reports is =
        let command = session_command limit depth replies.known item.text accepted (answered_in depth old.room replies.known item.text item.ended (Enters accepted) replies.replied) in
        let by : Commands limit old.ledger old.store item.text (is_shown item.ended) (Ok (accepted_text (is_shown item.ended) accepted)) store = record {
          answer = Ok accepted;
          gives = refl;
          known = replies.known;
          known_is = replies.known_is;
          answered = (tt, command.0, command.1);
          stored = record { files = replies.stored.files; later = replies.stored.later; cause = λ none. absurd (false≢true none); failed = replies.stored.failed };
        } in
        (reports.0, reports.1, law limit old.ledger reports.0 old.store store item.text (is_shown item.ended) (accepted_text (is_shown item.ended) accepted) is reports.1 by)

    reply_does : (depth : ℕ) (old : Run) (item : Item) (reply : Replied) (store : StoreView) → Replies (session_language limit stop) depth old (record { item = item; reply = reply }) store → Reports limit stop old.store
        → HasDone IsCommand Does (record { ledger = old.ledger; store = old.store }) (answer_of (session_language limit stop) (record { item = item; reply = reply })) (record { ledger = ledger_after (session_language limit stop) old.ledger reply; store = store })
    reply_does depth old item (Ok (Enters accepted)) store replies reports = λ is. inr (accepted_does depth old item accepted store replies reports is)
    reply_does depth old item (Ok (Loads loaded)) store replies reports = λ is. absurd (apart item.text is (loads_word limit depth replies.known item.text loaded (answered_in depth old.room replies.known item.text item.ended (Loads loaded) replies.replied)))
    reply_does depth old item (Ok Ends) store replies reports = λ is. absurd (apart item.text is (ends_word limit depth replies.known item.text (answered_in depth old.room replies.known item.text item.ended Ends replies.replied)))
    reply_does depth old item (Err fault) store replies reports = λ is. inl (refused_line item.line fault)

    pub does_in : (depth : ℕ) (old : Run) (first : Answered (session_language limit stop)) (store : StoreView) → Replies (session_language limit stop) depth old first store → Reports limit stop old.store
        → HasDone IsCommand Does (record { ledger = old.ledger; store = old.store }) (answer_of (session_language limit stop) first) (record { ledger = ledger_after (session_language limit stop) old.ledger first.reply; store = store })
    does_in depth old first store replies reports = reply_does depth old first.item first.reply store replies reports

  abbrev seen : Ledger → StoreView → Known
  seen ledger store = record { ledger = ledger; store = store }

  -- what each reply did, each answer of a run did
  module _ (Does : Known → Answer → Known → Type 0)
      (each : (depth : ℕ) (old : Run) (first : Answered (session_language limit stop)) (store : StoreView) → Replies (session_language limit stop) depth old first store → Reports limit stop old.store
      → Does (seen old.ledger old.store) (answer_of (session_language limit stop) first) (seen (ledger_after (session_language limit stop) old.ledger first.reply) store)) where
    done : (depth : ℕ) (old : Run) (first : Answered (session_language limit stop)) (store : StoreView) → Replies (session_language limit stop) depth old first store → Reports limit stop old.store
        → IsDone Does (seen old.ledger old.store) (answer_of (session_language limit stop) first) (seen (ledger_after (session_language limit stop) old.ledger first.reply) store)
    done depth old first store replies reports = record { changed = changed limit stop old.ledger first.reply; does = each depth old first store replies reports }

    pub run_does : (from to : SourceView) (old new : StoreView) (held now : SinkView) (state : Status) (script : List ℕ) (files : Files) → HasRun (session_language limit stop) from to old new held now state → from.left ≡ Some script → old.files ≡ Some files → AnswersDo Does script files old new held now
    run_does from to old new held now state script files run is reported =
        let r : IsAnswered (session_language limit stop) script old new held now = run_answers (session_language limit stop) from to old new held now state script run is in
        let first : Run = first_state (session_language limit stop) old in
        let end : Run = record { ledger = r.has_turns.ledger; store = new; room = r.has_turns.room } in
        let says = each_says (session_language limit stop) seen (Reports limit stop) (IsDone Does) (reports_kept limit stop) done r.turns 0 (start script) r.last first end r.has_turns.run (files, reported) in
        record {
          answers = answers_of (session_language limit stop) r.turns;
          cut = r.cut;
          printed = r.printed;
          last = r.has_turns.ledger;
          done = subst (λ (ledger : Ledger). EachBy (IsDone Does) (seen ledger old) (answers_of (session_language limit stop) r.turns) (seen r.has_turns.ledger new)) (ap first_ledger reported) says.0;
        }

-- a command whose word has another letter at some place than those that make nothing
abbrev letter : ℕ → List ℕ → ℕ
letter place word = get_or word place 0

differ : (place : ℕ) (own : List ℕ) → (letter place own == letter place (codes "load")) ≡ false → (letter place own == letter place (codes "exit")) ≡ false → (letter place own == letter place (codes "quit")) ≡ false → IsApart (λ text. first_word_of text ≡ own)
differ place own load exit quit text is (inl also) = eqb-false (letter place own) (letter place (codes "load")) load (ap (letter place) (sym is ∙ also))
differ place own load exit quit text is (inr (inl also)) = eqb-false (letter place own) (letter place (codes "exit")) exit (ap (letter place) (sym is ∙ also))
differ place own load exit quit text is (inr (inr also)) = eqb-false (letter place own) (letter place (codes "quit")) quit (ap (letter place) (sym is ∙ also))

formulas_apart : IsApart IsFormulaCommand
formulas_apart text (inl is) also = differ 1 (codes "eval") refl refl refl text is also
formulas_apart text (inr is) also = differ 0 (codes "def") refl refl refl text is also

languages_apart : (op : LanguageOp) → IsApart (λ text. first_word_of text ≡ op_word op)
languages_apart (Pair Union) = differ 0 (codes "union") refl refl refl
languages_apart (Pair Intersection) = differ 0 (codes "intersect") refl refl refl
languages_apart (Pair Concatenation) = differ 0 (codes "concat") refl refl refl
languages_apart (One Star) = differ 0 (codes "star") refl refl refl
languages_apart (One Reversal) = differ 0 (codes "reverse") refl refl refl

-- what a command of a word makes
makes_in : (word : List ℕ) (Made : Ledger → Files → List ℕ → StoreView → Type 0) → IsApart (λ text. first_word_of text ≡ word) → Stored word Made
    → (limit : ℕ) (stop : Bool) (depth : ℕ) (old : State (session_language limit stop)) (first : Answered (session_language limit stop)) (store : StoreView) → Replies (session_language limit stop) depth old first store → Reports limit stop old.store
    → HasMade word Made (seen limit stop old.ledger old.store) (answer_of (session_language limit stop) first) (seen limit stop (ledger_after (session_language limit stop) old.ledger first.reply) store)
makes_in word Made apart law limit stop = does_in limit stop (λ text. first_word_of text ≡ word) (λ ledger files text shown printed new. Made ledger files text new) apart law

pub run_solutions : RunSolutions
run_solutions limit stop = run_does limit stop (HasMade (codes "def") IsDefined) (makes_in (codes "def") IsDefined (differ 0 (codes "def") refl refl refl) solutions limit stop)

pub run_words : RunWords
run_words limit stop = run_does limit stop HasMadeWord (λ depth old first store replies reports. record {
  promoted = makes_in (codes "promote") IsPromoted (differ 0 (codes "promote") refl refl refl) promotions limit stop depth old first store replies reports;
  imaged = makes_in (codes "image") IsImaged (differ 0 (codes "image") refl refl refl) images limit stop depth old first store replies reports;
  combined = makes_in (codes "combine") IsCombined (differ 0 (codes "combine") refl refl refl) combinations limit stop depth old first store replies reports;
  transduced = makes_in (codes "transduce") IsTransduced (differ 0 (codes "transduce") refl refl refl) transductions limit stop depth old first store replies reports;
  converted = makes_in (codes "convert") IsConverted (differ 0 (codes "convert") refl refl refl) conversions limit stop depth old first store replies reports;
})

pub run_languages : RunLanguages
run_languages limit stop = run_does limit stop HasMadeLanguage (λ depth old first store replies reports op. makes_in (op_word op) (IsLanguageMade op) (languages_apart op) (languages op) limit stop depth old first store replies reports)

pub run_listings : RunListings
run_listings limit stop = run_does limit stop HasListed (λ depth old first store replies reports. record {
  tested = does_in limit stop (λ text. first_word_of text ≡ codes "test") (λ ledger files text shown printed new. IsTested ledger text shown printed) (differ 0 (codes "test") refl refl refl)
      (λ limit ledger files old new command shown printed is reported c. (tests limit ledger files old new command shown printed is reported c).0) depth old first store replies reports;
  counted = does_in limit stop (λ text. first_word_of text ≡ codes "inf") (λ ledger files text shown printed new. IsCounted ledger text shown printed) (differ 0 (codes "inf") refl refl refl)
      (λ limit ledger files old new command shown printed is reported c. (infinities limit ledger files old new command shown printed is reported c).0) depth old first store replies reports;
})

pub run_systems : RunSystems
run_systems limit stop = run_does limit stop (HasDone IsFormulaCommand (λ ledger files text shown printed new. UsesSystems ledger text))
    (does_in limit stop IsFormulaCommand (λ ledger files text shown printed new. UsesSystems ledger text) formulas_apart own_systems)
