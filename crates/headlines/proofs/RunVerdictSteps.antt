-- The verdicts of a run say truth.
use Rattle.std.proofs.Common.{◌≡◌, ℕ, ◌≤◌, Bool, List, [], length, Option, None, Some, Result, Ok, Err, ◌⊎◌, inl, inr, refl, sym, ap, ◌∙◌, subst}
use Rattle.std.specs.Prelude.{⊤}
use Rattle.std.specs.Option.{option_map}
use Rattle.std.proofs.lemmas.Option.{none-some}
use Rattle.wal_outside.specs.Files.{Files, put}
use Rattle.wal_outside.specs.Views.{SourceView, SinkView, StoreView}
use Rattle.script_cut.specs.Cuts.{Item, Ended, Terminated, Unterminated, PastLimit, start}
use Rattle.script_runs.specs.Languages.{Deed, Enters, Loads, Ends}
use Rattle.script_runs.specs.Replies.{IsReplyOf, Changes, State, Answered, Replies, ledger_after}
use Rattle.script_runs.specs.Printed.{is_shown}
use Rattle.script_runs.specs.Runs.{first_state}
use Rattle.script_runs.specs.Ends.{HasRun}
use Rattle.script_runs.specs.declared.status.Status.{Status}
use Rattle.definitions.specs.Trees.{Ledger}
use Rattle.command_parts.specs.declared.fault.Fault.{Fault}
use Rattle.command_parts.specs.Accepting.{Accepted, Storing, Saying}
use Rattle.command_parts.specs.Lines.{accepted_text, fault_line}
use Rattle.session_cli.proofs.CommandsMade.{session_command}
use Rattle.session_cli.specs.RunOutcomes.{run_checks}
use Rattle.session_cli.specs.SessionLanguage.{first_ledger, session_language}
use Rattle.headlines.specs.Verdicts.{SaysTruth}
use Rattle.headlines.specs.PlainVerdicts.{SaysPlainTruth}
use Rattle.headlines.specs.Runs.{Answer, EachBy}
use Rattle.headlines.specs.RunVerdicts.{IsAccepted, IsRefused, Says, IsNext, IsTrueBy, AnswersPlainly, AnswersTruly}
use Rattle.headlines.proofs.AcceptedCommands.{IsFormulaMade, formula_made, reported_ledger}
use Rattle.headlines.proofs.RunAnswers.{each_from, answer_of, answers_of, each_says, IsAnswered, run_answers}
use Rattle.headlines.proofs.StepTexts.{accepted_line, refused_line}
use Rattle.headlines.proofs.VerdictSteps.{formula_says, plain_says}

-- what an accepted or refused command of a text says, where names mean what this ledger has of them; and how long the text of a verdict is
abbrev IsSaid : Ledger → Answer → Type 0
IsSaid known a = Says (λ text truth. SaysTruth known text truth × (length text ≤ 65536)) a

-- nothing is printed of a load or an end
silent : (known : Ledger) (item : Item) → IsSaid known (record { item = item; line = [] })
silent known item = λ is_word. inr (None, record { steps = []; single = tt; line_is = refl }, λ truth is. absurd (none-some truth is))

refused : (known : Ledger) (item : Item) (fault : Fault) → IsSaid known (record { item = item; line = fault_line item.line fault })
refused known item fault = λ is_word. inl (refused_line item.line fault)

-- what is said of a text with this in place of that
says_as : (Means Others : List ℕ → Bool → Type 0) → ((text : List ℕ) (truth : Bool) → Means text truth → Others text truth) → (a : Answer) → Says Means a → Says Others a
says_as Means Others turned a says = λ is_word. by (says is_word)
  where
    by : IsRefused a.line ⊎ ((verdict : Option Bool) × IsAccepted a.line verdict × ((truth : Bool) → verdict ≡ Some truth → Means a.item.text truth))
        → IsRefused a.line ⊎ ((verdict : Option Bool) × IsAccepted a.line verdict × ((truth : Bool) → verdict ≡ Some truth → Others a.item.text truth))
    by (inl refusal) = inl refusal
    by (inr (verdict, accepted, means)) = inr (verdict, accepted, λ truth is. turned a.item.text truth (means truth is))

module _ (limit : ℕ) (stop : Bool) where
  abbrev Replied : Type 0
  Replied = Result (Deed Accepted) Fault

  accepted_says : (depth : ℕ) (known : Ledger) (item : Item) (shown : Bool) (accepted : Accepted) → (run_checks limit depth known item.text).answers (Ok (Enters accepted)) → IsSaid known (record { item = item; line = accepted_text shown accepted })
  accepted_says depth known item shown accepted answered = λ is_word.
      let command = session_command limit depth known item.text accepted answered in
      let m : IsFormulaMade limit known item.text accepted = formula_made limit known item.text accepted is_word command.1 in
      inr (
        m.success.verdict,
        subst (λ (a : Accepted). IsAccepted (accepted_text shown a) m.success.verdict) (sym m.is) (accepted_line shown m.success),
        λ truth is. (formula_says limit known item.text m.success truth is m.word m.folder is_word m.made, command.0),
      )

  terminated : (depth : ℕ) (known : Ledger) (item : Item) (reply : Replied) → (session_language limit stop).answers depth known item.text reply → IsSaid known (answer_of (session_language limit stop) (record { item = item; reply = reply }))
  terminated depth known item (Ok (Enters accepted)) answered = accepted_says depth known item (is_shown item.ended) accepted answered
  terminated depth known item (Ok (Loads loaded)) answered = silent known item
  terminated depth known item (Ok Ends) answered = silent known item
  terminated depth known item (Err fault) answered = refused known item fault

  -- a reply that is a fault
  is_fault : (known : Ledger) (item : Item) (reply : Replied) (fault : Fault) → reply ≡ Err fault → IsSaid known (answer_of (session_language limit stop) (record { item = item; reply = reply }))
  is_fault known item reply fault is = subst (λ (r : Replied). IsSaid known (answer_of (session_language limit stop) (record { item = item; reply = r }))) (sym is) (refused known item fault)

  said : (depth room : ℕ) (known : Ledger) (item : Item) (ended : Ended) (reply : Replied) → IsReplyOf (session_language limit stop) ended depth room known item.text reply → IsSaid known (answer_of (session_language limit stop) (record { item = item; reply = reply }))
  said depth room known item (Terminated shown) reply (inl (answered, fits)) = terminated depth known item reply answered
  said depth room known item (Terminated shown) reply (inr (loaded, answered, long, is)) = is_fault known item reply _ is
  said depth room known item Unterminated reply (inl (long, is)) = is_fault known item reply _ is
  said depth room known item Unterminated reply (inr (short, is)) = is_fault known item reply _ is
  said depth room known item PastLimit reply is = is_fault known item reply _ is

  by_reply : (depth : ℕ) (old : State (session_language limit stop)) (first : Answered (session_language limit stop)) (store : StoreView) (replies : Replies (session_language limit stop) depth old first store) → IsSaid replies.known (answer_of (session_language limit stop) first)
  by_reply depth old first store replies = said depth old.room replies.known first.item first.item.ended first.reply replies.replied

  -- Without names
  plainly : (depth : ℕ) (old : State (session_language limit stop)) (first : Answered (session_language limit stop)) (store : StoreView) → Replies (session_language limit stop) depth old first store → ⊤ → Says SaysPlainTruth (answer_of (session_language limit stop) first)
  plainly depth old first store replies known =
      says_as (λ text truth. SaysTruth replies.known text truth × (length text ≤ 65536)) SaysPlainTruth (λ text truth is. plain_says replies.known text truth is.1 is.0) (answer_of (session_language limit stop) first) (by_reply depth old first store replies)

  pub plain_runs : (from to : SourceView) (old new : StoreView) (held now : SinkView) (state : Status) (script : List ℕ) → HasRun (session_language limit stop) from to old new held now state → from.left ≡ Some script → AnswersPlainly script held now
  plain_runs from to old new held now state script run is =
      let r : IsAnswered (session_language limit stop) script old new held now = run_answers (session_language limit stop) from to old new held now state script run is in
      let first : State (session_language limit stop) = first_state (session_language limit stop) old in
      let end : State (session_language limit stop) = record { ledger = r.has_turns.ledger; store = new; room = r.has_turns.room } in
      let each = each_says (session_language limit stop) (λ ledger store. ledger) (λ store. ⊤) (λ (before : Ledger) a (next : Ledger). Says SaysPlainTruth a) (λ depth old first store replies known. tt) plainly r.turns 0 (start script) r.last first end r.has_turns.run tt in
      record {
        answers = answers_of (session_language limit stop) r.turns;
        cut = r.cut;
        printed = r.printed;
        verdicts = each_from (Says SaysPlainTruth) first.ledger end.ledger (answers_of (session_language limit stop) r.turns) each.0;
      }

  -- where the store reports its files
  abbrev pub Reports : StoreView → Type 0
  Reports store = (files : Files) × (store.files ≡ Some files)

  files_kept : (known : Ledger) (old new : Option Files) (reply : Replied) → Changes (session_language limit stop) known old reply new → (files : Files) × (old ≡ Some files) → (files : Files) × (new ≡ Some files)
  files_kept known old new (Ok (Enters (Saying said))) is (files, reported) = (files, is ∙ reported)
  files_kept known old new (Ok (Enters (Storing success))) (stored, text, is) (files, reported) = (put files success.folder success.name stored, is ∙ ap (option_map (λ (files : Files). put files success.folder success.name stored)) reported)
  files_kept known old new (Ok (Loads loaded)) is (files, reported) = (files, is ∙ reported)
  files_kept known old new (Ok Ends) is (files, reported) = (files, is ∙ reported)
  files_kept known old new (Err fault) is (files, reported) = (files, is ∙ reported)

  pub reports_kept : (depth : ℕ) (old : State (session_language limit stop)) (first : Answered (session_language limit stop)) (store : StoreView) → Replies (session_language limit stop) depth old first store → Reports old.store → Reports store
  reports_kept depth old first store replies reports = files_kept replies.known old.store.files store.files first.reply replies.stored.files reports

  pub changed : (ledger : Ledger) (reply : Replied) → IsNext ledger (ledger_after (session_language limit stop) ledger reply)
  changed ledger (Ok (Enters (Saying said))) = inl refl
  changed ledger (Ok (Enters (Storing success))) = inr (success.folder, success.name, success.entry, refl)
  changed ledger (Ok (Loads loaded)) = inl refl
  changed ledger (Ok Ends) = inl refl
  changed ledger (Err fault) = inl refl

  truly : (depth : ℕ) (old : State (session_language limit stop)) (first : Answered (session_language limit stop)) (store : StoreView) → Replies (session_language limit stop) depth old first store → Reports old.store
      → IsTrueBy old.ledger (answer_of (session_language limit stop) first) (ledger_after (session_language limit stop) old.ledger first.reply)
  truly depth old first store replies reports =
      let same : replies.known ≡ old.ledger = reported_ledger old.store.files reports.0 replies.known old.ledger reports.1 replies.known_is in
      record {
        changed = changed old.ledger first.reply;
        says = says_as (λ text truth. SaysTruth replies.known text truth × (length text ≤ 65536)) (SaysTruth old.ledger) (λ text truth is. subst (λ (known : Ledger). SaysTruth known text truth) same is.0) (answer_of (session_language limit stop) first) (by_reply depth old first store replies);
      }

  pub runs : (from to : SourceView) (old new : StoreView) (held now : SinkView) (state : Status) (script : List ℕ) (files : Files) → HasRun (session_language limit stop) from to old new held now state → from.left ≡ Some script → old.files ≡ Some files → AnswersTruly script files held now
  runs from to old new held now state script files run is reported =
      let r : IsAnswered (session_language limit stop) script old new held now = run_answers (session_language limit stop) from to old new held now state script run is in
      let first : State (session_language limit stop) = first_state (session_language limit stop) old in
      let end : State (session_language limit stop) = record { ledger = r.has_turns.ledger; store = new; room = r.has_turns.room } in
      let each = each_says (session_language limit stop) (λ ledger store. ledger) Reports IsTrueBy reports_kept truly r.turns 0 (start script) r.last first end r.has_turns.run (files, reported) in
      record {
        answers = answers_of (session_language limit stop) r.turns;
        cut = r.cut;
        printed = r.printed;
        last = r.has_turns.ledger;
        verdicts = subst (λ (first : Ledger). EachBy IsTrueBy first (answers_of (session_language limit stop) r.turns) r.has_turns.ledger) (ap first_ledger reported) each.0;
      }
