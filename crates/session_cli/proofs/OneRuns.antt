-- Runs over one script end alike, unless the store, the sink or memory fails.
use Rattle.std.proofs.Common.{◌≡◌, ℕ, ◌⊎◌, Bool, true, false, List, Option, None, Some, Result, Ok, Err, sym, ap, ◌∙◌, subst, inl, inr, refl}
use Rattle.std.specs.Option.{is_some, option_map}
use Rattle.wal_outside.specs.Files.{Files, put}
use Rattle.wal_outside.specs.Views.{SourceView, SinkView, StoreView}
use Rattle.command_line.specs.Words.{GivesOptions}
use Rattle.command_line.specs.declared.options.Options.{Options}
use Rattle.wal_outside.specs.Sending.{Sends, HasSent}
use Rattle.wal_outside.specs.declared.sink.WriteFault.{WriteFault}
use Rattle.made_script.specs.Scripts.{script_text}
use Rattle.script_runs.specs.Languages.{CommandLanguage, Deed}
use Rattle.script_runs.specs.Laws.{IsProper, IsDetermined, IsClean, EndAlike, TextsAlike}
use Rattle.script_runs.specs.TextRuns.{RanWhole}
use Rattle.script_runs.specs.declared.counts.Counts.{Counts}
use Rattle.script_runs.specs.declared.status.Status.{Status}
use Rattle.script_runs.specs.declared.status.Status.TheVariants as status
use Rattle.script_runs.proofs.OneRuns.{runs_end_alike, texts_end_alike, not_stopped, not_memory, not_usage}
use Rattle.definitions.specs.Trees.{Ledger, custom_of}
use Rattle.definitions.proofs.OneTexts.{one_text_of}
use Rattle.system_files.specs.SystemFiles.{Custom}
use Rattle.command_parts.specs.declared.refusal.Refusal.{Refusal}
use Rattle.command_parts.specs.declared.fault.Fault.{Fault}
use Rattle.command_parts.specs.declared.fault.Fault.TheVariants as faults
use Rattle.command_parts.specs.Checks.{Check, Fails}
use Rattle.command_parts.specs.Accepting.{Success, Accepted, Storing, Saying}
use Rattle.session_cli.specs.RunOutcomes.{run_checks}
use Rattle.session_cli.specs.SessionLanguage.{IsReply, StoresEntry, ChangesFiles, is_memory_fault, session_language}
use Rattle.command_parts.specs.StoreFailures.{failed_at}
use Rattle.session_cli.specs.Made.{made_line, made_status, HasMade}
use Rattle.session_cli.specs.Whole.{HasServed, HasCalled}
use Rattle.session_cli.proofs.WholeSteps.{usage_or_memory}
use Rattle.command_line.proofs.OneOptions.{one_options}
use Rattle.session_cli.proofs.OneReplies.{one_reply}

-- what a check answers, as a reply
abbrev as_reply : Result (Deed Accepted) Refusal → Result (Deed Accepted) Fault
as_reply (Ok deed) = Ok deed
as_reply (Err refusal) = Err (faults.Refused refusal)

record IsAnswered (checks : Check (Deed Accepted)) (reply : Result (Deed Accepted) Fault) : Type 0 where
  answer : Result (Deed Accepted) Refusal
  answers : checks.answers answer
  is : reply ≡ as_reply answer

-- a check that is not refused by the store or by memory is refused by its answer
own_answer : (checks : Check (Deed Accepted)) (f : Fault) → Fails checks f → is_some (failed_at f) ≡ false → is_memory_fault f ≡ false → IsAnswered checks (Err f)
own_answer checks (faults.Refused refusal) fails store memory = record { answer = Err refusal; answers = fails; is = refl }
own_answer checks (faults.Store folder name) fails store memory = absurd (cc)
own_answer checks faults.Memory fails store memory = absurd (cc)

-- a reply that is neither the store's nor memory's is what the checks answer
proper : (limit : ℕ) (stop : Bool) (depth : ℕ) (ledger : Ledger) (text : List ℕ) (reply : Result (Deed Accepted) Fault) → IsReply (run_checks limit depth ledger text) reply → IsProper (session_language limit stop) reply → IsAnswered (run_checks limit depth ledger text) reply
proper limit stop depth ledger text (Ok deed) is own = record { answer = Ok deed; answers = is; is = refl }
proper limit stop depth ledger text (Err fault) (inl fails) own = own_answer (run_checks limit depth ledger text) fault fails own.store own.memory
proper limit stop depth ledger text (Err fault) (inr (success, made, is)) own = absurd (by_store (ap (λ (f : Fault). is_some (failed_at f)) (sym is) ∙ own.store))
  where
    by_store : true ≡ false → ⊥
    by_store is = cc

-- two such replies are one
one_proper : (limit depth : ℕ) (ledger : Ledger) (text : List ℕ) (reply other : Result (Deed Accepted) Fault) → IsAnswered (run_checks limit depth ledger text) reply → IsAnswered (run_checks limit depth ledger text) other → reply ≡ other
one_proper limit depth ledger text reply other p q = p.is ∙ (ap as_reply (one_reply limit depth ledger text p.answer q.answer p.answers q.answers) ∙ sym q.is)

-- a command that stores changes the files in one way
one_entry : (custom : Custom) (success : Success) (old new new' : Option Files) → StoresEntry custom success old new → StoresEntry custom success old new' → new ≡ new'
one_entry custom success old new new' (stored, has, is) (stored', has', is') =
    let texts : stored ≡ stored' = one_text_of custom success.entry stored stored' has has' in
    let middle : option_map (λ files. put files success.folder success.name stored) old ≡ option_map (λ files. put files success.folder success.name stored') old = λ i. option_map (λ files. put files success.folder success.name (texts i)) old in
    is ∙ (middle ∙ sym is')

-- and so does each accepted command
one_change : (custom : Custom) (accepted : Accepted) (old new new' : Option Files) → ChangesFiles custom accepted old new → ChangesFiles custom accepted old new' → new ≡ new'
one_change custom (Storing success) old new new' a b = one_entry custom success old new new' a b
one_change custom (Saying said) old new new' a b = a ∙ sym b

stays : (custom : Custom) (accepted : Accepted) (files : Files) (new : Option Files) → ChangesFiles custom accepted (Some files) new → (later : Files) × (new ≡ Some later)
stays custom (Storing success) files new (stored, has, is) = (put files success.folder success.name stored, is)
stays custom (Saying said) files new is = (files, is)

pub session_is_determined : (limit : ℕ) (stop : Bool) → IsDetermined (session_language limit stop)
session_is_determined limit stop = record {
  one_reply = λ depth ledger text reply other a b own own'. one_proper limit depth ledger text reply other (proper limit stop depth ledger text reply a own) (proper limit stop depth ledger text other b own');
  one_change = λ ledger accepted old new new' a b. one_change (custom_of ledger) accepted old new new' a b;
  stays_reported = λ ledger accepted files new changed. stays (custom_of ledger) accepted files new changed;
}

-- a clean call ran with the options that the words give
pub clean_run : (words : List (List ℕ)) (from to : SourceView) (old new : StoreView) (held now : SinkView) (state : Status) → HasCalled words from to old new held now state → IsClean state
    → (options : Options) × GivesOptions words options × HasServed options.limit options.stop options.seed from to old new held now state
clean_run words from to old new held now state (inl ran) clean = ran
clean_run words from to old new held now state (inr (inl (none, usage))) clean = absurd (unclean (usage_or_memory usage.shown.0 state usage.shown.2))
  where
    unclean : (state ≡ status.Usage) ⊎ (state ≡ status.Memory) → ⊥
    unclean (inl is) = not_usage state is clean
    unclean (inr is) = not_memory state is clean
clean_run words from to old new held now state (inr (inr unread)) clean = absurd (not_memory state unread.state_is clean)

-- a run whose line was printed
clean_made : {F : Type 0} (l : CommandLanguage F) (seed : ℕ) (old new : StoreView) (held now : SinkView) (state : Status) → HasMade l seed old new held now state → IsClean state
    → (counts : Counts) × RanWhole l (script_text seed) old new counts state × HasSent held (made_line seed counts) now
clean_made l seed old new held now state (inl made) clean = by_sent made.prints.0 made.prints.1 made.prints.2
  where
    by_sent : (sent : Result (Unit {0}) WriteFault) → Sends held (made_line seed made.run.counts) sent now → state ≡ made_status made.run.status sent
        → (counts : Counts) × RanWhole l (script_text seed) old new counts state × HasSent held (made_line seed counts) now
    by_sent (Ok done) sends is = (made.run.counts, subst (λ (s : Status). RanWhole l (script_text seed) old new made.run.counts s) (sym is) made.ran, sends)
    by_sent (Err fault) sends is = absurd (not_stopped fault state is clean)
clean_made l seed old new held now state (inr short) clean = absurd (not_memory state short.state_is clean)

-- runs of one generated script, from the same files, that end clean end alike
pub made_alike : {F : Type 0} (l : CommandLanguage F) → IsDetermined l → (seed : ℕ) (files : Files) (old new old' new' : StoreView) (held now held' now' : SinkView) (state state' : Status)
    → HasMade l seed old new held now state → HasMade l seed old' new' held' now' state' → old.files ≡ Some files → old'.files ≡ Some files → IsClean state → IsClean state' → EndAlike new new' held now held' now' state state'
made_alike l determined seed files old new old' new' held now held' now' state state' made made' reported reported' clean clean' =
    let a = clean_made l seed old new held now state made clean in
    let b = clean_made l seed old' new' held' now' state' made' clean' in
    let same : TextsAlike new new' a.0 b.0 state state' = texts_end_alike l determined (script_text seed) files old new old' new' a.0 b.0 state state' a.1 b.1 reported reported' clean clean' in
    let P : Counts → Type 0 = λ counts. HasSent held' (made_line seed counts) now' in
    record { status = same.status; files = same.files; text = made_line seed a.0; printed = a.2; printed' = subst P (sym same.counts) b.2 }

-- what a call runs ends alike
served_alike : (limit : ℕ) (stop : Bool) (seed : Option ℕ) (script : List ℕ) (files : Files) (from to from' to' : SourceView) (old new old' new' : StoreView) (held now held' now' : SinkView) (state state' : Status)
    → HasServed limit stop seed from to old new held now state → HasServed limit stop seed from' to' old' new' held' now' state'
    → from.left ≡ Some script → from'.left ≡ Some script → old.files ≡ Some files → old'.files ≡ Some files → IsClean state → IsClean state'
    → EndAlike new new' held now held' now' state state'
served_alike limit stop None script files from to from' to' old new old' new' held now held' now' state state' ran ran' is is' reported reported' clean clean' =
    runs_end_alike (session_language limit stop) (session_is_determined limit stop) script files from to from' to' old new old' new' held now held' now' state state' ran ran' is is' reported reported' clean clean'
served_alike limit stop (Some seed) script files from to from' to' old new old' new' held now held' now' state state' ran ran' is is' reported reported' clean clean' =
    made_alike (session_language limit stop) (session_is_determined limit stop) seed files old new old' new' held now held' now' state state' ran.1 ran'.1 reported reported' clean clean'

-- calls with the same words over one script, from the same files, that end clean end alike
pub calls_alike : (words : List (List ℕ)) (script : List ℕ) (files : Files) (from to from' to' : SourceView) (old new old' new' : StoreView) (held now held' now' : SinkView) (state state' : Status)
    → HasCalled words from to old new held now state → HasCalled words from' to' old' new' held' now' state'
    → from.left ≡ Some script → from'.left ≡ Some script → old.files ≡ Some files → old'.files ≡ Some files → IsClean state → IsClean state'
    → EndAlike new new' held now held' now' state state'
calls_alike words script files from to from' to' old new old' new' held now held' now' state state' call call' is is' reported reported' clean clean' =
    let ran : (options : Options) × GivesOptions words options × HasServed options.limit options.stop options.seed from to old new held now state = clean_run words from to old new held now state call clean in
    let ran' : (options : Options) × GivesOptions words options × HasServed options.limit options.stop options.seed from' to' old' new' held' now' state' = clean_run words from' to' old' new' held' now' state' call' clean' in
    let same : ran'.0 ≡ ran.0 = one_options words ran'.0 ran.0 ran'.1 ran.1 in
    let P : Options → Type 0 = λ options. HasServed options.limit options.stop options.seed from' to' old' new' held' now' state' in
    served_alike ran.0.limit ran.0.stop ran.0.seed script files from to from' to' old new old' new' held now held' now' state state' ran.2 (subst P same ran'.2) is is' reported reported' clean clean'
