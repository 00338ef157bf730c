-- What a status says.
use Rattle.std.proofs.Common.{◌≡◌, ℕ, suc, ◌≤◌, Bool, true, false, ◌||◌, ◌⊎◌, IsTrue, List, ◌∷◌, ◌++◌, Ok, Err, refl, sym, ◌∙◌, ap, subst, inl, inr, arith}
use Rattle.wal_outside.specs.Causes.{Rose}
use Rattle.wal_outside.specs.Sending.{Sends, HasSent}
use Rattle.wal_outside.specs.Views.{SourceView, StoreView, SinkView}
use Rattle.wal_outside.specs.declared.sink.WriteFault.{WriteFault}
use Rattle.wal_outside.specs.declared.sink.WriteFault.TheVariants as writes
use Rattle.script_cut.specs.Cuts.{Rest, start}
use Rattle.script_runs.specs.declared.status.Status.{Status}
use Rattle.script_runs.specs.declared.status.Status.TheVariants as status
use Rattle.script_runs.specs.Languages.{CommandLanguage, Enters, Loads, Ends, Reply}
use Rattle.script_runs.specs.Replies.{State, Answered, state_after, is_by_store}
use Rattle.script_runs.specs.Turns.{Turns, no_more, cut_off, turn, in_order}
use Rattle.script_runs.specs.Runs.{room_at, place_with, with_room, Run}
use Rattle.script_runs.specs.Printed.{some_of, status_by}
use Rattle.script_runs.specs.Flows.{Loaded}
use Rattle.script_runs.specs.Ends.{stop_status, SourceFailed, WantedMemory, HasRun}
use Rattle.script_runs.specs.declared.counts.Counts.{Counts}
use Rattle.script_runs.specs.TextRuns.{RanWhole}
use Rattle.script_runs.proofs.Counting.{some_of-append}

module _ {F : Type 0} (l : CommandLanguage F) where
  -- of what a command loads holds what holds of all turns
  pub of_loaded : (inside : Turns l) (depth : ℕ) (Q : State l → State l → Type 0) → ((here : State l) → inside ≡ no_more → Q here here) → ((place last : Rest) (old new : State l) → Run l depth place old inside last new → Q old new)
      → (reply : Reply l) (here later : State l) → Loaded l depth reply here inside later → Q here later
  of_loaded inside depth Q none some (Ok (Enters success)) here later (is, same) = subst (λ (s : State l). Q here s) (sym same) (none here is)
  of_loaded inside depth Q none some (Ok (Loads text)) here later (end, run, ended) = some (start text) end here later run
  of_loaded inside depth Q none some (Ok Ends) here later (is, same) = subst (λ (s : State l). Q here s) (sym same) (none here is)
  of_loaded inside depth Q none some (Err fault) here later (is, same) = subst (λ (s : State l). Q here s) (sym same) (none here is)

  -- the store's count never falls
  pub later_of_run : (turns : Turns l) (depth : ℕ) (place last : Rest) (old new : State l) → Run l depth place old turns last new → old.store.faults ≤ new.store.faults
  later_of_run no_more depth place last old new run = let same : new.store.faults ≡ old.store.faults = ap (λ (s : State l). s.store.faults) run.1 in omega arith
  later_of_run cut_off depth place last old new run = let same : new.store.faults ≡ old.store.faults = ap (λ (s : State l). s.store.faults) run.1 in omega arith
  later_of_run (turn first inside after) depth place last old new (mid, store, later, next, replies, loaded, ends, run) =
      omega (
        arith,
        replies.stored.later,
        of_loaded inside (suc depth) (λ here later. here.store.faults ≤ later.store.faults) (λ here is. omega arith) (later_of_run inside (suc depth)) first.reply (state_after l (with_room l old (room_at depth mid old.room)) first.reply store) later loaded,
        later_of_run after depth (place_with depth mid later.room) last later new run,
      )

  -- a store fault that is the reply to one of the turns
  rose_first : (u v w : Bool) (a b c d : ℕ) → a ≤ b → b ≤ c → c ≤ d → (u ≡ true → Rose a b) → (v ≡ true → Rose b c) → (w ≡ true → Rose c d) → (u || (v || w)) ≡ true → Rose a d
  rose_first true v w a b c d ab bc cd p q r is = omega (arith, ab, bc, cd, p refl)
  rose_first false true w a b c d ab bc cd p q r is = omega (arith, ab, bc, cd, q refl)
  rose_first false false w a b c d ab bc cd p q r is = omega (arith, ab, bc, cd, r is)

  some_among : (first : Answered l) (inside after : List (Answered l)) → IsTrue (some_of l (is_by_store l) (first ∷ (inside ++ after))) → (is_by_store l first.reply || (some_of l (is_by_store l) inside || some_of l (is_by_store l) after)) ≡ true
  some_among first inside after some = sym (ap (λ (v : Bool). is_by_store l first.reply || v) (some_of-append l (is_by_store l) inside after)) ∙ some

  -- and rose where some reply is a store fault
  pub rose_of_run : (turns : Turns l) (depth : ℕ) (place last : Rest) (old new : State l) → Run l depth place old turns last new → IsTrue (some_of l (is_by_store l) (in_order l turns)) → Rose old.store.faults new.store.faults
  rose_of_run no_more depth place last old new run some = absurd (cc)
  rose_of_run cut_off depth place last old new run some = absurd (cc)
  rose_of_run (turn first inside after) depth place last old new (mid, store, later, next, replies, loaded, ends, run) some =
      let here : State l = state_after l (with_room l old (room_at depth mid old.room)) first.reply store in
      rose_first (is_by_store l first.reply) (some_of l (is_by_store l) (in_order l inside)) (some_of l (is_by_store l) (in_order l after)) old.store.faults store.faults later.store.faults new.store.faults
      replies.stored.later
      (of_loaded inside (suc depth) (λ here later. here.store.faults ≤ later.store.faults) (λ here is. omega arith) (later_of_run inside (suc depth)) first.reply here later loaded)
      (later_of_run after depth (place_with depth mid later.room) last later new run)
      replies.stored.cause
      (of_loaded inside (suc depth) (λ here later. some_of l (is_by_store l) (in_order l inside) ≡ true → Rose here.store.faults later.store.faults) (λ here is some. absurd (none_some inside is some)) (λ place last old new run some. rose_of_run inside (suc depth) place last old new run some) first.reply here later loaded)
      (λ some. rose_of_run after depth (place_with depth mid later.room) last later new run some)
      (some_among first (in_order l inside) (in_order l after) some)
    where
      none_some : (inside : Turns l) → inside ≡ no_more → some_of l (is_by_store l) (in_order l inside) ≡ true → ⊥
      none_some no_more is some = cc
      none_some cut_off is some = cc
      none_some (turn first inside after) is some = cc

  store_of_outside : (refused store memory : Bool) → status_by refused store memory ≡ status.Outside → store ≡ true
  store_of_outside refused store true is = cc
  store_of_outside refused true false is = refl
  store_of_outside true false false is = cc
  store_of_outside false false false is = cc

  outside_of_stop : (stop : WriteFault) (old mid now : SinkView) (sent : List ℕ) (text : List ℕ) (state : Status) → HasSent old sent mid → Sends mid text (Err stop) now → state ≡ stop_status stop → state ≡ status.Outside → Rose old.faults now.faults
  outside_of_stop writes.Failed old mid now sent text state before stopped is outside = rw before.faults at stopped.faults.1
  outside_of_stop writes.Memory old mid now sent text state before stopped is outside = cc

  -- the source's count rose, or the sink's, or the store's
  pub rose_of_outside : (from to : SourceView) (old new : StoreView) (held now : SinkView) (state : Status) → HasRun l from to old new held now state → state ≡ status.Outside → Rose from.faults to.faults ⊎ (Rose held.faults now.faults ⊎ Rose old.faults new.faults)
  rose_of_outside from to old new held now state (gave, more, given, inl ran) outside = inr (inr (rose_of_run ran.turns 0 _ ran.last _ _ ran.has_turns.run (store_of_outside _ _ _ (sym ran.state_is ∙ outside))))
  rose_of_outside from to old new held now state (gave, more, given, inr (inl ran)) outside = inr (inl (outside_of_stop ran.fault held ran.part.mid now _ _ state ran.part.sent ran.part.stopped ran.state_is outside))
  rose_of_outside from to old new held now state (gave, more, given, inr (inr ran)) outside = inl (by_cause ran.cause)
    where
      by_cause : SourceFailed l ran.turns from to gave ran.suffix state ⊎ WantedMemory l ran.turns from to state → Rose from.faults to.faults
      by_cause (inl failed) = failed.rose
      by_cause (inr memory) = let is : state ≡ status.Memory = memory.state_is in cc

  -- and over a text that is given whole the store's
  pub rose_of_text : (text : List ℕ) (old new : StoreView) (counts : Counts) (state : Status) → RanWhole l text old new counts state → state ≡ status.Outside → Rose old.faults new.faults
  rose_of_text text old new counts state ran outside = rose_of_run ran.turns 0 _ ran.last _ _ ran.has_turns.run (store_of_outside _ _ _ (sym ran.state_is ∙ outside))

  not_usage_by : (refused store memory : Bool) → status_by refused store memory ≡ status.Usage → ⊥
  not_usage_by refused store true is = cc
  not_usage_by refused true false is = cc
  not_usage_by true false false is = cc
  not_usage_by false false false is = cc

  -- no run over a text has the status of words that are refused
  pub text_no_usage : (text : List ℕ) (old new : StoreView) (counts : Counts) (state : Status) → RanWhole l text old new counts state → state ≡ status.Usage → ⊥
  text_no_usage text old new counts state ran usage = not_usage_by _ _ _ (sym ran.state_is ∙ usage)
