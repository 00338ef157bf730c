-- Runs over one script end alike, unless the store, the sink or memory fails.
use Rattle.std.proofs.Common.{◌≡◌, ℕ, suc, ◌+◌, ◌-◌, ◌^◌, ◌<◌, ◌≤◌, min, ◌⊎◌, Bool, true, false, ◌||◌, if◌then◌else◌, List, [], ◌∷◌, ◌++◌, length, Option, None, Some, IfSome, Ok, Err, refl, sym, ap, ◌∙◌, subst, inl, inr, arith}
use Rattle.std.specs.Io.KnownBytes.{Consumes}
use Rattle.wal_outside.specs.Files.{Files}
use Rattle.wal_outside.specs.Sending.{HasSent}
use Rattle.wal_outside.specs.Views.{SourceView, SinkView, StoreView}
use Rattle.wal_outside.specs.declared.sink.WriteFault.{WriteFault}
use Rattle.wal_outside.specs.declared.sink.WriteFault.TheVariants as writes
use Rattle.script_cut.specs.Cuts.{Ended, Terminated, Unterminated, PastLimit, Item, Rest, start, IsAtEnd}
use Rattle.script_cut.proofs.OneList.{Same, same_next, none_next}
use Rattle.script_runs.specs.declared.status.Status.{Status}
use Rattle.script_runs.specs.declared.status.Status.TheVariants as status
use Rattle.script_runs.specs.Languages.{CommandLanguage, Enters, Loads, Ends, Reply}
use Rattle.script_runs.specs.Replies.{IsOpenReply, FitsIn, PassesLimit, IsReplyOf, Changes, State, Answered, Replies, state_after, ledger_after, room_after, is_refusal, is_by_store, is_by_memory}
use Rattle.script_runs.specs.Turns.{Turns, no_more, cut_off, turn, in_order, is_cut_off, goes_on, IsDue}
use Rattle.script_runs.specs.Runs.{room_at, place_with, with_room, Run, first_state}
use Rattle.script_runs.specs.Printed.{some_of, status_by, status_of, printed}
use Rattle.script_runs.specs.Ends.{stop_status, HasTurns, RanThrough, SourceFailed, WantedMemory, HasRun}
use Rattle.script_runs.specs.Flows.{Loaded}
use Rattle.script_runs.specs.Laws.{IsProper, IsDetermined, IsClean, EndAlike, RunsEndAlike, TextRunsEndAlike, store_faults, StoreFaultsAreCounted}
use Rattle.script_runs.specs.declared.counts.Counts.{Counts}
use Rattle.script_runs.specs.Counted.{AreCounted}
use Rattle.script_runs.proofs.Counting.{some_of-append}
use Rattle.script_runs.proofs.Statuses.{of_loaded}

-- the count of store faults
faults-append : {F : Type 0} (l : CommandLanguage F) (prefix more : List (Answered l)) → store_faults l (prefix ++ more) ≡ store_faults l prefix + store_faults l more
faults-append l [] more = omega arith
faults-append l (a ∷ prefix) more = omega (arith, faults-append l prefix more)

pub store_faults_are_counted : {F : Type 0} (l : CommandLanguage F) → StoreFaultsAreCounted l
store_faults_are_counted l = λ depth turns. counted turns depth
  where
    more : (v : Bool) (j k n a b c d : ℕ) → n ≡ j + k → a ≤ b → (v ≡ true → min (a + 1) (2 ^ 64 - 1) ≤ b) → min (b + j) (2 ^ 64 - 1) ≤ c → min (c + k) (2 ^ 64 - 1) ≤ d → min (a + ((if v then 1 else 0) + n)) (2 ^ 64 - 1) ≤ d
    more true j k n a b c d is later cause first rest = omega (arith, is, cause refl, first, rest)
    more false j k n a b c d is later cause first rest = omega (arith, is, later, first, rest)

    none : (inside : Turns l) (n : ℕ) → inside ≡ no_more → min (n + store_faults l (in_order l inside)) (2 ^ 64 - 1) ≤ n
    none no_more n is = omega arith
    none cut_off n is = absurd (cc)
    none (turn first inside after) n is = absurd (cc)

    counted : (turns : Turns l) (depth : ℕ) (place last : Rest) (old new : State l) → Run l depth place old turns last new → min (old.store.faults + store_faults l (in_order l turns)) (2 ^ 64 - 1) ≤ new.store.faults
    counted no_more depth place last old new run = let same : new.store.faults ≡ old.store.faults = ap (λ (s : State l). s.store.faults) run.1 in omega arith
    counted cut_off depth place last old new run = let same : new.store.faults ≡ old.store.faults = ap (λ (s : State l). s.store.faults) run.1 in omega arith
    counted (turn first inside after) depth place last old new (mid, store, later, next, replies, loaded, ends, run) =
        more (is_by_store l first.reply) (store_faults l (in_order l inside)) (store_faults l (in_order l after)) (store_faults l (in_order l inside ++ in_order l after)) old.store.faults store.faults later.store.faults new.store.faults
        (faults-append l (in_order l inside) (in_order l after)) replies.stored.later replies.stored.cause
        (of_loaded l inside (suc depth) (λ here later. min (here.store.faults + store_faults l (in_order l inside)) (2 ^ 64 - 1) ≤ later.store.faults) (λ here is. none inside here.store.faults is) (counted inside (suc depth)) first.reply (state_after l (with_room l old (room_at depth mid old.room)) first.reply store) later loaded)
        (counted after depth (place_with depth mid later.room) last later new run)

-- where the files are reported, an item is answered by its ledger
known_same : {L : Type 0} (reported : Option Files) (files : Files) (ledger known : L) → reported ≡ Some files → IfSome reported (λ (files : Files). known ≡ ledger) → known ≡ ledger
known_same None files ledger known is same = cc
known_same (Some others) files ledger known is same = same

none_first : (v w : Bool) → (v || w) ≡ false → v ≡ false
none_first true w is = cc
none_first false w is = refl

none_later : (v w : Bool) → (v || w) ≡ false → w ≡ false
none_later true w is = cc
none_later false w is = is

-- no reply is the store's or memory's
pub record AreProper {F : Type 0} (l : CommandLanguage F) (answered : List (Answered l)) : Type 0 where
  pub store : some_of l (is_by_store l) answered ≡ false
  pub memory : some_of l (is_by_memory l) answered ≡ false

module _ {F : Type 0} (l : CommandLanguage F) where
  parted : (p : Reply l → Bool) (prefix more : List (Answered l)) → some_of l p (prefix ++ more) ≡ false → (some_of l p prefix ≡ false) × (some_of l p more ≡ false)
  parted p prefix more none =
      let both : (some_of l p prefix || some_of l p more) ≡ false = sym (some_of-append l p prefix more) ∙ none in
      (none_first (some_of l p prefix) (some_of l p more) both, none_later (some_of l p prefix) (some_of l p more) both)

  -- so of the first ones
  pub proper_prefix : (prefix more : List (Answered l)) → AreProper l (prefix ++ more) → AreProper l prefix
  proper_prefix prefix more are = record { store = (parted (is_by_store l) prefix more are.store).0; memory = (parted (is_by_memory l) prefix more are.memory).0 }

  proper_first : (first : Answered l) (answered : List (Answered l)) → AreProper l (first ∷ answered) → IsProper l first.reply
  proper_first first answered are = record {
    store = none_first (is_by_store l first.reply) (some_of l (is_by_store l) answered) are.store;
    memory = none_first (is_by_memory l first.reply) (some_of l (is_by_memory l) answered) are.memory;
  }

  proper_rest : (first : Answered l) (inside after : List (Answered l)) → AreProper l (first ∷ (inside ++ after)) → AreProper l inside × AreProper l after
  proper_rest first inside after are =
      let store = parted (is_by_store l) inside after (none_later (is_by_store l first.reply) (some_of l (is_by_store l) (inside ++ after)) are.store) in
      let memory = parted (is_by_memory l) inside after (none_later (is_by_memory l first.reply) (some_of l (is_by_memory l) (inside ++ after)) are.memory) in
      (record { store = store.0; memory = memory.0 }, record { store = store.1; memory = memory.1 })

-- how a text without terminator is refused
same_open : {F : Type 0} (l : CommandLanguage F) (text : List ℕ) (reply other : Reply l) → IsOpenReply l text reply → IsOpenReply l text other → reply ≡ other
same_open l text reply other (inl (long, is)) (inl (long', is')) = is ∙ sym is'
same_open l text reply other (inl (long, is)) (inr (short, is')) = absurd (omega arith)
same_open l text reply other (inr (short, is)) (inl (long, is')) = absurd (omega arith)
same_open l text reply other (inr (short, is)) (inr (short', is')) = is ∙ sym is'

clean_store : (refused store memory : Bool) → IsClean (status_by refused store memory) → (store ≡ false) × (memory ≡ false)
clean_store refused store true (inl is) = cc
clean_store refused store true (inr is) = cc
clean_store refused true false (inl is) = cc
clean_store refused true false (inr is) = cc
clean_store refused false false clean = (refl, refl)

pub clean_replies : {F : Type 0} (l : CommandLanguage F) (answered : List (Answered l)) (state : Status) → state ≡ status_of l answered → IsClean state → AreProper l answered
clean_replies l answered state is clean =
    let P : Status → Type 0 = λ s. IsClean s in
    let both : (some_of l (is_by_store l) answered ≡ false) × (some_of l (is_by_memory l) answered ≡ false) = clean_store (some_of l (is_refusal l) answered) (some_of l (is_by_store l) answered) (some_of l (is_by_memory l) answered) (subst P is clean) in
    record { store = both.0; memory = both.1 }

-- the sink does not stop a clean run
pub not_stopped : (stop : WriteFault) (state : Status) → state ≡ stop_status stop → IsClean state → ⊥
not_stopped writes.Failed state is (inl done) = cc
not_stopped writes.Failed state is (inr refused) = cc
not_stopped writes.Memory state is (inl done) = cc
not_stopped writes.Memory state is (inr refused) = cc

pub not_memory : (state : Status) → state ≡ status.Memory → IsClean state → ⊥
not_memory state is (inl done) = cc
not_memory state is (inr refused) = cc

not_outside : (state : Status) → state ≡ status.Outside → IsClean state → ⊥
not_outside state is (inl done) = cc
not_outside state is (inr refused) = cc

pub not_usage : (state : Status) → state ≡ status.Usage → IsClean state → ⊥
not_usage state is (inl done) = cc
not_usage state is (inr refused) = cc

-- and neither the source nor out of memory
no_fault : {F : Type 0} (l : CommandLanguage F) (turns : Turns l) (from to : SourceView) (gave suffix : List ℕ) (state : Status) → SourceFailed l turns from to gave suffix state ⊎ WantedMemory l turns from to state → IsClean state → ⊥
no_fault l turns from to gave suffix state (inl failed) clean = not_outside state failed.state_is clean
no_fault l turns from to gave suffix state (inr memory) clean = not_memory state memory.state_is clean

-- all of the script is what was given and what is left
whole_script : (from to : Option (List ℕ)) (gave more script : List ℕ) → Consumes from to gave → IfSome to (λ left. more ≡ left) → from ≡ Some script → gave ++ more ≡ script
whole_script None to gave more script taken reported is = cc
whole_script (Some left) None gave more script taken reported is = absurd taken
whole_script (Some left) (Some rest) gave more script taken reported is = let same : left ≡ script = cc in ap (λ (xs : List ℕ). gave ++ xs) reported ∙ (sym taken ∙ same)

pub clean_through : {F : Type 0} (l : CommandLanguage F) (script : List ℕ) (from to : SourceView) (old new : StoreView) (held now : SinkView) (state : Status) → HasRun l from to old new held now state → from.left ≡ Some script → IsClean state → RanThrough l script from to old new held now state
clean_through l script from to old new held now state (gave, more, given, inl ran) is clean =
    let same : gave ++ more ≡ script = whole_script from.left to.left gave more script given.taken given.reported is in
    let Q : List ℕ → Type 0 = λ s. RanThrough l s from to old new held now state in subst Q same ran
clean_through l script from to old new held now state (gave, more, given, inr (inl ran)) is clean = absurd (not_stopped ran.fault state ran.state_is clean)
clean_through l script from to old new held now state (gave, more, given, inr (inr ran)) is clean = absurd (no_fault l ran.turns from to gave ran.suffix state ran.cause clean)

-- two states of which the same is known, with as many bytes that may be read, and the same files, which are reported
pub record Alike {F : Type 0} (l : CommandLanguage F) (s t : State l) : Type 0 where
  pub ledger : s.ledger ≡ t.ledger
  pub room : s.room ≡ t.room
  pub files : Files
  pub reported : s.store.files ≡ Some files
  pub reported' : t.store.files ≡ Some files

module _ {F : Type 0} (l : CommandLanguage F) (determined : IsDetermined l) where
  alike_to : (s t s' t' : State l) → s' ≡ s → t' ≡ t → Alike l s t → Alike l s' t'
  alike_to s t s' t' is is' a = subst (λ (x : State l). Alike l x t') (sym is) (subst (λ (x : State l). Alike l s x) (sym is') a)

  proper_load : (loaded : List ℕ) → IsProper l (Ok (Loads loaded))
  proper_load loaded = record { store = refl; memory = refl }

  not_fitting : (room : ℕ) (loaded : List ℕ) (reply : Reply l) → reply ≡ Ok (Loads loaded) → FitsIn l room reply → room < length loaded → ⊥
  not_fitting room loaded reply is fits over = let fits' : length loaded ≤ room = subst (λ (r : Reply l). FitsIn l room r) is fits in omega arith

  -- an item has one reply that is neither the store's nor memory's
  same_command : (depth room : ℕ) (ledger : l.Ledger) (text : List ℕ) (reply other : Reply l) → IsProper l reply → IsProper l other
      → (l.answers depth ledger text reply × FitsIn l room reply) ⊎ PassesLimit l depth room ledger text reply → (l.answers depth ledger text other × FitsIn l room other) ⊎ PassesLimit l depth room ledger text other → reply ≡ other
  same_command depth room ledger text reply other is is' (inl a) (inl b) = determined.one_reply depth ledger text reply other a.0 b.0 is is'
  same_command depth room ledger text reply other is is' (inl a) (inr (loaded, answered, over, refused)) = absurd (not_fitting room loaded reply (determined.one_reply depth ledger text reply (Ok (Loads loaded)) a.0 answered is (proper_load loaded)) a.1 over)
  same_command depth room ledger text reply other is is' (inr (loaded, answered, over, refused)) (inl b) = absurd (not_fitting room loaded other (determined.one_reply depth ledger text other (Ok (Loads loaded)) b.0 answered is' (proper_load loaded)) b.1 over)
  same_command depth room ledger text reply other is is' (inr a) (inr b) = a.3 ∙ sym b.3

  same_item : (ended : Ended) (depth room : ℕ) (ledger : l.Ledger) (text : List ℕ) (reply other : Reply l) → IsReplyOf l ended depth room ledger text reply → IsReplyOf l ended depth room ledger text other → IsProper l reply → IsProper l other → reply ≡ other
  same_item (Terminated shown) depth room ledger text reply other a b is is' = same_command depth room ledger text reply other is is' a b
  same_item Unterminated depth room ledger text reply other a b is is' = same_open l text reply other a b
  same_item PastLimit depth room ledger text reply other a b is is' = a ∙ sym b

  -- files that are reported stay so
  still_reported : (ledger : l.Ledger) (reply : Reply l) (old new : Option Files) (files : Files) → old ≡ Some files → Changes l ledger old reply new → (later : Files) × (new ≡ Some later)
  still_reported ledger (Ok (Enters success)) old new files is changed = let P : Option Files → Type 0 = λ o. l.changes ledger success o new in determined.stays_reported ledger success files new (subst P is changed)
  still_reported ledger (Ok (Loads loaded)) old new files is new_is = (files, new_is ∙ is)
  still_reported ledger (Ok Ends) old new files is new_is = (files, new_is ∙ is)
  still_reported ledger (Err fault) old new files is new_is = (files, new_is ∙ is)

  -- one reply changes the same files in one way
  same_changes : (ledger : l.Ledger) (reply : Reply l) (old old' new new' : Option Files) → old ≡ old' → Changes l ledger old reply new → Changes l ledger old' reply new' → new ≡ new'
  same_changes ledger (Ok (Enters success)) old old' new new' same changed changed' = let P : Option Files → Type 0 = λ o. l.changes ledger success o new' in determined.one_change ledger success old new new' changed (subst P (sym same) changed')
  same_changes ledger (Ok (Loads loaded)) old old' new new' same is is' = is ∙ (same ∙ sym is')
  same_changes ledger (Ok Ends) old old' new new' same is is' = is ∙ (same ∙ sym is')
  same_changes ledger (Err fault) old old' new new' same is is' = is ∙ (same ∙ sym is')

  -- one item, from states that are alike
  same_reply : (depth : ℕ) (at at' : State l) (item item' : Item) (reply reply' : Reply l) (store store' : StoreView) → Alike l at at' → item ≡ item' → Replies l depth at (record { item = item; reply = reply }) store → Replies l depth at' (record { item = item'; reply = reply' }) store'
      → IsProper l reply → IsProper l reply' → reply ≡ reply'
  same_reply depth at at' item item' reply reply' store store' alike items r r' is is' =
      let known : r.known ≡ at.ledger = known_same at.store.files alike.files at.ledger r.known alike.reported r.known_is in
      let known' : r'.known ≡ at.ledger = known_same at'.store.files alike.files at'.ledger r'.known alike.reported' r'.known_is ∙ sym alike.ledger in
      let P : ℕ → l.Ledger → Item → Type 0 = λ room ledger i. IsReplyOf l i.ended depth room ledger i.text reply' in
      same_item item.ended depth at.room at.ledger item.text reply reply'
      (subst (λ (e : l.Ledger). IsReplyOf l item.ended depth at.room e item.text reply) known r.replied)
      (subst (λ (i : Item). P at.room at.ledger i) (sym items) (subst (λ (n : ℕ). P n at.ledger item') (sym alike.room) (subst (λ (e : l.Ledger). P at'.room e item') known' r'.replied)))
      is is'

  same_after : (depth : ℕ) (at at' : State l) (item item' : Item) (reply reply' : Reply l) (store store' : StoreView) → Alike l at at' → reply ≡ reply' → Replies l depth at (record { item = item; reply = reply }) store → Replies l depth at' (record { item = item'; reply = reply' }) store'
      → Alike l (state_after l at reply store) (state_after l at' reply' store')
  same_after depth at at' item item' reply reply' store store' alike replies r r' =
      let known : r.known ≡ at.ledger = known_same at.store.files alike.files at.ledger r.known alike.reported r.known_is in
      let known' : r'.known ≡ at.ledger = known_same at'.store.files alike.files at'.ledger r'.known alike.reported' r'.known_is ∙ sym alike.ledger in
      let mine : Changes l at.ledger at.store.files reply store.files = subst (λ (e : l.Ledger). Changes l e at.store.files reply store.files) known r.stored.files in
      let theirs : Changes l at.ledger at'.store.files reply store'.files = subst (λ (x : Reply l). Changes l at.ledger at'.store.files x store'.files) (sym replies) (subst (λ (e : l.Ledger). Changes l e at'.store.files reply' store'.files) known' r'.stored.files) in
      let stores : store.files ≡ store'.files = same_changes at.ledger reply at.store.files at'.store.files store.files store'.files (alike.reported ∙ sym alike.reported') mine theirs in
      let more = still_reported at.ledger reply at.store.files store.files alike.files alike.reported mine in
      record {
        ledger = λ i. ledger_after l (alike.ledger i) (replies i);
        room = λ i. room_after l (alike.room i) (replies i);
        files = more.0;
        reported = more.1;
        reported' = sym stores ∙ more.1;
      }

  -- turns are the same, and lead to states that are alike
  abbrev pub SameEnds : Turns l → Turns l → State l → State l → Type 0
  SameEnds turns turns' new new' = (turns ≡ turns') × Alike l new new'

  abbrev AreSame : Turns l → Turns l → ℕ → Type 0
  AreSame turns turns' depth = (place last last' : Rest) (old old' new new' : State l) → Alike l old old' → Run l depth place old turns last new → Run l depth place old' turns' last' new'
      → (is_cut_off l turns ≡ false → IsAtEnd last) → (is_cut_off l turns' ≡ false → IsAtEnd last') → SameEnds turns turns' new new'

  -- so of what a command loads
  same_loaded : (inside inside' : Turns l) (depth : ℕ) → AreSame inside inside' depth → (reply : Reply l) (here here' later later' : State l) → Alike l here here' → Loaded l depth reply here inside later → Loaded l depth reply here' inside' later' → SameEnds inside inside' later later'
  same_loaded inside inside' depth same (Ok (Enters success)) here here' later later' alike (is, to) (is', to') = (is ∙ sym is', alike_to here here' later later' to to' alike)
  same_loaded inside inside' depth same (Ok (Loads text)) here here' later later' alike (end, run, ended) (end', run', ended') = same (start text) end end' here here' later later' alike run run' ended ended'
  same_loaded inside inside' depth same (Ok Ends) here here' later later' alike (is, to) (is', to') = (is ∙ sym is', alike_to here here' later later' to to' alike)
  same_loaded inside inside' depth same (Err fault) here here' later later' alike (is, to) (is', to') = (is ∙ sym is', alike_to here here' later later' to to' alike)

  -- and of what comes after it, where more may come or not
  same_rest : (after after' : Turns l) (depth : ℕ) → (IsDue l after → IsDue l after' → AreSame after after' depth) → (v : Bool) (place place' last last' : Rest) (later later' new new' : State l) → place ≡ place' → Alike l later later'
      → (v ≡ false → after ≡ cut_off) → (v ≡ false → after' ≡ cut_off) → (v ≡ true → IsDue l after) → (v ≡ true → IsDue l after') → Run l depth place later after last new → Run l depth place' later' after' last' new'
      → (is_cut_off l after ≡ false → IsAtEnd last) → (is_cut_off l after' ≡ false → IsAtEnd last') → SameEnds after after' new new'
  same_rest after after' depth same true place place' last last' later later' new new' places alike off off' due due' run run' end end' =
      same (due refl) (due' refl) place last last' later later' new new' alike run (subst (λ (p : Rest). Run l depth p later' after' last' new') (sym places) run') end end'
  same_rest after after' depth same false place place' last last' later later' new new' places alike off off' due due' run run' end end' =
      let stays : Run l depth place later cut_off last new = subst (λ (t : Turns l). Run l depth place later t last new) (off refl) run in
      let stays' : Run l depth place' later' cut_off last' new' = subst (λ (t : Turns l). Run l depth place' later' t last' new') (off' refl) run' in
      (off refl ∙ sym (off' refl), alike_to later later' new new' stays.1 stays'.1 alike)

  pub same_turns : (turns turns' : Turns l) (depth : ℕ) → AreProper l (in_order l turns) → AreProper l (in_order l turns') → IsDue l turns → IsDue l turns' → AreSame turns turns' depth
  same_turns no_more no_more depth are are' due due' = λ place last last' old old' new new' alike run run' end end'. (refl, alike_to old old' new new' run.1 run'.1 alike)
  same_turns no_more cut_off depth are are' due due' = absurd due'
  same_turns no_more (turn first inside after) depth are are' due due' = λ place last last' old old' new new' alike run run' end end'.
      absurd (none_next place first.item run'.0 run'.3 (subst IsAtEnd run.0 (end refl)))
  same_turns cut_off turns' depth are are' due due' = absurd due
  same_turns (turn first inside after) no_more depth are are' due due' = λ place last last' old old' new new' alike run run' end end'.
      absurd (none_next place first.item run.0 run.3 (subst IsAtEnd run'.0 (end' refl)))
  same_turns (turn first inside after) cut_off depth are are' due due' = absurd due'
  same_turns (turn first inside after) (turn first' inside' after') depth are are' due due' = λ place last last' old old' new new' alike (mid, store, later, next, replies, loaded, off, run) (mid', store', later', next', replies', loaded', off', run') end end'.
      let items : Same first.item first'.item mid mid' = same_next place first.item first'.item mid mid' next next' in
      let rest = proper_rest l first (in_order l inside) (in_order l after) are in
      let rest' = proper_rest l first' (in_order l inside') (in_order l after') are' in
      let at : State l = with_room l old (room_at depth mid old.room) in
      let at' : State l = with_room l old' (room_at depth mid' old'.room) in
      let begin : Alike l at at' = record { ledger = alike.ledger; room = λ i. room_at depth (items.place i) (alike.room i); files = alike.files; reported = alike.reported; reported' = alike.reported' } in
      let reply : first.reply ≡ first'.reply = same_reply depth at at' first.item first'.item first.reply first'.reply store store' begin items.item replies replies' (proper_first l first (in_order l inside ++ in_order l after) are) (proper_first l first' (in_order l inside' ++ in_order l after') are') in
      let here : Alike l (state_after l at first.reply store) (state_after l at' first'.reply store') = same_after depth at at' first.item first'.item first.reply first'.reply store store' begin reply replies replies' in
      let load : Loaded l (suc depth) first.reply (state_after l at' first'.reply store') inside' later' = subst (λ (r : Reply l). Loaded l (suc depth) r (state_after l at' first'.reply store') inside' later') (sym reply) loaded' in
      let in_file : SameEnds inside inside' later later' = same_loaded inside inside' (suc depth) (same_turns inside inside' (suc depth) rest.0 rest'.0 due.0 due'.0) first.reply (state_after l at first.reply store) (state_after l at' first'.reply store') later later' here loaded load in
      let going : goes_on l first.reply inside ≡ goes_on l first'.reply inside' = λ i. goes_on l (reply i) (in_file.0 i) in
      let places : place_with depth mid later.room ≡ place_with depth mid' later'.room = λ i. place_with depth (items.place i) (in_file.1.room i) in
      let ends : SameEnds after after' new new' = same_rest after after' depth (λ due due'. same_turns after after' depth rest.1 rest'.1 due due') (goes_on l first.reply inside) (place_with depth mid later.room) (place_with depth mid' later'.room) last last' later later' new new' places in_file.1
      off (λ ends. off' (sym going ∙ ends)) due.1 (λ on. due'.1 (sym going ∙ on)) run run' end end' in
      (λ i. turn (record { item = items.item i; reply = reply i }) (in_file.0 i) (ends.0 i), ends.1)

  -- the turns of one script, from the same files, that end clean are the same, and so are the files after them
  clean_turns : (text : List ℕ) (files : Files) (old new old' new' : StoreView) (turns turns' : Turns l) (last last' : Rest) (state state' : Status) → HasTurns l text old turns last new → HasTurns l text old' turns' last' new' → IsDue l turns → IsDue l turns'
      → (is_cut_off l turns ≡ false → IsAtEnd last) → (is_cut_off l turns' ≡ false → IsAtEnd last') → state ≡ status_of l (in_order l turns) → state' ≡ status_of l (in_order l turns') → old.files ≡ Some files → old'.files ≡ Some files → IsClean state → IsClean state'
      → (turns ≡ turns') × (new.files ≡ new'.files)
  clean_turns text files old new old' new' turns turns' last last' state state' has has' due due' end end' is is' reported reported' clean clean' =
      let begin : Alike l (first_state l old) (first_state l old') = record { ledger = ap l.first (reported ∙ sym reported'); room = refl; files = files; reported = reported; reported' = reported' } in
      let same = same_turns turns turns' 0 (clean_replies l (in_order l turns) state is clean) (clean_replies l (in_order l turns') state' is' clean') due due'
      (start text) last last' (first_state l old) (first_state l old') (record { ledger = has.ledger; store = new; room = has.room }) (record { ledger = has'.ledger; store = new'; room = has'.room }) begin has.run has'.run end end' in
      (same.0, same.1.reported ∙ sym same.1.reported')

  through_alike : (text : List ℕ) (files : Files) (from to from' to' : SourceView) (old new old' new' : StoreView) (held now held' now' : SinkView) (state state' : Status) → RanThrough l text from to old new held now state → RanThrough l text from' to' old' new' held' now' state'
      → old.files ≡ Some files → old'.files ≡ Some files → IsClean state → IsClean state' → EndAlike new new' held now held' now' state state'
  through_alike text files from to from' to' old new old' new' held now held' now' state state' a b reported reported' clean clean' =
      let same : (a.turns ≡ b.turns) × (new.files ≡ new'.files) = clean_turns text files old new old' new' a.turns b.turns a.last b.last state state' a.has_turns b.has_turns a.due b.due a.end b.end a.state_is b.state_is reported reported' clean clean' in
      let texts : printed l (in_order l b.turns) ≡ printed l (in_order l a.turns) = λ i. printed l (in_order l (sym same.0 i)) in
      record {
        status = a.state_is ∙ (ap (λ (t : Turns l). status_of l (in_order l t)) same.0 ∙ sym b.state_is);
        files = same.1;
        text = printed l (in_order l a.turns);
        printed = a.sent;
        printed' = let R : List ℕ → Type 0 = λ text. HasSent held' text now' in subst R texts b.sent;
      }

  -- counts of the same items
  same_counts : (answered answered' : List (Answered l)) (counts counts' : Counts) → answered ≡ answered' → AreCounted l answered counts → AreCounted l answered' counts' → counts ≡ counts'
  same_counts answered answered' counts counts' same a b =
      let c : AreCounted l answered counts' = subst (λ (xs : List (Answered l)). AreCounted l xs counts') (sym same) b in
      let commands : counts.commands ≡ counts'.commands = a.commands ∙ sym c.commands in
      let yes : counts.yes ≡ counts'.yes = a.yes ∙ sym c.yes in
      let no : counts.no ≡ counts'.no = a.no ∙ sym c.no in
      let other : counts.other ≡ counts'.other = a.other ∙ sym c.other in
      let refused : counts.refused ≡ counts'.refused = a.refused ∙ sym c.refused in
      λ i. record { commands = commands i; yes = yes i; no = no i; other = other i; refused = refused i }

  -- runs over one text that is given whole, from the same files, that end clean end alike
  pub texts_end_alike : TextRunsEndAlike l
  texts_end_alike = λ text files old new old' new' counts counts' state state' a b reported reported' clean clean'.
      let same : (a.turns ≡ b.turns) × (new.files ≡ new'.files) = clean_turns text files old new old' new' a.turns b.turns a.last b.last state state' a.has_turns b.has_turns a.due b.due a.end b.end a.state_is b.state_is reported reported' clean clean' in
      record {
        status = a.state_is ∙ (ap (λ (t : Turns l). status_of l (in_order l t)) same.0 ∙ sym b.state_is);
        files = same.1;
        counts = same_counts (in_order l a.turns) (in_order l b.turns) counts counts' (ap (in_order l) same.0) a.counted b.counted;
      }

  -- runs over one script, from the same files, that end clean end alike
  pub runs_end_alike : RunsEndAlike l
  runs_end_alike = λ text files from to from' to' old new old' new' held now held' now' state state' run run' is is' reported reported' clean clean'.
      through_alike text files from to from' to' old new old' new' held now held' now' state state' (clean_through l text from to old new held now state run is clean) (clean_through l text from' to' old' new' held' now' state' run' is' clean') reported reported' clean clean'
