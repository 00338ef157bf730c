-- Runs over a script and over longer ones.
use Rattle.std.proofs.Common.{◌≡◌, ◌⊎◌, ◌≢◌, ℕ, suc, Bool, true, false, not, ◌||◌, IsTrue, List, ◌∷◌, ◌++◌, Some, Err, refl, sym, ap, ◌∙◌, subst, inl, inr, append_assoc}
use Rattle.wal_outside.specs.Files.{Files}
use Rattle.wal_outside.specs.Sending.{HasSent}
use Rattle.wal_outside.specs.Views.{SourceView, SinkView, StoreView}
use Rattle.script_cut.specs.Cuts.{Ended, Terminated, Unterminated, PastLimit, Rest, Next, start, IsAtEnd}
use Rattle.script_cut.specs.Prefixes.{with_more, is_terminated, EndsAfterTerminator}
use Rattle.script_cut.proofs.LongerTexts.{IsEnded, is_ended, ended_after, not_open, next_stays, next_past_stays, IsFirstOf, first_of_longer, end_of_prefix}
use Rattle.script_runs.specs.declared.script_fault.ScriptFault.TheVariants as script
use Rattle.script_runs.specs.declared.status.Status.{Status}
use Rattle.script_runs.specs.Languages.{CommandLanguage, IsSound, Reply}
use Rattle.script_runs.specs.Replies.{IsReplyOf, State, Answered, Replies, state_after}
use Rattle.script_runs.specs.Turns.{Turns, no_more, cut_off, turn, in_order, is_cut_off, goes_on, IsDue}
use Rattle.script_runs.specs.Runs.{place_with, with_room, Run, first_state}
use Rattle.script_runs.specs.Printed.{printed, status_of}
use Rattle.script_runs.specs.Ends.{RanThrough}
use Rattle.script_runs.specs.Flows.{Loaded}
use Rattle.script_runs.specs.Laws.{IsDetermined, IsClean}
use Rattle.script_runs.specs.Prefixes.{followed_by, RunsInTwo, RunsBeginWithPrefixes, RunsGoOn, EndedRunsStay, BeginAlike, RunsBeginAlike}
use Rattle.script_runs.proofs.Counting.{printed-append}
use Rattle.script_runs.proofs.OneRuns.{AreProper, proper_prefix, clean_replies, clean_through, Alike, SameEnds, same_turns}

module _ {F : Type 0} (l : CommandLanguage F) where
  -- whether turns that follow others ended the run
  is_cut_off-followed : (first rest : Turns l) → rest ≡ no_more → is_cut_off l (followed_by l first rest) ≡ is_cut_off l first
  is_cut_off-followed no_more rest is = ap (is_cut_off l) is
  is_cut_off-followed cut_off rest is = refl
  is_cut_off-followed (turn first inside after) rest is = is_cut_off-followed after rest is

  -- nothing follows turns that ended the run
  followed-cut_off : (first rest : Turns l) → is_cut_off l first ≡ true → followed_by l first rest ≡ first
  followed-cut_off no_more rest is = absurd (cc)
  followed-cut_off cut_off rest is = refl
  followed-cut_off (turn first inside after) rest is = ap (λ (t : Turns l). turn first inside t) (followed-cut_off after rest is)

  -- the items of turns, and of those that follow them
  in_order-followed : (first rest : Turns l) → (is_cut_off l first ≡ true → rest ≡ no_more) → in_order l (followed_by l first rest) ≡ in_order l first ++ in_order l rest
  in_order-followed no_more rest none = refl
  in_order-followed cut_off rest none = ap (in_order l) (sym (none refl))
  in_order-followed (turn first inside after) rest none =
      ap (λ (xs : List (Answered l)). first ∷ (in_order l inside ++ xs)) (in_order-followed after rest none)
      ∙ ap (λ (xs : List (Answered l)). first ∷ xs) (sym (append_assoc (in_order l inside) (in_order l after) (in_order l rest)))

  -- the first turns ended only where they had to, if all did
  due-followed : (first rest : Turns l) → IsDue l (followed_by l first rest) → IsDue l first
  due-followed no_more rest due = tt
  due-followed cut_off rest due = due
  due-followed (turn first inside after) rest due = (due.0, λ on. due-followed after rest (due.1 on))

  past_reply : (sound : IsSound l) (ended : Ended) (depth room : ℕ) (known : l.Ledger) (text : List ℕ) (reply : Reply l) (inside : Turns l) → ended ≡ PastLimit → IsReplyOf l ended depth room known text reply → goes_on l reply inside ≡ false
  past_reply sound (Terminated shown) depth room known text reply inside is replied = absurd (cc)
  past_reply sound Unterminated depth room known text reply inside is replied = absurd (cc)
  past_reply sound PastLimit depth room known text reply inside is replied =
      let stops : goes_on l (Err (l.of_script script.PastLimit)) inside ≡ false = ap (λ (v : Bool). not (v || is_cut_off l inside)) sound.ends_at_limit in
      ap (λ (r : Reply l). goes_on l r inside) replied ∙ stops

  -- one turn of a run over a script, from the place after its item
  record Turn (place : Rest) (old : State l) (first : Answered l) (inside after : Turns l) (last : Rest) (new : State l) (mid : Rest) : Type 0 where
    store : StoreView
    later : State l
    next : Next place first.item mid
    replies : Replies l 0 (with_room l old mid.room) first store
    loaded : Loaded l (suc 0) first.reply (state_after l (with_room l old mid.room) first.reply store) inside later
    off : goes_on l first.reply inside ≡ false → after ≡ cut_off
    run : Run l 0 (place_with 0 mid later.room) later after last new

  module _ (sound : IsSound l) where
    -- after an item past the limit a run does not go on
    past_off : (place : Rest) (old : State l) (first : Answered l) (inside after : Turns l) (last : Rest) (new : State l) (mid : Rest) → first.item.ended ≡ PastLimit → Turn place old first inside after last new mid → after ≡ cut_off
    past_off place old first inside after last new mid is t =
        t.off (past_reply sound first.item.ended 0 mid.room t.replies.known first.item.text first.reply inside is t.replies.replied)

    module _ (more : List ℕ) where
      -- turns that are none of a longer text
      stopped_here : (place : Rest) (old : State l) (last : Rest) (new : State l) → last ≡ with_more place more → new ≡ old → RunsInTwo l place more old no_more last new
      stopped_here place old last new last_is new_is = record {
        first = no_more;
        rest = no_more;
        middle = place;
        between = old;
        joined = refl;
        run = (refl, refl);
        ended = λ is. absurd (cc);
        goes_on = λ is. (last_is, new_is);
        whole = inl refl;
      }

      -- a run over a longer text that was cut off after an item
      abbrev cut_here : (place : Rest) (old : State l) (after : Turns l) (last : Rest) (new : State l) → after ≡ cut_off → new ≡ old → RunsInTwo l place more old after last new
      cut_here place old after last new is new_is = record {
        first = cut_off;
        rest = no_more;
        middle = place;
        between = old;
        joined = is;
        run = (refl, refl);
        ended = λ _. (refl, new_is);
        goes_on = λ is. absurd (cc);
        whole = inl refl;
      }

      -- an item, and what comes after it in two runs
      joins_turn : (place : Rest) (old : State l) (first : Answered l) (inside after : Turns l) (last : Rest) (new : State l) (mid : Rest) → Next place first.item mid → (t : Turn (with_more place more) old first inside after last new (with_more mid more))
          → (two : RunsInTwo l (place_with 0 mid t.later.room) more t.later after last new) → (goes_on l first.reply inside ≡ false → two.first ≡ cut_off) → RunsInTwo l place more old (turn first inside after) last new
      joins_turn place old first inside after last new mid next t two off = record {
        first = turn first inside two.first;
        rest = two.rest;
        middle = two.middle;
        between = two.between;
        joined = ap (λ (x : Turns l). turn first inside x) two.joined;
        run = (mid, t.store, t.later, next, t.replies, t.loaded, off, two.run);
        ended = two.ended;
        goes_on = two.goes_on;
        whole = two.whole;
      }

      -- what comes after an item is in two runs
      abbrev SplitsAfter : Turns l → Rest → State l → Type 0
      SplitsAfter after last new = (mid : Rest) (later : State l) → IsEnded mid.left → Run l 0 (with_more (place_with 0 mid later.room) more) later after last new → RunsInTwo l (place_with 0 mid later.room) more later after last new

      runs_in_two : (turns : Turns l) (place : Rest) (old : State l) (last : Rest) (new : State l) → IsEnded place.left → Run l 0 (with_more place more) old turns last new → RunsInTwo l place more old turns last new
      runs_in_two no_more place old last new ended run = stopped_here place old last new run.0 run.1
      runs_in_two cut_off place old last new ended run = cut_here place old cut_off last new refl run.1
      runs_in_two (turn first inside after) place old last new ended (mid', store, later, next, replies, loaded, off, run) =
          by (λ mid later ended run. runs_in_two after (place_with 0 mid later.room) later last new ended run) (first_of_longer place more first.item mid' ended next)
        where
          whole : Turn (with_more place more) old first inside after last new mid'
          whole = record { store = store; later = later; next = next; replies = replies; loaded = loaded; off = off; run = run }

          -- the item has its terminator in the text
          in_text : SplitsAfter after last new → (mid : Rest) → Next place first.item mid → IsEnded mid.left → Turn (with_more place more) old first inside after last new (with_more mid more) → RunsInTwo l place more old (turn first inside after) last new
          in_text again mid next ended t = by_flow (goes_on l first.reply inside) refl
            where
              by_flow : (v : Bool) → goes_on l first.reply inside ≡ v → RunsInTwo l place more old (turn first inside after) last new
              by_flow true on = joins_turn place old first inside after last new mid next t (again mid t.later ended t.run) (λ off. absurd (cc))
              by_flow false off =
                  let none : after ≡ cut_off = t.off off in
                  let stays : Run l 0 (place_with 0 (with_more mid more) t.later.room) t.later cut_off last new = subst (λ (x : Turns l). Run l 0 (place_with 0 (with_more mid more) t.later.room) t.later x last new) none t.run in
                  joins_turn place old first inside after last new mid next t (cut_here (place_with 0 mid t.later.room) t.later after last new none stays.1) (λ _. refl)

          -- it is what comes past the limit
          past : Next place first.item mid' → first.item.ended ≡ PastLimit → RunsInTwo l place more old (turn first inside after) last new
          past next is =
              let none : after ≡ cut_off = past_off (with_more place more) old first inside after last new mid' is whole in
              let cut : is_cut_off l after ≡ true = ap (is_cut_off l) none in
              record {
                first = turn first inside after;
                rest = no_more;
                middle = last;
                between = new;
                joined = sym (followed-cut_off (turn first inside after) no_more cut);
                run = (mid', store, later, next, replies, loaded, off, run);
                ended = λ _. (refl, refl);
                goes_on = λ on. absurd (cc);
                whole = inl refl;
              }

          by : SplitsAfter after last new → IsFirstOf place more first.item mid' → RunsInTwo l place more old (turn first inside after) last new
          by again (inl (mid, here, is, mid_is)) = in_text again mid here (ended_after place mid first.item ended here is) (subst (λ (x : Rest). Turn (with_more place more) old first inside after last new x) (sym mid_is) whole)
          by again (inr (inl (here, is))) = past here is
          by again (inr (inr end)) = record {
            first = no_more;
            rest = turn first inside after;
            middle = place;
            between = old;
            joined = refl;
            run = (refl, refl);
            ended = λ is. absurd (cc);
            goes_on = λ _. (mid', store, later, next, replies, loaded, off, run);
            whole = inr end;
          }

      -- what an item of a text is that ends after a terminator
      is_of_text : (ended : Ended) → ended ≢ Unterminated → IsTrue (is_terminated ended) ⊎ (ended ≡ PastLimit)
      is_of_text (Terminated shown) some = inl refl
      is_of_text Unterminated some = absurd (some refl)
      is_of_text PastLimit some = inr refl

      runs_go_on : (turns rest : Turns l) (place middle last : Rest) (old between new : State l) → IsEnded place.left → Run l 0 place old turns middle between → is_cut_off l turns ≡ false → Run l 0 (with_more middle more) between rest last new
          → Run l 0 (with_more place more) old (followed_by l turns rest) last new
      runs_go_on no_more rest place middle last old between new ended run on after =
          subst (λ (s : State l). Run l 0 (with_more place more) s rest last new) run.1 (subst (λ (p : Rest). Run l 0 (with_more p more) between rest last new) run.0 after)
      runs_go_on cut_off rest place middle last old between new ended run on after = absurd (cc)
      runs_go_on (turn first inside others) rest place middle last old between new ended (mid, store, later, next, replies, loaded, off, run) on after =
          by (λ is. runs_go_on others rest (place_with 0 mid later.room) middle last later between new (ended_after place mid first.item ended next is) run on after) (is_of_text first.item.ended (not_open place mid first.item ended next))
        where
          whole : Turn place old first inside others middle between mid
          whole = record { store = store; later = later; next = next; replies = replies; loaded = loaded; off = off; run = run }

          by : (IsTrue (is_terminated first.item.ended) → Run l 0 (with_more (place_with 0 mid later.room) more) later (followed_by l others rest) last new) → IsTrue (is_terminated first.item.ended) ⊎ (first.item.ended ≡ PastLimit) → Run l 0 (with_more place more) old (turn first inside (followed_by l others rest)) last new
          by again (inl is) = (
            with_more mid more,
            store,
            later,
            next_stays place mid first.item more is next,
            replies,
            loaded,
            (λ stops. ap (λ (x : Turns l). followed_by l x rest) (off stops)),
            again is,
          )
          by again (inr is) = let cut : is_cut_off l others ≡ true = ap (is_cut_off l) (past_off place old first inside others middle between mid is whole) in absurd (cc)

      ended_stay : (turns : Turns l) (place last : Rest) (old new : State l) → IsEnded place.left → Run l 0 place old turns last new → is_cut_off l turns ≡ true → (end : Rest) × Run l 0 (with_more place more) old turns end new
      ended_stay no_more place last old new ended run is = absurd (cc)
      ended_stay cut_off place last old new ended run is = (with_more place more, (refl, run.1))
      ended_stay (turn first inside after) place last old new ended (mid, store, later, next, replies, loaded, off, run) is =
          by (λ has. ended_stay after (place_with 0 mid later.room) last later new (ended_after place mid first.item ended next has) run is) (is_of_text first.item.ended (not_open place mid first.item ended next))
        where
          by : (IsTrue (is_terminated first.item.ended) → (end : Rest) × Run l 0 (with_more (place_with 0 mid later.room) more) later after end new) → IsTrue (is_terminated first.item.ended) ⊎ (first.item.ended ≡ PastLimit) → (end : Rest) × Run l 0 (with_more place more) old (turn first inside after) end new
          by again (inl has) =
              let rest = again has in
              (rest.0, (with_more mid more, store, later, next_stays place mid first.item more has next, replies, loaded, off, rest.1))
          by again (inr past) = (last, (mid, store, later, next_past_stays place mid first.item more past next, replies, loaded, off, run))

    pub runs_begin_with_prefixes : RunsBeginWithPrefixes l
    runs_begin_with_prefixes = λ text more old turns last new ends run. runs_in_two more turns (start text) old last new (is_ended text ends) run

    pub runs_go_on_after : RunsGoOn l
    runs_go_on_after = λ text more old between new turns rest middle last ends run on after. runs_go_on more turns rest (start text) middle last old between new (is_ended text ends) run on after

    pub ended_runs_stay : EndedRunsStay l
    ended_runs_stay = λ text more old new turns last ends run is. ended_stay more turns (start text) last old new (is_ended text ends) run is

    module _ (determined : IsDetermined l) where
      -- the first part of a clean run over a longer script, and a clean run over the script
      begin_alike : (text more : List ℕ) (files : Files) (from to from' to' : SourceView) (old new old' new' : StoreView) (held now held' now' : SinkView) (state state' : Status) → EndsAfterTerminator text
          → RanThrough l text from to old new held now state → RanThrough l (text ++ more) from' to' old' new' held' now' state'
          → old.files ≡ Some files → old'.files ≡ Some files → IsClean state → IsClean state' → BeginAlike l text more old new old' new' held now held' now' state state'
      begin_alike text more files from to from' to' old new old' new' held now held' now' state state' ends a b reported reported' clean clean' =
          let two : RunsInTwo l (start text) more (first_state l old') b.turns b.last (record { ledger = b.has_turns.ledger; store = new'; room = b.has_turns.room }) = runs_begin_with_prefixes text more (first_state l old') b.turns b.last (record { ledger = b.has_turns.ledger; store = new'; room = b.has_turns.room }) ends b.has_turns.run in
          let items : in_order l b.turns ≡ in_order l two.first ++ in_order l two.rest = ap (in_order l) two.joined ∙ in_order-followed two.first two.rest (λ is. (two.ended is).0) in
          let all : AreProper l (in_order l two.first ++ in_order l two.rest) = subst (λ (xs : List (Answered l)). AreProper l xs) items (clean_replies l (in_order l b.turns) state' b.state_is clean') in
          let due : IsDue l two.first = due-followed two.first two.rest (subst (λ (t : Turns l). IsDue l t) two.joined b.due) in
          let end : is_cut_off l two.first ≡ false → IsAtEnd two.middle = λ on. middle_end two on two.whole in
          let begin : Alike l (first_state l old) (first_state l old') = record { ledger = ap l.first (reported ∙ sym reported'); room = refl; files = files; reported = reported; reported' = reported' } in
          let same : SameEnds l determined a.turns two.first (record { ledger = a.has_turns.ledger; store = new; room = a.has_turns.room }) two.between =
          same_turns l determined a.turns two.first 0 (clean_replies l (in_order l a.turns) state a.state_is clean) (proper_prefix l (in_order l two.first) (in_order l two.rest) all) a.due due
          (start text) a.last two.middle (first_state l old) (first_state l old') (record { ledger = a.has_turns.ledger; store = new; room = a.has_turns.room }) two.between begin a.has_turns.run two.run a.end end in
          let whole : in_order l b.turns ≡ in_order l a.turns ++ in_order l two.rest = items ∙ ap (λ (t : Turns l). in_order l t ++ in_order l two.rest) (sym same.0) in
          record {
            turns = a.turns;
            last = a.last;
            run = a.has_turns;
            longer = b.turns;
            end = b.last;
            run' = b.has_turns;
            two = two;
            same = sym same.0;
            whole = a.end;
            ledger = sym same.1.ledger;
            files = same.1.reported' ∙ sym same.1.reported;
            room = sym same.1.room;
            prints = a.sent;
            prints' = subst (λ (text : List ℕ). HasSent held' text now') (ap (printed l) whole ∙ printed-append l (in_order l a.turns) (in_order l two.rest)) b.sent;
            state_is = a.state_is;
            state_is' = b.state_is ∙ ap (status_of l) whole;
          }
        where
          middle_end : (two : RunsInTwo l (start text) more (first_state l old') b.turns b.last (record { ledger = b.has_turns.ledger; store = new'; room = b.has_turns.room })) → is_cut_off l two.first ≡ false → (two.rest ≡ no_more) ⊎ IsAtEnd two.middle → IsAtEnd two.middle
          middle_end two on (inr end) = end
          middle_end two on (inl none) =
              let off : is_cut_off l b.turns ≡ false = ap (is_cut_off l) two.joined ∙ (is_cut_off-followed two.first two.rest none ∙ on) in
              let stays : Run l 0 (with_more two.middle more) two.between no_more b.last (record { ledger = b.has_turns.ledger; store = new'; room = b.has_turns.room }) = subst (λ (t : Turns l). Run l 0 (with_more two.middle more) two.between t b.last (record { ledger = b.has_turns.ledger; store = new'; room = b.has_turns.room })) none (two.goes_on on) in
              end_of_prefix two.middle more (let P : Rest → Type 0 = λ x. IsAtEnd x in subst P stays.0 (b.end off))

    pub runs_begin_alike : RunsBeginAlike l
    runs_begin_alike = λ determined text more files from to from' to' old new old' new' held now held' now' state state' ends run run' is is' reported reported' clean clean'.
        begin_alike determined text more files from to from' to' old new old' new' held now held' now' state state' ends
        (clean_through l text from to old new held now state run is clean) (clean_through l (text ++ more) from' to' old' new' held' now' state' run' is' clean') reported reported' clean clean'
