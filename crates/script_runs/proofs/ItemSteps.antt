-- One item with its reply, and what comes of the text that it loads.
use Rattle.std.proofs.Common.{◌≡◌, ◌≢◌, ℕ, suc, ◌+◌, Bool, true, false, not, ◌||◌, List, [], ◌∷◌, ◌++◌, Vec, Global, if◌then◌else◌, Option, None, Some, IfSome, Result, Ok, Err, refl, sym, ◌∙◌, ap, subst, append-nil, arith}
use Rattle.wal_outside.specs.Sending.{Grows, Sends, HasSent}
use Rattle.wal_outside.specs.Views.{StoreView, SinkView}
use Rattle.wal_outside.specs.declared.sink.WriteFault.{WriteFault}
use Rattle.wal_outside.proofs.SendingSteps.{none_sent}
use Rattle.script_cut.specs.Cuts.{Item, Rest}
use Rattle.script_runs.specs.declared.deed.Deed.{Deed as Done}
use Rattle.script_runs.specs.declared.deed.Deed.TheVariants as deeds
use Rattle.script_runs.specs.declared.flow.Flow.{Flow}
use Rattle.script_runs.specs.declared.flow.Flow.TheVariants as flows
use Rattle.script_runs.specs.declared.script_fault.ScriptFault.TheVariants as script
use Rattle.script_runs.specs.declared.tally.Tally.{Tally}
use Rattle.script_runs.specs.Languages.{CommandLanguage, Enters, Loads, Ends, Reply, IsSound}
use Rattle.script_runs.specs.Replies.{State, Answered, Replies, Gives, state_after, ledger_after, room_after}
use Rattle.script_runs.specs.Turns.{Turns, no_more, in_order, ends_with}
use Rattle.script_runs.specs.Printed.{is_shown, line_of, printed}
use Rattle.script_runs.specs.Handing.{reply_text}
use Rattle.script_runs.specs.Tallies.{AddsResult}
use Rattle.script_runs.specs.Flows.{Prints, ItemEndsBy, TextEndsBy, flow_after, Loaded}
use Rattle.script_runs.specs.Taking.{HasReplied, TakesItem, TakesText, state}
use Rattle.script_runs.proofs.ReplySteps.{stores_replied}
use Rattle.script_runs.proofs.Counting.{counts_one, counts_then, prints_then}

-- of no bytes none fails
nothing_sent : (held now : Option (List ℕ)) (fault : WriteFault) → Grows held now [] (Err fault) → ⊥
unfolding Grows
nothing_sent None now fault grows = grows refl
nothing_sent (Some held) now fault (prefix, p, is) = no_suffix prefix p.rest p.some p.split
  where
    no_suffix : (prefix rest : List ℕ) → rest ≢ [] → [] ≡ prefix ++ rest → ⊥
    no_suffix [] rest some split = some (sym split)
    no_suffix (b ∷ bs) rest some split = cc

module _ {F : Type 0} (l : CommandLanguage F) (sound : IsSound l) (depth : ℕ) where
  -- the same text
  text_same : (item : Item) (result : Result Done F) (reply : Reply l) → Gives l (is_shown item.ended) result reply → reply_text l item.line result ≡ line_of l item reply
  text_same item (Ok (deeds.Enters printed)) (Ok (Enters success)) gives = gives
  text_same item (Ok (deeds.Enters printed)) (Ok (Loads loaded)) gives = absurd gives
  text_same item (Ok (deeds.Enters printed)) (Ok Ends) gives = absurd gives
  text_same item (Ok (deeds.Loads text)) (Ok (Enters success)) gives = absurd gives
  text_same item (Ok (deeds.Loads text)) (Ok (Loads loaded)) gives = refl
  text_same item (Ok (deeds.Loads text)) (Ok Ends) gives = absurd gives
  text_same item (Ok deeds.Ends) (Ok (Enters success)) gives = absurd gives
  text_same item (Ok deeds.Ends) (Ok (Loads loaded)) gives = absurd gives
  text_same item (Ok deeds.Ends) (Ok Ends) gives = refl
  text_same item (Ok done) (Err fault) gives = absurd gives
  text_same item (Err fault) (Ok deed) gives = absurd gives
  text_same item (Err fault) (Err refusal) gives = ap (λ (f : F). l.fault_line item.line f) gives

  module _ (ledger : l.Ledger) (old new : StoreView) (room left : ℕ) (item : Item) (line : ℕ) (line_is : item.line ≡ line) (held out : SinkView) (tally counted : Tally) where
    -- one item alone
    abbrev one : (result : Result Done F) → HasReplied l depth (state l ledger old room) item result new left → Answered l
    one result r = record { item = item; reply = r.reply }

    -- nothing comes of what it loads
    alone : (reply : Reply l) (here : State l) → ((loaded : List ℕ) → reply ≡ Ok (Loads loaded) → ⊥) → Loaded l (suc depth) reply here no_more here
    alone (Ok (Enters success)) here other = (refl, refl)
    alone (Ok (Loads loaded)) here other = absurd (other loaded refl)
    alone (Ok Ends) here other = (refl, refl)
    alone (Err fault) here other = (refl, refl)

    item_alone : (result : Result Done F) (flow : Flow) (r : HasReplied l depth (state l ledger old room) item result new left) → ((loaded : List ℕ) → r.reply ≡ Ok (Loads loaded) → ⊥) → ItemEndsBy l r.reply no_more flow
        → Prints l held (one result r ∷ []) flow out → AddsResult l tally result counted → IfSome old.files (l.stores ledger) → (known : l.Ledger) × TakesItem l depth (state l ledger old room) item held tally flow (state l known new left) out counted
    item_alone result flow r other ends prints adds stores = (
      ledger_after l ledger r.reply,
      record {
        reply = r.reply;
        store = new;
        inside = no_more;
        replies = r.replies;
        loaded = subst (λ (n : ℕ). Loaded l (suc depth) r.reply (state_after l (state l ledger old room) r.reply new) no_more (state l (ledger_after l ledger r.reply) new n)) (sym r.room_is) (alone r.reply (state_after l (state l ledger old room) r.reply new) other);
        ends = ends;
        prints = prints;
        counts = counts_one l tally counted (one result r) result r.gives adds;
        stores = stores_replied l sound depth (state l ledger old room) item r.reply new r.replies stores;
      },
    )

    -- a reply that is handed over whole, or a part of it
    whole : (result : Result Done F) (r : HasReplied l depth (state l ledger old room) item result new left) → HasSent held (reply_text l line result) out → HasSent held (printed l (one result r ∷ [])) out
    whole result r sent =
        let P : List ℕ → Type 0 = λ text. HasSent held text out in
        let own : HasSent held (reply_text l item.line result) out = subst (λ (n : ℕ). HasSent held (reply_text l n result) out) (sym line_is) sent in
        subst P (sym (append-nil (line_of l item r.reply))) (subst P (text_same item result r.reply r.gives) own)

    pub item_stopped : (result : Result Done F) (fault : WriteFault) → HasReplied l depth (state l ledger old room) item result new left → Sends held (reply_text l line result) (Err fault) out → ((loaded : List ℕ) (r : Reply l) → Gives l (is_shown item.ended) result r → r ≡ Ok (Loads loaded) → ⊥)
        → AddsResult l tally result counted → IfSome old.files (l.stores ledger) → (known : l.Ledger) × TakesItem l depth (state l ledger old room) item held tally (flows.Stopped fault) (state l known new left) out counted
    item_stopped result fault r sends other adds stores =
        let P : List ℕ → Type 0 = λ text. Sends held text (Err fault) out in
        let own : Sends held (reply_text l item.line result) (Err fault) out = subst (λ (n : ℕ). Sends held (reply_text l n result) (Err fault) out) (sym line_is) sends in
        item_alone result (flows.Stopped fault) r (λ loaded is. other loaded r.reply r.gives is) tt (record { prefix = []; last = one result r; split = refl; mid = held; sent = none_sent held; stopped = subst P (text_same item result r.reply r.gives) own }) adds stores

    pub item_enters : (printed_text : Vec ℕ Global) → HasReplied l depth (state l ledger old room) item (Ok (deeds.Enters printed_text)) new left → HasSent held (reply_text l line (Ok (deeds.Enters printed_text))) out → AddsResult l tally (Ok (deeds.Enters printed_text)) counted → IfSome old.files (l.stores ledger)
        → (known : l.Ledger) × TakesItem l depth (state l ledger old room) item held tally flows.GoesOn (state l known new left) out counted
    item_enters text r sent adds stores = item_alone (Ok (deeds.Enters text)) flows.GoesOn r (λ loaded is. other r.reply r.gives loaded is) (goes r.reply r.gives, tt) (whole (Ok (deeds.Enters text)) r sent) adds stores
      where
        other : (reply : Reply l) → Gives l (is_shown item.ended) (Ok (deeds.Enters text)) reply → (loaded : List ℕ) → reply ≡ Ok (Loads loaded) → ⊥
        other (Ok (Enters success)) gives loaded is = cc
        other (Ok (Loads text)) gives loaded is = gives
        other (Ok Ends) gives loaded is = gives
        other (Err fault) gives loaded is = gives

        goes : (reply : Reply l) → Gives l (is_shown item.ended) (Ok (deeds.Enters text)) reply → not (ends_with l reply || false) ≡ true
        goes (Ok (Enters success)) gives = refl
        goes (Ok (Loads text)) gives = refl
        goes (Ok Ends) gives = absurd gives
        goes (Err fault) gives = absurd gives

    pub item_ends : HasReplied l depth (state l ledger old room) item (Ok deeds.Ends) new left → HasSent held (reply_text l line (Ok deeds.Ends)) out → AddsResult l tally (Ok deeds.Ends) counted → IfSome old.files (l.stores ledger)
        → (known : l.Ledger) × TakesItem l depth (state l ledger old room) item held tally flows.Ends (state l known new left) out counted
    item_ends r sent adds stores = item_alone (Ok deeds.Ends) flows.Ends r (λ loaded is. other r.reply r.gives loaded is) (goes r.reply r.gives, tt) (whole (Ok deeds.Ends) r sent) adds stores
      where
        other : (reply : Reply l) → Gives l (is_shown item.ended) (Ok deeds.Ends) reply → (loaded : List ℕ) → reply ≡ Ok (Loads loaded) → ⊥
        other (Ok (Enters success)) gives loaded is = gives
        other (Ok (Loads text)) gives loaded is = gives
        other (Ok Ends) gives loaded is = cc
        other (Err fault) gives loaded is = gives

        goes : (reply : Reply l) → Gives l (is_shown item.ended) (Ok deeds.Ends) reply → not (ends_with l reply || false) ≡ false
        goes (Ok (Enters success)) gives = absurd gives
        goes (Ok (Loads text)) gives = absurd gives
        goes (Ok Ends) gives = refl
        goes (Err fault) gives = absurd gives

    pub item_refused : (fault : F) → HasReplied l depth (state l ledger old room) item (Err fault) new left → HasSent held (reply_text l line (Err fault)) out → AddsResult l tally (Err fault) counted → IfSome old.files (l.stores ledger)
        → (known : l.Ledger) × TakesItem l depth (state l ledger old room) item held tally (flow_after l fault) (state l known new left) out counted
    item_refused fault r sent adds stores = item_alone (Err fault) (flow_after l fault) r (λ loaded is. other r.reply r.gives loaded is) (ends (l.ends_run fault) refl) (prints (l.ends_run fault) (whole (Err fault) r sent)) adds stores
      where
        other : (reply : Reply l) → Gives l (is_shown item.ended) (Err fault) reply → (loaded : List ℕ) → reply ≡ Ok (Loads loaded) → ⊥
        other (Ok deed) gives loaded is = gives
        other (Err refusal) gives loaded is = cc

        by_reply : (reply : Reply l) → Gives l (is_shown item.ended) (Err fault) reply → ends_with l reply ≡ l.ends_run fault
        by_reply (Ok deed) gives = absurd gives
        by_reply (Err refusal) gives = ap l.ends_run (sym gives)

        prints : (v : Bool) → HasSent held (printed l (one (Err fault) r ∷ [])) out → Prints l held (one (Err fault) r ∷ []) (if v then flows.Ends else flows.GoesOn) out
        prints true sent = sent
        prints false sent = sent

        ends : (v : Bool) → l.ends_run fault ≡ v → ItemEndsBy l r.reply no_more (if v then flows.Ends else flows.GoesOn)
        ends true is = (ap (λ (v : Bool). not (v || false)) (by_reply r.reply r.gives ∙ is), tt)
        ends false is = (ap (λ (v : Bool). not (v || false)) (by_reply r.reply r.gives ∙ is), tt)

  -- a text was loaded and answered
  pub item_loads : (ledger : l.Ledger) (old mid new : StoreView) (room may left : ℕ) (item : Item) (held middle out : SinkView) (tally counted first : Tally) (file : Vec ℕ Global) (flow : Flow) → HasReplied l depth (state l ledger old room) item (Ok (deeds.Loads file)) mid may
      → HasSent held [] middle → AddsResult l tally (Ok (deeds.Loads file)) first → IfSome old.files (l.stores ledger)
      → ((known : l.Ledger) → IfSome mid.files (l.stores known) → (after : l.Ledger) × (end : Rest) × TakesText l (depth + 1) (state l known mid may) file.items middle first flow end (state l after new left) out counted)
      → (known : l.Ledger) × TakesItem l depth (state l ledger old room) item held tally flow (state l known new left) out counted
  item_loads ledger old mid new room may left item held middle out tally counted first file flow r sent adds stores loads = by_reply r.reply r.gives r.replies r.room_is
    where
      suc_is : depth + 1 ≡ suc depth
      suc_is = omega arith

      by_reply : (reply : Reply l) → Gives l (is_shown item.ended) (Ok (deeds.Loads file)) reply → Replies l depth (state l ledger old room) (record { item = item; reply = reply }) mid → may ≡ room_after l room reply
          → (known : l.Ledger) × TakesItem l depth (state l ledger old room) item held tally flow (state l known new left) out counted
      by_reply (Ok (Enters success)) gives replies room_is = absurd gives
      by_reply (Ok (Loads loaded)) gives replies room_is =
          let t = loads ledger (stores_replied l sound depth (state l ledger old room) item (Ok (Loads loaded)) mid replies stores) in
          let P : ℕ → List ℕ → ℕ → Type 0 = λ n text may. TakesText l n (state l ledger mid may) text middle first flow t.1 (state l t.0 new left) out counted in
          let x : P (suc depth) loaded (room_after l room (Ok (Loads loaded))) = subst (λ (n : ℕ). P n loaded (room_after l room (Ok (Loads loaded)))) suc_is (subst (λ (text : List ℕ). P (depth + 1) text (room_after l room (Ok (Loads loaded)))) gives
          (subst (λ (n : ℕ). P (depth + 1) file.items n) room_is t.2)) in (
            t.0,
            record {
              reply = Ok (Loads loaded);
              store = mid;
              inside = x.turns;
              replies = replies;
              loaded = (t.1, x.run, x.ended);
              ends = by_flow flow x.turns x.ends;
              prints = prints_then l held middle out (record { item = item; reply = Ok (Loads loaded) } ∷ []) (in_order l x.turns) flow sent x.prints;
              counts = counts_then l tally first counted (record { item = item; reply = Ok (Loads loaded) } ∷ []) (in_order l x.turns) (counts_one l tally first (record { item = item; reply = Ok (Loads loaded) }) (Ok (deeds.Loads file)) gives adds) x.counts;
              stores = x.stores;
            },
          )
        where
          by_flow : (flow : Flow) (turns : Turns l) → TextEndsBy l turns flow → ItemEndsBy l (Ok (Loads loaded)) turns flow
          by_flow flows.GoesOn turns ends = (ap not ends.0, ends.1)
          by_flow flows.Ends turns ends = (ap not ends.0, ends.1)
          by_flow (flows.Stopped fault) turns ends = tt
          by_flow flows.WantsMemory turns ends = ends
      by_reply (Ok Ends) gives replies room_is = absurd gives
      by_reply (Err fault) gives replies room_is = absurd gives

  -- the same, of a result that is known to be so
  module _ (ledger : l.Ledger) (old mid : StoreView) (room may : ℕ) (item : Item) (line : ℕ) (line_is : item.line ≡ line) (held middle : SinkView) (tally counted : Tally) (result : Result Done F)
      (r : HasReplied l depth (state l ledger old room) item result mid may) (adds : AddsResult l tally result counted) (stores : IfSome old.files (l.stores ledger)) where
    pub result_enters : (text : Vec ℕ Global) → result ≡ Ok (deeds.Enters text) → HasSent held (reply_text l line result) middle → (known : l.Ledger) × TakesItem l depth (state l ledger old room) item held tally flows.GoesOn (state l known mid may) middle counted
    result_enters text is sent =
        item_enters ledger old mid room may item line line_is held middle tally counted text
        (subst (λ (x : Result Done F). HasReplied l depth (state l ledger old room) item x mid may) is r) (subst (λ (x : Result Done F). HasSent held (reply_text l line x) middle) is sent) (subst (λ (x : Result Done F). AddsResult l tally x counted) is adds) stores

    pub result_ends : result ≡ Ok deeds.Ends → HasSent held (reply_text l line result) middle → (known : l.Ledger) × TakesItem l depth (state l ledger old room) item held tally flows.Ends (state l known mid may) middle counted
    result_ends is sent =
        item_ends ledger old mid room may item line line_is held middle tally counted
        (subst (λ (x : Result Done F). HasReplied l depth (state l ledger old room) item x mid may) is r) (subst (λ (x : Result Done F). HasSent held (reply_text l line x) middle) is sent) (subst (λ (x : Result Done F). AddsResult l tally x counted) is adds) stores

    pub result_refused : (fault : F) → result ≡ Err fault → HasSent held (reply_text l line result) middle → (flow : Flow) → flow ≡ flow_after l fault → (known : l.Ledger) × TakesItem l depth (state l ledger old room) item held tally flow (state l known mid may) middle counted
    result_refused fault is sent flow flow_is =
        let P : Flow → Type 0 = λ f. (known : l.Ledger) × TakesItem l depth (state l ledger old room) item held tally f (state l known mid may) middle counted in
        subst P (sym flow_is) (item_refused ledger old mid room may item line line_is held middle tally counted fault
        (subst (λ (x : Result Done F). HasReplied l depth (state l ledger old room) item x mid may) is r) (subst (λ (x : Result Done F). HasSent held (reply_text l line x) middle) is sent) (subst (λ (x : Result Done F). AddsResult l tally x counted) is adds) stores)

    -- nothing is handed over of a load, so that the sink does not stop it
    nothing_stops : (fault : WriteFault) (text : Vec ℕ Global) → result ≡ Ok (deeds.Loads text) → Sends held (reply_text l line result) (Err fault) middle → ⊥
    nothing_stops fault text is sends = nothing_sent held.held middle.held fault (subst (λ (x : Result Done F). Sends held (reply_text l line x) (Err fault) middle) is sends).held

    pub result_stopped : (fault : WriteFault) → Sends held (reply_text l line result) (Err fault) middle → (known : l.Ledger) × TakesItem l depth (state l ledger old room) item held tally (flows.Stopped fault) (state l known mid may) middle counted
    result_stopped fault sends = item_stopped ledger old mid room may item line line_is held middle tally counted result fault r sends (λ loaded reply gives is. no_load result loaded reply gives is (λ text is. nothing_stops fault text is sends)) adds stores
      where
        no_load : (given : Result Done F) (loaded : List ℕ) (reply : Reply l) → Gives l (is_shown item.ended) given reply → reply ≡ Ok (Loads loaded) → ((text : Vec ℕ Global) → given ≡ Ok (deeds.Loads text) → ⊥) → ⊥
        no_load (Ok (deeds.Enters printed)) loaded (Ok (Enters success)) gives is none = cc
        no_load (Ok (deeds.Enters printed)) loaded (Ok (Loads text)) gives is none = gives
        no_load (Ok (deeds.Enters printed)) loaded (Ok Ends) gives is none = gives
        no_load (Ok (deeds.Loads text)) loaded reply gives is none = none text refl
        no_load (Ok deeds.Ends) loaded (Ok (Enters success)) gives is none = gives
        no_load (Ok deeds.Ends) loaded (Ok (Loads text)) gives is none = gives
        no_load (Ok deeds.Ends) loaded (Ok Ends) gives is none = cc
        no_load (Ok done) loaded (Err fault) gives is none = gives
        no_load (Err fault) loaded (Ok deed) gives is none = gives
        no_load (Err fault) loaded (Err refusal) gives is none = cc

    pub result_loads : (file : Vec ℕ Global) → result ≡ Ok (deeds.Loads file) → HasSent held (reply_text l line result) middle → (new : StoreView) (left : ℕ) (out : SinkView) (all : Tally) (flow : Flow)
        → ((known : l.Ledger) → IfSome mid.files (l.stores known) → (after : l.Ledger) × (end : Rest) × TakesText l (depth + 1) (state l known mid may) file.items middle counted flow end (state l after new left) out all)
        → (known : l.Ledger) × TakesItem l depth (state l ledger old room) item held tally flow (state l known new left) out all
    result_loads file is sent new left out all flow loads =
        item_loads ledger old mid new room may left item held middle out tally all counted file flow
        (subst (λ (x : Result Done F). HasReplied l depth (state l ledger old room) item x mid may) is r) (subst (λ (x : Result Done F). HasSent held (reply_text l line x) middle) is sent) (subst (λ (x : Result Done F). AddsResult l tally x counted) is adds) stores loads

-- what is accepted is not refused
pub not_both : {A B : Type 0} (result : Result A B) (a : A) (b : B) → result ≡ Ok a → result ≡ Err b → ⊥
not_both (Ok x) a b is other = cc
not_both (Err x) a b is other = cc

-- past the limit no run goes on
pub limit_ends : {F : Type 0} (l : CommandLanguage F) → IsSound l → (result : Result Done F) (refusal : F) → result ≡ Err (l.of_script script.PastLimit) → result ≡ Err refusal → (flow : Flow) → flow ≡ flow_after l refusal → flow ≢ flows.GoesOn
limit_ends {F} l sound result refusal past is flow flow_is = λ on. stops (l.ends_run refusal) (ap l.ends_run (same refusal (l.of_script script.PastLimit) (sym is ∙ past)) ∙ sound.ends_at_limit) (sym flow_is ∙ on)
  where
    same : (a b : F) → (let r : Result Done F = Err a in r) ≡ Err b → a ≡ b
    same a b is = cc

    stops : (v : Bool) → v ≡ true → (if v then flows.Ends else flows.GoesOn) ≡ flows.GoesOn → ⊥
    stops true is on = cc
    stops false is on = cc

-- a load and an end hand nothing over
pub load_sent : {F : Type 0} (l : CommandLanguage F) (line : ℕ) (reply : Result Done F) (deed : Done) (text : Vec ℕ Global) (held : SinkView) → reply ≡ Ok deed → deed ≡ deeds.Loads text → HasSent held (reply_text l line reply) held
load_sent {F} l line reply deed text held is deed_is = subst (λ (r : Result Done F). HasSent held (reply_text l line r) held) (sym is) (subst (λ (d : Done). HasSent held (reply_text l line (Ok d)) held) (sym deed_is) (none_sent held))

pub end_sent : {F : Type 0} (l : CommandLanguage F) (line : ℕ) (reply : Result Done F) (deed : Done) (held : SinkView) → reply ≡ Ok deed → deed ≡ deeds.Ends → HasSent held (reply_text l line reply) held
end_sent {F} l line reply deed held is deed_is = subst (λ (r : Result Done F). HasSent held (reply_text l line r) held) (sym is) (subst (λ (d : Done). HasSent held (reply_text l line (Ok d)) held) (sym deed_is) (none_sent held))

-- a run that ended, or that the sink stopped, does not go on
pub ended_stays : flows.Ends ≢ flows.GoesOn
ended_stays = λ on. cc

pub stopped_stays : (fault : WriteFault) → flows.Stopped fault ≢ flows.GoesOn
stopped_stays fault = λ on. cc
