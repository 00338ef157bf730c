-- Which item comes next, by what a cutter gave.
use Rattle.std.proofs.Common.{◌≡◌, ◌≢◌, ℕ, suc, ◌<◌, ◌⊎◌, Bool, List, [], ◌∷◌, length, Result, Ok, Err, refl, sym, ◌∙◌, ap, subst, inl, inr, arith}
use Rattle.wal_outside.specs.Views.{SinkView}
use Rattle.script_cut.specs.Texts.{Starts}
use Rattle.script_cut.specs.Cuts.{Ended, Terminated, Unterminated, PastLimit, Item as CutItem, Rest, Next, CutsCommand, CutsOpen, CutsOff}
use Rattle.wal_outside.specs.Causes.{CountsFault}
use Rattle.script_cut.specs.Asking.{is_failed_cut}
use Rattle.script_cut.specs.Kept.{Kept}
use Rattle.script_cut.specs.Cutting.{GivesItem}
use Rattle.script_cut.specs.declared.cut.Cut.{Cut}
use Rattle.script_cut.specs.declared.cut.Cut.TheVariants as cuts
use Rattle.script_cut.specs.declared.cut.CutFault.{CutFault}
use Rattle.script_cut.specs.declared.cut.CutFault.TheVariants as cut_faults
use Rattle.script_runs.specs.declared.coming.Coming.TheVariants as coming
use Rattle.script_runs.specs.declared.coming.Item.{Item}
use Rattle.script_runs.specs.declared.coming.ItemText.{ItemText}
use Rattle.script_runs.specs.declared.coming.ItemText.TheVariants as texts
use Rattle.script_runs.specs.declared.script_fault.ScriptFault.TheVariants as script
use Rattle.script_runs.specs.declared.flow.Flow.{Flow}
use Rattle.script_runs.specs.declared.flow.Flow.TheVariants as flows
use Rattle.script_runs.specs.declared.tally.Tally.{Tally}
use Rattle.script_runs.specs.Languages.{CommandLanguage, Reply}
use Rattle.script_runs.specs.Replies.{IsReplyOf, State, state_after}
use Rattle.script_runs.specs.Turns.{is_cut_off}
use Rattle.script_runs.specs.Runs.{with_room}
use Rattle.script_runs.specs.Coming.{coming_of, IsTextOf, IsItem}
use Rattle.script_runs.specs.Flows.{Loaded}
use Rattle.script_runs.specs.Taking.{TakesItem, OnlySpends}
use Rattle.script_runs.proofs.Reached.{both_ways}

-- An item is the next one from a place on. The place after it is known, unless it is past the limit, where nothing is left.
pub record Comes (item : Item) (place suffix : Rest) : Type 0 where
  pub cut : CutItem
  pub is_item : IsItem item cut
  pub last : Rest
  pub next : Next place cut last
  pub follows : cut.ended ≢ PastLimit → last ≡ suffix

-- a text past the limit is empty
short_past : (ended : Ended) (place : Rest) (text : List ℕ) (line : ℕ) (last : Rest) → Next place (record { text = text; line = line; ended = ended }) last → 65536 < length text → ended ≢ PastLimit
short_past (Terminated shown) place text line last next long = λ is. cc
short_past Unterminated place text line last next long = λ is. cc
short_past PastLimit place text line last next long = absurd (of_off next.before next.cut)
  where
    of_off : (before : List ℕ) → CutsOff place before text last → ⊥
    of_off before cut = omega (arith, ap length cut.no_text, long)

same_item : (item other : Item) → coming.Item item ≡ coming.Item other → item ≡ other
same_item item other is = cc

pub comes : (result : Result Cut CutFault) (item : Item) (place suffix : Rest) → coming_of result ≡ coming.Item item → GivesItem place result suffix → Comes item place suffix
comes (Ok (cuts.Command text shown line)) item place suffix is gives =
    subst (λ (i : Item). Comes i place suffix) (same_item _ item is) (record {
      cut = record { text = text.items; line = line; ended = Terminated shown };
      is_item = record { line = refl; text = (refl, refl) };
      last = suffix;
      next = gives.0;
      follows = λ other. refl;
    })
comes (Ok cuts.End) item place suffix is gives = absurd (cc)
comes (Err (cut_faults.Syntax line len)) item place suffix is (text, next, len_is, short) =
    subst (λ (i : Item). Comes i place suffix) (same_item _ item is) (record {
      cut = record { text = text; line = line; ended = Unterminated };
      is_item = record { line = refl; text = (len_is, short, refl) };
      last = suffix;
      next = next;
      follows = λ other. refl;
    })
comes (Err (cut_faults.Long line)) item place suffix is (text, ended, next, long) =
    subst (λ (i : Item). Comes i place suffix) (same_item _ item is) (record {
      cut = record { text = text; line = line; ended = ended };
      is_item = record { line = refl; text = (long, short_past ended place text line suffix next long) };
      last = suffix;
      next = next;
      follows = λ other. refl;
    })
comes (Err (cut_faults.ScriptLimit line)) item place suffix is (last, next) =
    subst (λ (i : Item). Comes i place suffix) (same_item _ item is) (record {
      cut = record { text = []; line = line; ended = PastLimit };
      is_item = record { line = refl; text = refl };
      last = last;
      next = next;
      follows = λ other. absurd (other refl);
    })
comes (Err cut_faults.Failed) item place suffix is gives = absurd (cc)
comes (Err cut_faults.Memory) item place suffix is gives = absurd (cc)

-- a text past the limit is no other
pub ended_before : (item : Item) (cut : CutItem) → IsItem item cut → item.text ≢ texts.Broken script.PastLimit → cut.ended ≢ PastLimit
ended_before item cut is other = by_text item.text is.text other
  where
    by_text : (text : ItemText) → IsTextOf text cut → text ≢ texts.Broken script.PastLimit → cut.ended ≢ PastLimit
    by_text (texts.Command text shown) is other = λ past. absurd (terminated shown (sym is.1 ∙ past))
      where
        terminated : (shown : Bool) → Terminated shown ≡ PastLimit → ⊥
        terminated shown is = cc
    by_text (texts.Broken script.Long) is other = is.1
    by_text (texts.Broken (script.Unterminated len)) is other = λ past. absurd (unended (sym is.2 ∙ past))
      where
        unended : Unterminated ≡ PastLimit → ⊥
        unended is = cc
    by_text (texts.Broken script.PastLimit) is other = absurd (other refl)

pub is_past : (ended : Ended) → (ended ≡ PastLimit) ⊎ (ended ≢ PastLimit)
is_past (Terminated shown) = inr (λ is. cc)
is_past Unterminated = inr (λ is. cc)
is_past PastLimit = inl refl

module _ {F : Type 0} (l : CommandLanguage F) (depth : ℕ) where
  reply_past : (ended : Ended) (room : ℕ) (known : l.Ledger) (text : List ℕ) (reply : Reply l) → ended ≡ PastLimit → IsReplyOf l ended depth room known text reply → reply ≡ Err (l.of_script script.PastLimit)
  reply_past (Terminated shown) room known text reply is replied = absurd (cc)
  reply_past Unterminated room known text reply is replied = absurd (cc)
  reply_past PastLimit room known text reply is replied = replied

  -- past the limit no text is loaded
  pub no_memory_past : (old later : State l) (item : CutItem) (held now : SinkView) (tally counted : Tally) → TakesItem l depth old item held tally flows.WantsMemory later now counted → item.ended ≢ PastLimit
  no_memory_past old later item held now tally counted t past =
      by_reply t.reply (reply_past item.ended old.room t.replies.known item.text t.reply past t.replies.replied) t.loaded
    where
      by_reply : (reply : Reply l) → reply ≡ Err (l.of_script script.PastLimit) → Loaded l (suc depth) reply (state_after l old reply t.store) t.inside later → ⊥
      by_reply (Ok deed) is loaded = cc
      by_reply (Err fault) is loaded = both_ways (is_cut_off l t.inside) t.ends (ap (is_cut_off l) loaded.0)

  -- there how many bytes may still be read does not matter
  pub takes_past : (old later : State l) (item : CutItem) (held now : SinkView) (tally counted : Tally) (flow : Flow) (room : ℕ) → item.ended ≡ PastLimit → TakesItem l depth old item held tally flow later now counted
      → TakesItem l depth (with_room l old room) item held tally flow (with_room l later room) now counted
  takes_past old later item held now tally counted flow room past t = record {
    reply = t.reply;
    store = t.store;
    inside = t.inside;
    replies = record { known = t.replies.known; known_is = t.replies.known_is; replied = by_ended item.ended past t.replies.replied; stored = t.replies.stored };
    loaded = by_reply t.reply (reply_past item.ended old.room t.replies.known item.text t.reply past t.replies.replied) t.loaded;
    ends = t.ends;
    prints = t.prints;
    counts = t.counts;
    stores = t.stores;
  }
    where
      by_ended : (ended : Ended) → ended ≡ PastLimit → IsReplyOf l ended depth old.room t.replies.known item.text t.reply → IsReplyOf l ended depth room t.replies.known item.text t.reply
      by_ended (Terminated shown) is replied = absurd (cc)
      by_ended Unterminated is replied = replied
      by_ended PastLimit is replied = replied

      by_reply : (reply : Reply l) → reply ≡ Err (l.of_script script.PastLimit) → Loaded l (suc depth) reply (state_after l old reply t.store) t.inside later → Loaded l (suc depth) reply (state_after l (with_room l old room) reply t.store) t.inside (with_room l later room)
      by_reply (Ok deed) is loaded = absurd (cc)
      by_reply (Err fault) is loaded = (loaded.0, ap (λ (s : State l). with_room l s room) loaded.1)

-- with each item fewer bytes may still be passed
pub next_room : (ended : Ended) (place : Rest) (text : List ℕ) (line : ℕ) (last : Rest) → Next place (record { text = text; line = line; ended = ended }) last → ended ≢ PastLimit → last.room < place.room
next_room (Terminated shown) place text line last next other = of_command next.before next.cut
  where
    of_command : (before : List ℕ) → CutsCommand shown place before text last → last.room < place.room
    of_command before cut = omega (arith, cut.room)
next_room Unterminated place text line last next other = of_open next.before text next.cut
  where
    some : (text : List ℕ) → Starts text → 0 < length text
    some [] starts = absurd starts
    some (b ∷ bs) starts = omega arith

    of_open : (before text : List ℕ) → CutsOpen place before text last → last.room < place.room
    of_open before text cut = omega (arith, cut.room, some text cut.begun.starts)
next_room PastLimit place text line last next other = absurd (other refl)

pub room_falls : (item : Item) (place suffix : Rest) → (c : Comes item place suffix) → c.cut.ended ≢ PastLimit → suffix.room < place.room
room_falls item place suffix c other =
    let P : Rest → Type 0 = λ rest. rest.room < place.room in
    subst P (c.follows other) (next_room c.cut.ended place c.cut.text c.cut.line c.last c.next other)

-- what is no fault of the source leaves its count
pub kept_by : (result : Result Cut CutFault) (item : Item) (before after : ℕ) → coming_of result ≡ coming.Item item → CountsFault (is_failed_cut result) before after → after ≡ before
kept_by (Ok (cuts.Command text shown line)) item before after is counts = counts
kept_by (Ok cuts.End) item before after is counts = counts
kept_by (Err (cut_faults.Syntax line len)) item before after is counts = counts
kept_by (Err (cut_faults.Long line)) item before after is counts = counts
kept_by (Err (cut_faults.ScriptLimit line)) item before after is counts = counts
kept_by (Err cut_faults.Failed) item before after is counts = absurd (cc)
kept_by (Err cut_faults.Memory) item before after is counts = counts

pub no_end : (result : Result Cut CutFault) (item : Item) → coming_of result ≡ coming.Item item → result ≡ Ok cuts.End → ⊥
no_end result item is end = of_end (sym (ap coming_of end) ∙ is)
  where
    of_end : coming.End ≡ coming.Item item → ⊥
    of_end is = cc

-- the end, a fault of the source, and out of memory
pub end_of : (result : Result Cut CutFault) → coming_of result ≡ coming.End → result ≡ Ok cuts.End
end_of (Ok (cuts.Command text shown line)) is = absurd (cc)
end_of (Ok cuts.End) is = refl
end_of (Err (cut_faults.Syntax line len)) is = absurd (cc)
end_of (Err (cut_faults.Long line)) is = absurd (cc)
end_of (Err (cut_faults.ScriptLimit line)) is = absurd (cc)
end_of (Err cut_faults.Failed) is = absurd (cc)
end_of (Err cut_faults.Memory) is = absurd (cc)

pub failed_of : (result : Result Cut CutFault) → coming_of result ≡ coming.Failed → result ≡ Err cut_faults.Failed
failed_of (Ok (cuts.Command text shown line)) is = absurd (cc)
failed_of (Ok cuts.End) is = absurd (cc)
failed_of (Err (cut_faults.Syntax line len)) is = absurd (cc)
failed_of (Err (cut_faults.Long line)) is = absurd (cc)
failed_of (Err (cut_faults.ScriptLimit line)) is = absurd (cc)
failed_of (Err cut_faults.Failed) is = refl
failed_of (Err cut_faults.Memory) is = absurd (cc)

pub memory_of : (result : Result Cut CutFault) → coming_of result ≡ coming.Memory → result ≡ Err cut_faults.Memory
memory_of (Ok (cuts.Command text shown line)) is = absurd (cc)
memory_of (Ok cuts.End) is = absurd (cc)
memory_of (Err (cut_faults.Syntax line len)) is = absurd (cc)
memory_of (Err (cut_faults.Long line)) is = absurd (cc)
memory_of (Err (cut_faults.ScriptLimit line)) is = absurd (cc)
memory_of (Err cut_faults.Failed) is = absurd (cc)
memory_of (Err cut_faults.Memory) is = refl

-- spending twice is spending
pub spends_then : (old mid new : Kept) → OnlySpends old mid → OnlySpends mid new → OnlySpends old new
spends_then old mid new a b = record { only = b.only ∙ ap (λ (kept : Kept). record kept { room = new.room }) a.only; falls = omega (arith, a.falls, b.falls) }
