-- Where a run over a text is between two items, and how it goes on and ends.
use Rattle.std.proofs.Common.{◌≡◌, ◌≢◌, ℕ, ◌+◌, Bool, true, false, List, [], ◌∷◌, ◌++◌, IfSome, refl, sym, ◌∙◌, ap, subst, append_assoc, append-nil}
use Rattle.wal_outside.specs.Sending.{HasSent}
use Rattle.wal_outside.specs.Views.{SinkView}
use Rattle.wal_outside.proofs.SendingSteps.{none_sent}
use Rattle.script_cut.specs.Cuts.{Item, Rest, Next, start, IsAtEnd}
use Rattle.script_runs.specs.declared.flow.Flow.{Flow}
use Rattle.script_runs.specs.declared.flow.Flow.TheVariants as flows
use Rattle.script_runs.specs.declared.tally.Tally.{Tally}
use Rattle.script_runs.specs.Languages.{CommandLanguage, Ends}
use Rattle.script_runs.specs.Replies.{State, Answered}
use Rattle.script_runs.specs.Turns.{Turns, no_more, cut_off, turn, in_order, is_cut_off, goes_on, IsDue}
use Rattle.script_runs.specs.Runs.{room_at, place_with, with_room, Run}
use Rattle.script_runs.specs.Printed.{printed}
use Rattle.script_runs.specs.Tallies.{Counts}
use Rattle.script_runs.specs.Flows.{Prints, ItemEndsBy, TextEndsBy}
use Rattle.script_runs.specs.Taking.{TakesItem, TakesText}
use Rattle.script_runs.proofs.Counting.{counts_none, counts_then, prints_then}

pub both_ways : (v : Bool) → v ≡ true → v ≡ false → ⊥
both_ways true is other = cc
both_ways false is other = cc

-- turns from the start on: those before a place, and then the rest
pub record Grown {F : Type 0} (l : CommandLanguage F) (depth : ℕ) (begin : Rest) (old : State l) (prefix : List (Answered l)) (rest : Turns l) (last : Rest) (new : State l) : Type 0 where
  pub turns : Turns l
  pub run : Run l depth begin old turns last new
  pub split : in_order l turns ≡ prefix ++ in_order l rest
  pub due : IsDue l rest → IsDue l turns
  pub cut : is_cut_off l turns ≡ is_cut_off l rest

-- what was answered and printed so far, and that any turns from here on are turns from the start on
pub record Reached {F : Type 0} (l : CommandLanguage F) (depth : ℕ) (begin : Rest) (old : State l) (place : Rest) (now : State l) (held out : SinkView) (first tally : Tally) : Type 0 where
  pub prefix : List (Answered l)
  pub grow : (rest : Turns l) (last : Rest) (new : State l) → Run l depth place now rest last new → Grown l depth begin old prefix rest last new
  pub sent : HasSent held (printed l prefix) out
  pub counts : Counts l first prefix tally
  pub stores : IfSome now.store.files (l.stores now.ledger)

module _ {F : Type 0} (l : CommandLanguage F) (depth : ℕ) (begin : Rest) (old : State l) (held : SinkView) (first : Tally) where
  -- before the first item
  pub begins : IfSome old.store.files (l.stores old.ledger) → Reached l depth begin old begin old held held first first
  begins stores = record {
    prefix = [];
    grow = λ rest last new run. record { turns = rest; run = run; split = refl; due = λ due. due; cut = refl };
    sent = none_sent held;
    counts = counts_none l first;
    stores = stores;
  }

  module _ (place mid : Rest) (item : Item) (now later : State l) (out after : SinkView) (tally counted : Tally) (next : Next place item mid) where
    -- an item was answered, and more comes
    pub reached_more : Reached l depth begin old place now held out first tally → TakesItem l depth (with_room l now (room_at depth mid now.room)) item out tally flows.GoesOn later after counted
        → Reached l depth begin old (place_with depth mid later.room) later held after first counted
    reached_more s t =
        let answered : List (Answered l) = record { item = item; reply = t.reply } ∷ in_order l t.inside in
        record {
          prefix = s.prefix ++ answered;
          grow = λ rest last new run.
              let g : Grown l depth begin old s.prefix (turn (record { item = item; reply = t.reply }) t.inside rest) last new =
              s.grow (turn (record { item = item; reply = t.reply }) t.inside rest) last new (mid, t.store, later, next, t.replies, t.loaded, (λ ends. absurd (both_ways (goes_on l t.reply t.inside) t.ends.0 ends)), run) in
              record {
                turns = g.turns;
                run = g.run;
                split = g.split ∙ sym (append_assoc s.prefix answered (in_order l rest));
                due = λ due. g.due (t.ends.1, λ on. due);
                cut = g.cut;
              };
          sent = prints_then l held out after s.prefix answered flows.GoesOn s.sent t.prints;
          counts = counts_then l first tally counted s.prefix answered s.counts t.counts;
          stores = t.stores;
        }

    -- an item was answered with which the run ends
    pub reached_cut : (text : List ℕ) (flow : Flow) → flow ≢ flows.GoesOn → begin ≡ start text → Reached l depth begin old place now held out first tally → TakesItem l depth (with_room l now (room_at depth mid now.room)) item out tally flow later after counted
        → TakesText l depth old text held first flow (place_with depth mid later.room) later after counted
    reached_cut text flow ends begin_is s t =
        let answered : List (Answered l) = record { item = item; reply = t.reply } ∷ in_order l t.inside in
        let g : Grown l depth begin old s.prefix (turn (record { item = item; reply = t.reply }) t.inside cut_off) (place_with depth mid later.room) later =
        s.grow (turn (record { item = item; reply = t.reply }) t.inside cut_off) (place_with depth mid later.room) later (mid, t.store, later, next, t.replies, t.loaded, (λ off. refl), (refl, refl)) in
        let split : in_order l g.turns ≡ s.prefix ++ answered = g.split ∙ ap (λ (xs : List (Answered l)). s.prefix ++ (record { item = item; reply = t.reply } ∷ xs)) (append-nil (in_order l t.inside)) in
        let P : List (Answered l) → Type 0 = λ xs. Prints l held xs flow after in
        let Q : List (Answered l) → Type 0 = λ xs. Counts l first xs counted in
        let R : Rest → Type 0 = λ place. Run l depth place old g.turns (place_with depth mid later.room) later in
        record {
          turns = g.turns;
          run = subst R begin_is g.run;
          ended = λ off. absurd (both_ways (is_cut_off l g.turns) g.cut off);
          ends = by_flow flow ends t.ends g.turns g.due g.cut;
          prints = subst P (sym split) (prints_then l held out after s.prefix answered flow s.sent t.prints);
          counts = subst Q (sym split) (counts_then l first tally counted s.prefix answered s.counts t.counts);
          stores = t.stores;
        }
      where
        by_flow : (flow : Flow) → flow ≢ flows.GoesOn → ItemEndsBy l t.reply t.inside flow → (turns : Turns l)
            → (IsDue l (turn (record { item = item; reply = t.reply }) t.inside cut_off) → IsDue l turns) → is_cut_off l turns ≡ true → TextEndsBy l turns flow
        by_flow flows.GoesOn ends t_ends turns due cut = absurd (ends refl)
        by_flow flows.Ends ends t_ends turns due cut = (cut, due (t_ends.1, λ on. absurd (both_ways (goes_on l t.reply t.inside) on t_ends.0)))
        by_flow (flows.Stopped fault) ends t_ends turns due cut = cut
        by_flow flows.WantsMemory ends t_ends turns due cut = cut

  -- no more comes
  pub reached_end : (text : List ℕ) (place : Rest) (now : State l) (out : SinkView) (tally : Tally) → begin ≡ start text → IsAtEnd place → Reached l depth begin old place now held out first tally → TakesText l depth old text held first flows.GoesOn place now out tally
  reached_end text place now out tally begin_is end s =
      let g : Grown l depth begin old s.prefix no_more place now = s.grow no_more place now (refl, refl) in
      let split : in_order l g.turns ≡ s.prefix = g.split ∙ append-nil s.prefix in
      let P : List (Answered l) → Type 0 = λ xs. HasSent held (printed l xs) out in
      let Q : List (Answered l) → Type 0 = λ xs. Counts l first xs tally in
      let R : Rest → Type 0 = λ at. Run l depth at old g.turns place now in
      record {
        turns = g.turns;
        run = subst R begin_is g.run;
        ended = λ whole. end;
        ends = (g.cut, g.due tt);
        prints = subst P (sym split) s.sent;
        counts = subst Q (sym split) s.counts;
        stores = s.stores;
      }

  -- there was no memory for the next item
  pub reached_memory : (text : List ℕ) (place : Rest) (now : State l) (out : SinkView) (tally : Tally) → begin ≡ start text → Reached l depth begin old place now held out first tally → TakesText l depth old text held first flows.WantsMemory place now out tally
  reached_memory text place now out tally begin_is s =
      let g : Grown l depth begin old s.prefix cut_off place now = s.grow cut_off place now (refl, refl) in
      let split : in_order l g.turns ≡ s.prefix = g.split ∙ append-nil s.prefix in
      let P : List (Answered l) → Type 0 = λ xs. HasSent held (printed l xs) out in
      let Q : List (Answered l) → Type 0 = λ xs. Counts l first xs tally in
      let R : Rest → Type 0 = λ at. Run l depth at old g.turns place now in
      record {
        turns = g.turns;
        run = subst R begin_is g.run;
        ended = λ whole. absurd (both_ways (is_cut_off l g.turns) g.cut whole);
        ends = g.cut;
        prints = subst P (sym split) s.sent;
        counts = subst Q (sym split) s.counts;
        stores = s.stores;
      }
