-- Where a run is between two items of the script, whatever may still come of that.
use Rattle.std.proofs.Common.{◌≡◌, ◌≢◌, ℕ, ◌+◌, ◌<◌, ◌≤◌, ◌⊎◌, Bool, true, false, if◌then◌else◌, List, [], ◌∷◌, ◌++◌, length, IfSome, Result, Ok, Err, refl, sym, ◌∙◌, ap, subst, inl, inr, arith, append_assoc, append-nil, length-append}
use Rattle.std.specs.List.{concat}
use Rattle.std.specs.Io.KnownBytes.{Consumes, IsAtEnd as HasGivenAll}
use Rattle.wal_outside.specs.Causes.{Rose}
use Rattle.wal_outside.specs.Sending.{HasSent}
use Rattle.wal_outside.specs.Views.{SourceView, StoreView, SinkView}
use Rattle.wal_outside.specs.declared.sink.WriteFault.{WriteFault}
use Rattle.script_cut.specs.Cuts.{Item as CutItem, PastLimit, Rest, Next, start, IsAtEnd}
use Rattle.script_cut.specs.Kept.{Kept, fresh}
use Rattle.script_cut.specs.Cutting.{place_of, MayCome, HasFailed, HasCut}
use Rattle.script_cut.specs.declared.cut.Cut.{Cut}
use Rattle.script_cut.specs.declared.cut.Cut.TheVariants as cuts
use Rattle.script_cut.specs.declared.cut.CutFault.{CutFault}
use Rattle.script_cut.specs.declared.cut.CutFault.TheVariants as cut_faults
use Rattle.script_cut.proofs.AskingSteps.{consumes-none, consumes-then}
use Rattle.script_runs.specs.declared.coming.Coming.TheVariants as coming
use Rattle.script_runs.specs.declared.coming.Item.{Item}
use Rattle.script_runs.specs.declared.coming.ItemText.TheVariants as texts
use Rattle.script_runs.specs.declared.script_fault.ScriptFault.TheVariants as script
use Rattle.script_runs.specs.declared.flow.Flow.{Flow}
use Rattle.script_runs.specs.declared.flow.Flow.TheVariants as flows
use Rattle.script_runs.specs.declared.tally.Tally.{Tally}
use Rattle.script_runs.specs.declared.status.Status.{Status}
use Rattle.script_runs.specs.declared.status.Status.TheVariants as status
use Rattle.script_runs.specs.Languages.{CommandLanguage, IsSound}
use Rattle.script_runs.specs.Replies.{State, Answered}
use Rattle.script_runs.specs.Turns.{Turns, no_more, cut_off, turn, in_order, is_cut_off, IsDue}
use Rattle.script_runs.specs.Runs.{Run, first_state}
use Rattle.script_runs.specs.Printed.{printed}
use Rattle.script_runs.specs.Ends.{stop_status, HasGiven, HasTurns, RanThrough, SourceFailed, WantedMemory}
use Rattle.script_runs.specs.Tallies.{Counts, nothing, tally_status}
use Rattle.script_runs.specs.Coming.{coming_of, IsItem}
use Rattle.script_runs.specs.Taking.{TakesItem, TakesText, HasAnswered, state}
use Rattle.script_runs.proofs.MoreBytes.{some_more, may_come_before, reported_left, reported_when}
use Rattle.script_runs.proofs.Counting.{status_counted}
use Rattle.script_runs.proofs.Reached.{Grown, Reached, begins, reached_more, reached_cut, reached_end}
use Rattle.script_runs.proofs.Cutting.{Comes, comes, is_past, ended_before, no_memory_past, takes_past, room_falls}

-- where a run over a script is at a place
abbrev pub HasReached : {F : Type 0} (l : CommandLanguage F) → List ℕ → StoreView → StoreView → Rest → ℕ → SinkView → SinkView → Tally → Type 0
HasReached l script old now place room held out tally = (ledger : l.Ledger) × Reached l 0 (start script) (first_state l old) place (state l ledger now room) held out nothing tally

-- the items so far are those of what the source gave, with whatever may come after that
pub record IsBetween {F : Type 0} (l : CommandLanguage F) (from to : SourceView) (kept : Kept) (old now : StoreView) (held out : SinkView) (tally : Tally) : Type 0 where
  pub gave : List ℕ
  pub taken : Consumes from.left to.left gave
  pub ended : kept.over ≡ true → HasGivenAll to.left
  pub reached : (more : List ℕ) → MayCome kept.over to.left more → HasReached l (gave ++ more) old now (place_of kept more) kept.room held out tally
  pub source_kept : to.faults ≡ from.faults
  pub room : kept.room + length gave ≤ 16777216 + length kept.held
  pub few : length gave ≤ 16777217

pub between_first : {F : Type 0} (l : CommandLanguage F) (sound : IsSound l) (from : SourceView) (old : StoreView) (held : SinkView) → IsBetween l from from fresh old old held held nothing
between_first l sound from old held = record {
  gave = [];
  taken = consumes-none from.left;
  ended = λ is. cc;
  reached = λ more may. (l.first old.files, begins l 0 (start more) (first_state l old) held nothing (sound.first_stores old.files));
  source_kept = refl;
  room = omega arith;
  few = omega arith;
}

-- what may come after a cut might have come before it
came : (kept next : Kept) (to now : SourceView) (result : Result Cut CutFault) (more : List ℕ) → kept.over ≡ false → (c : HasCut kept to result next now) → MayCome next.over now.left more → MayCome kept.over to.left (concat c.pieces ++ more)
came kept next to now result more begun c may = rw begun (may_come_before next.over to.left now.left (concat c.pieces) more c.given.taken (c.ended begun) may)

-- no more bytes were given than were passed and are held
room_next : (kept next : Kept) (to now : SourceView) (result : Result Cut CutFault) (gave : List ℕ) → kept.room + length gave ≤ 16777216 + length kept.held → (c : HasCut kept to result next now) → next.room + length (gave ++ concat c.pieces) ≤ 16777216 + length next.held
room_next kept next to now result gave room c = omega (arith, room, c.room, length-append gave (concat c.pieces), length-append kept.held (concat c.pieces))

few_by : (kept : Kept) (gave : List ℕ) (pieces : List (List ℕ)) → length gave ≤ 16777217 → kept.room + length gave ≤ 16777216 + length kept.held → (pieces ≢ [] → length (kept.held ++ concat pieces) ≤ kept.room + 1) → length (gave ++ concat pieces) ≤ 16777217
few_by kept gave [] few room within = omega (arith, few, length-append gave [])
few_by kept gave (piece ∷ pieces) few room within = omega (arith, room, within (λ is. cc), length-append kept.held (concat (piece ∷ pieces)), length-append gave (concat (piece ∷ pieces)))

module _ {F : Type 0} (l : CommandLanguage F) (from to now : SourceView) (kept next : Kept) (result : Result Cut CutFault) (old mid : StoreView) (held out : SinkView) (tally : Tally)
    (begun : kept.over ≡ false) (b : IsBetween l from to kept old mid held out tally) (c : HasCut kept to result next now) where
  -- what was given up to a cut, and what may come after it
  given_next : (more : List ℕ) → IfSome now.left (λ left. more ≡ left) → HasGiven from now (b.gave ++ concat c.pieces) more
  given_next more is = record {
    taken = consumes-then from.left to.left now.left b.gave (concat c.pieces) b.taken c.given.taken;
    within = few_by kept b.gave c.pieces b.few b.room c.within;
    reported = is;
  }

  -- where the run is before the item
  reached_before : (more : List ℕ) → MayCome next.over now.left more → HasReached l ((b.gave ++ concat c.pieces) ++ more) old mid (place_of kept (concat c.pieces ++ more)) kept.room held out tally
  reached_before more may =
      let P : List ℕ → Type 0 = λ script. HasReached l script old mid (place_of kept (concat c.pieces ++ more)) kept.room held out tally in
      subst P (sym (append_assoc b.gave (concat c.pieces) more)) (b.reached (concat c.pieces ++ more) (came kept next to now result more begun c may))

  module _ (item : Item) (item_is : coming_of result ≡ coming.Item item) (flow : Flow) (room : ℕ) (new : StoreView) (later : SinkView) (counted : Tally)
      (taken : (cut : CutItem) → IsItem item cut → (ledger : l.Ledger) → IfSome mid.files (l.stores ledger) → (after : l.Ledger) × TakesItem l 0 (state l ledger mid next.room) cut out tally flow (state l after new room) later counted) where
    coming_next : (more : List ℕ) → MayCome next.over now.left more → Comes item (place_of kept (concat c.pieces ++ more)) (place_of next more)
    coming_next more may = comes result item (place_of kept (concat c.pieces ++ more)) (place_of next more) item_is (c.item more may)

    -- an item was answered, and more comes
    pub between_next : flow ≡ flows.GoesOn → item.text ≢ texts.Broken script.PastLimit → room ≤ next.room → now.faults ≡ to.faults → IsBetween l from now (record next { room = room }) old new held later counted
    between_next on other less source = record {
      gave = b.gave ++ concat c.pieces;
      taken = consumes-then from.left to.left now.left b.gave (concat c.pieces) b.taken c.given.taken;
      ended = c.ended begun;
      reached = λ more may.
          let s = reached_before more may in
          let co : Comes item (place_of kept (concat c.pieces ++ more)) (place_of next more) = coming_next more may in
          let t = taken co.cut co.is_item s.0 s.1.stores in
          let P : Rest → Type 0 = λ place. Next (place_of kept (concat c.pieces ++ more)) co.cut place in
          let Q : Flow → Type 0 = λ f. TakesItem l 0 (state l s.0 mid next.room) co.cut out tally f (state l t.0 new room) later counted in (
            t.0,
            reached_more l 0 (start ((b.gave ++ concat c.pieces) ++ more)) (first_state l old) held nothing (place_of kept (concat c.pieces ++ more)) (place_of next more) co.cut (state l s.0 mid kept.room) (state l t.0 new room) out later tally counted
                (subst P (co.follows (ended_before item co.cut co.is_item other)) co.next) s.1 (subst Q on t.1),
          );
      source_kept = source ∙ b.source_kept;
      room = omega (arith, less, room_next kept next to now result b.gave b.room c);
      few = few_by kept b.gave c.pieces b.few b.room c.within;
    }

    -- the script's turns end with the item
    record TextEnds (more : List ℕ) : Type 0 where
      ledger : l.Ledger
      left : ℕ
      end : Rest
      text : TakesText l 0 (first_state l old) ((b.gave ++ concat c.pieces) ++ more) held nothing flow end (state l ledger new left) later counted
      left_is : flow ≡ flows.WantsMemory → end.left ≡ (place_of next more).left

    text_ends : (more : List ℕ) → MayCome next.over now.left more → flow ≢ flows.GoesOn → TextEnds more
    text_ends more may ends =
        let s = reached_before more may in
        let co : Comes item (place_of kept (concat c.pieces ++ more)) (place_of next more) = coming_next more may in
        let t = taken co.cut co.is_item s.0 s.1.stores in
        by_place co s.0 s.1 t.0 t.1 (is_past co.cut.ended)
      where
        by_place : (co : Comes item (place_of kept (concat c.pieces ++ more)) (place_of next more)) (ledger : l.Ledger) → Reached l 0 (start ((b.gave ++ concat c.pieces) ++ more)) (first_state l old) (place_of kept (concat c.pieces ++ more)) (state l ledger mid kept.room) held out nothing tally
            → (after : l.Ledger) → TakesItem l 0 (state l ledger mid next.room) co.cut out tally flow (state l after new room) later counted → (co.cut.ended ≡ PastLimit) ⊎ (co.cut.ended ≢ PastLimit) → TextEnds more
        by_place co ledger s after t (inl past) = record {
          ledger = after;
          left = co.last.room;
          end = co.last;
          text = reached_cut l 0 (start ((b.gave ++ concat c.pieces) ++ more)) (first_state l old) held nothing (place_of kept (concat c.pieces ++ more)) co.last co.cut (state l ledger mid kept.room) (state l after new co.last.room) out later tally counted co.next
              ((b.gave ++ concat c.pieces) ++ more) flow ends refl s (takes_past l 0 (state l ledger mid next.room) (state l after new room) co.cut out later tally counted flow co.last.room past t);
          left_is = λ memory. absurd (no_memory_past l 0 (state l ledger mid next.room) (state l after new room) co.cut out later tally counted
              (let P : Flow → Type 0 = λ f. TakesItem l 0 (state l ledger mid next.room) co.cut out tally f (state l after new room) later counted in subst P memory t) past);
        }
        by_place co ledger s after t (inr other) =
            let P : Rest → Type 0 = λ place. Next (place_of kept (concat c.pieces ++ more)) co.cut place in
            record {
              ledger = after;
              left = room;
              end = record (place_of next more) { room = room };
              text = reached_cut l 0 (start ((b.gave ++ concat c.pieces) ++ more)) (first_state l old) held nothing (place_of kept (concat c.pieces ++ more)) (place_of next more) co.cut (state l ledger mid kept.room) (state l after new room) out later tally counted
                  (subst P (co.follows other) co.next) ((b.gave ++ concat c.pieces) ++ more) flow ends refl s t;
              left_is = λ memory. refl;
            }

    -- what may come, with what the source has left
    which : (more : List ℕ) × MayCome next.over now.left more × IfSome now.left (λ left. more ≡ left)
    which =
        let more : (more : List ℕ) × MayCome next.over now.left more = some_more next.over now.left in
        (more.0, more.1, reported_when next.over now.left more.0 (c.ended begun) more.1)

    has_turns : (more : List ℕ) → (e : TextEnds more) → HasTurns l ((b.gave ++ concat c.pieces) ++ more) old e.text.turns e.end new
    has_turns more e = record { ledger = e.ledger; room = e.left; run = e.text.run; stores = e.text.stores }

    -- an item ended the run
    pub between_ends : flow ≡ flows.Ends → now.faults ≡ to.faults → HasAnswered l from now old new held later (Ok counted)
    between_ends is source =
        let w = which in
        let e : TextEnds w.0 = text_ends w.0 w.1 (λ on. absurd (not_both (sym is ∙ on))) in
        let P : Flow → Type 0 = λ f. TakesText l 0 (first_state l old) ((b.gave ++ concat c.pieces) ++ w.0) held nothing f e.end (record { ledger = e.ledger; store = new; room = e.left }) later counted in
        let t : P flows.Ends = subst P is e.text in (
          b.gave ++ concat c.pieces,
          w.0,
          given_next w.0 w.2,
          record {
            turns = t.turns;
            last = e.end;
            has_turns = record { ledger = e.ledger; room = e.left; run = t.run; stores = t.stores };
            due = t.ends.1;
            end = t.ended;
            sent = t.prints;
            source_kept = source ∙ b.source_kept;
            state_is = status_counted l counted (in_order l t.turns) t.counts;
          },
          t.counts,
        )
      where
        not_both : flows.Ends ≡ flows.GoesOn → ⊥
        not_both is = cc

    -- the sink stopped the run
    pub between_stops : (fault : WriteFault) (ended : Status) → flow ≡ flows.Stopped fault → now.faults ≡ to.faults → ended ≡ stop_status fault → HasAnswered l from now old new held later (Err ended)
    between_stops fault ended is source state_is =
        let w = which in
        let e : TextEnds w.0 = text_ends w.0 w.1 (λ on. absurd (not_both (sym is ∙ on))) in
        let P : Flow → Type 0 = λ f. TakesText l 0 (first_state l old) ((b.gave ++ concat c.pieces) ++ w.0) held nothing f e.end (record { ledger = e.ledger; store = new; room = e.left }) later counted in
        let t : P (flows.Stopped fault) = subst P is e.text in (
          b.gave ++ concat c.pieces,
          w.0,
          given_next w.0 w.2,
          inl (record {
            turns = t.turns;
            last = e.end;
            has_turns = record { ledger = e.ledger; room = e.left; run = t.run; stores = t.stores };
            cut = t.ends;
            fault = fault;
            part = t.prints;
            source_kept = source ∙ b.source_kept;
            state_is = state_is;
          }),
        )
      where
        not_both : flows.Stopped fault ≡ flows.GoesOn → ⊥
        not_both is = cc

    left_of : (over : Bool) (more : List ℕ) → MayCome over now.left more → (suffix : List ℕ) × (if over then [] else next.held ++ more) ≡ suffix ++ more
    left_of true more may = ([], sym may)
    left_of false more may = (next.held, refl)

    -- there was no memory in a text that was loaded
    pub between_wants : flow ≡ flows.WantsMemory → now.faults ≡ to.faults → HasAnswered l from now old new held later (Err status.Memory)
    between_wants is source =
        let w = which in
        let e : TextEnds w.0 = text_ends w.0 w.1 (λ on. absurd (not_both (sym is ∙ on))) in
        let P : Flow → Type 0 = λ f. TakesText l 0 (first_state l old) ((b.gave ++ concat c.pieces) ++ w.0) held nothing f e.end (record { ledger = e.ledger; store = new; room = e.left }) later counted in
        let t : P flows.WantsMemory = subst P is e.text in
        let left = left_of next.over w.0 w.1 in (
          b.gave ++ concat c.pieces,
          w.0,
          given_next w.0 w.2,
          inr (record {
            turns = t.turns;
            last = e.end;
            has_turns = record { ledger = e.ledger; room = e.left; run = t.run; stores = t.stores };
            suffix = left.0;
            left_is = e.left_is is ∙ left.1;
            sent = t.prints;
            cause = inr (record { cut = t.ends; source_kept = source ∙ b.source_kept; state_is = refl });
          }),
        )
      where
        not_both : flows.WantsMemory ≡ flows.GoesOn → ⊥
        not_both is = cc

  -- the source failed, or there was no memory for the next item
  between_fault : (rest : Turns l) (ended : Status) → ((turns : Turns l) → (IsDue l rest → IsDue l turns) → is_cut_off l turns ≡ is_cut_off l rest → SourceFailed l turns from now (b.gave ++ concat c.pieces) (kept.held ++ concat c.pieces) ended ⊎ WantedMemory l turns from now ended)
      → (rest ≡ no_more) ⊎ (rest ≡ cut_off) → HasAnswered l from now old mid held out (Err ended)
  between_fault rest ended cause which =
      let more : (more : List ℕ) × MayCome false now.left more = some_more false now.left in
      let before : MayCome kept.over to.left (concat c.pieces ++ more.0) = rw begun (may_come_before false to.left now.left (concat c.pieces) more.0 c.given.taken (λ is. cc) more.1) in
      let P : List ℕ → Type 0 = λ script. HasReached l script old mid (place_of kept (concat c.pieces ++ more.0)) kept.room held out tally in
      let s : P ((b.gave ++ concat c.pieces) ++ more.0) = subst P (sym (append_assoc b.gave (concat c.pieces) more.0)) (b.reached (concat c.pieces ++ more.0) before) in
      let place : Rest = place_of kept (concat c.pieces ++ more.0) in
      let g : Grown l 0 (start ((b.gave ++ concat c.pieces) ++ more.0)) (first_state l old) s.1.prefix rest place (state l s.0 mid kept.room) = s.1.grow rest place (state l s.0 mid kept.room) (stays rest which place (state l s.0 mid kept.room)) in
      let split : in_order l g.turns ≡ s.1.prefix = g.split ∙ (ap (λ (xs : List (Answered l)). s.1.prefix ++ xs) (none rest which) ∙ append-nil s.1.prefix) in (
        b.gave ++ concat c.pieces,
        more.0,
        given_next more.0 (reported_left now.left more.0 more.1),
        inr (record {
          turns = g.turns;
          last = place;
          has_turns = record { ledger = s.0; room = kept.room; run = g.run; stores = s.1.stores };
          suffix = kept.held ++ concat c.pieces;
          left_is = rw begun (sym (append_assoc kept.held (concat c.pieces) more.0));
          sent = let Q : List (Answered l) → Type 0 = λ xs. HasSent held (printed l xs) out in subst Q (sym split) s.1.sent;
          cause = cause g.turns g.due g.cut;
        }),
      )
    where
      stays : (rest : Turns l) → (rest ≡ no_more) ⊎ (rest ≡ cut_off) → (place : Rest) (now : State l) → Run l 0 place now rest place now
      stays no_more which place now = (refl, refl)
      stays cut_off which place now = (refl, refl)
      stays (turn first inside after) (inl is) place now = absurd (cc)
      stays (turn first inside after) (inr is) place now = absurd (cc)

      none : (rest : Turns l) → (rest ≡ no_more) ⊎ (rest ≡ cut_off) → in_order l rest ≡ []
      none no_more which = refl
      none cut_off which = refl
      none (turn first inside after) (inl is) = absurd (cc)
      none (turn first inside after) (inr is) = absurd (cc)

  -- the source failed
  pub between_failed : result ≡ Err cut_faults.Failed → Rose to.faults now.faults → HasAnswered l from now old mid held out (Err status.Outside)
  between_failed is rose =
      let failed : HasFailed kept (concat c.pieces) = c.failed is in
      between_fault no_more status.Outside
      (λ turns due cut. inl (record {
        rose = rw b.source_kept at rose;
        due = due tt;
        whole = cut;
        none = failed.none;
        within = omega (arith, failed.within, b.room, length-append kept.held (concat c.pieces), length-append b.gave (concat c.pieces));
        state_is = refl;
      })) (inl refl)

  -- no memory
  pub between_memory : now.faults ≡ to.faults → HasAnswered l from now old mid held out (Err status.Memory)
  between_memory source = between_fault cut_off status.Memory (λ turns due cut. inr (record { cut = cut; source_kept = source ∙ b.source_kept; state_is = refl })) (inr refl)

-- nothing is left
none_left : (place : Rest) → place.left ≡ [] → IsAtEnd place
none_left place is = record { gaps = rw is refl; within = omega (arith, ap length is) }

-- the script's end
end_at : {F : Type 0} (l : CommandLanguage F) (script : List ℕ) (from to : SourceView) (old mid : StoreView) (held out : SinkView) (tally : Tally) (place : Rest) (room : ℕ)
    → HasReached l script old mid place room held out tally → IsAtEnd place → to.faults ≡ from.faults → (through : RanThrough l script from to old mid held out (tally_status tally)) × Counts l nothing (in_order l through.turns) tally
end_at l script from to old mid held out tally place room s end source =
    let t : TakesText l 0 (first_state l old) script held nothing flows.GoesOn place (state l s.0 mid room) out tally = reached_end l 0 (start script) (first_state l old) held nothing script place (state l s.0 mid room) out tally refl end s.1 in (
      record {
        turns = t.turns;
        last = place;
        has_turns = record { ledger = s.0; room = room; run = t.run; stores = t.stores };
        due = t.ends.1;
        end = t.ended;
        sent = t.prints;
        source_kept = source;
        state_is = status_counted l tally (in_order l t.turns) t.counts;
      },
      t.counts,
    )

pub between_end : {F : Type 0} (l : CommandLanguage F) (over : Bool) (from to now : SourceView) (kept next : Kept) (old mid : StoreView) (held out : SinkView) (tally : Tally)
    → kept.over ≡ over → IsBetween l from to kept old mid held out tally → HasCut kept to (Ok cuts.End) next now → now.faults ≡ to.faults → (kept.over ≡ true → now ≡ to)
    → HasAnswered l from now old mid held out (Ok tally)
between_end l false from to now kept next old mid held out tally begun b c source still =
    let more : (more : List ℕ) × MayCome next.over now.left more = some_more next.over now.left in
    let s = reached_before l from to now kept next (Ok cuts.End) old mid held out tally begun b c more.0 more.1 in
    let e = end_at l ((b.gave ++ concat c.pieces) ++ more.0) from now old mid held out tally (place_of kept (concat c.pieces ++ more.0)) kept.room s (c.item more.0 more.1) (source ∙ b.source_kept) in (
      b.gave ++ concat c.pieces,
      more.0,
      given_next l from to now kept next (Ok cuts.End) old mid held out tally begun b c more.0 (reported_when next.over now.left more.0 (c.ended begun) more.1),
      e.0,
      e.1,
    )
between_end l true from to now kept next old mid held out tally over b c source still =
    let may : MayCome kept.over to.left [] = rw over refl in
    let none : (place_of kept []).left ≡ [] = rw over refl in
    let P : SourceView → Type 0 = λ end. HasAnswered l from end old mid held out (Ok tally) in
    let given : HasGiven from to b.gave [] = record { taken = b.taken; within = b.few; reported = reported_when kept.over to.left [] b.ended may } in
    let e = end_at l (b.gave ++ []) from to old mid held out tally (place_of kept []) kept.room (b.reached [] may) (none_left (place_of kept []) none) b.source_kept in
    subst P (sym (still over)) (b.gave, [], given, e.0, e.1)

-- with each item that more follows fewer bytes may still be passed
pub between_falls : (to now : SourceView) (kept next : Kept) (result : Result Cut CutFault) (item : Item) → coming_of result ≡ coming.Item item → item.text ≢ texts.Broken script.PastLimit → HasCut kept to result next now → next.room < kept.room
between_falls to now kept next result item is other c =
    let more : (more : List ℕ) × MayCome next.over now.left more = some_more next.over now.left in
    let co : Comes item (place_of kept (concat c.pieces ++ more.0)) (place_of next more.0) = comes result item (place_of kept (concat c.pieces ++ more.0)) (place_of next more.0) is (c.item more.0 more.1) in
    room_falls item (place_of kept (concat c.pieces ++ more.0)) (place_of next more.0) co (ended_before item co.cut co.is_item other)

-- what is not the end was cut before the end
pub begun_of : {P : Type 0} (over : Bool) (result : Result Cut CutFault) → (over ≡ true → (result ≡ Ok cuts.End) × P) → (result ≡ Ok cuts.End → ⊥) → over ≡ false
begun_of {P} true result again other = absurd (other (again refl).0)
begun_of {P} false result again other = refl
