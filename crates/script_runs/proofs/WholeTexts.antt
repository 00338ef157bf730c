-- A run over a text that is given whole, as a run over a script whose source reports that text.
use Rattle.std.proofs.Common.{◌≡◌, ℕ, ◌+◌, ◌^◌, ◌<◌, ◌⊎◌, List, ◌++◌, length, Option, None, Some, IfSome, Ok, Err, refl, sym, ◌∙◌, ap, subst, inl, inr, arith}
use Rattle.std.specs.Io.KnownBytes.{Consumes}
use Rattle.wal_outside.specs.Causes.{Rose}
use Rattle.wal_outside.specs.Views.{SourceView, StoreView, SinkView}
use Rattle.script_cut.specs.Cuts.{start}
use Rattle.script_runs.specs.declared.tally.Tally.{Tally}
use Rattle.script_runs.specs.declared.status.Status.{Status}
use Rattle.script_runs.specs.Languages.{CommandLanguage, IsSound}
use Rattle.script_runs.specs.Turns.{cut_off, in_order}
use Rattle.script_runs.specs.Runs.{first_state}
use Rattle.script_runs.specs.Ends.{HasTurns, RanToStop, RanToFault, SourceFailed, WantedMemory, HasRun}
use Rattle.script_runs.specs.Tallies.{tally_status}
use Rattle.script_runs.specs.Taking.{HasAnswered}
use Rattle.script_runs.specs.Laws.{HaveBytes}
use Rattle.script_runs.specs.TextRuns.{RanWhole, RanShort}
use Rattle.script_runs.proofs.Counting.{numbers_all}
use Rattle.script_runs.proofs.CountedItems.{items_have_bytes}

-- the status of a run is that of what was counted, or the one with which it was ended
pub run_through : {F : Type 0} (l : CommandLanguage F) (from to : SourceView) (old new : StoreView) (held now : SinkView) (tally : Tally) (state : Status) → state ≡ tally_status tally → HasAnswered l from to old new held now (Ok tally) → HasRun l from to old new held now state
run_through l from to old new held now tally state is (gave, more, given, through, counts) =
    let P : Status → Type 0 = λ s. HasRun l from to old new held now s in
    subst P (sym is) (gave, more, given, inl through)

pub run_ended : {F : Type 0} (l : CommandLanguage F) (from to : SourceView) (old new : StoreView) (held now : SinkView) (state : Status) → HasAnswered l from to old new held now (Err state) → HasRun l from to old new held now state
run_ended l from to old new held now state (gave, more, given, ended) = (gave, more, given, inr ended)

-- what was given and what is left are the text
whole : (from to : Option (List ℕ)) (text left gave more : List ℕ) → from ≡ Some text → to ≡ Some left → Consumes from to gave → IfSome to (λ (left : List ℕ). more ≡ left) → gave ++ more ≡ text
whole None to text left gave more from_is to_is taken reported = cc
whole (Some bytes) None text left gave more from_is to_is taken reported = cc
whole (Some bytes) (Some rest) text left gave more from_is to_is taken reported =
    let same : bytes ≡ text = one bytes text from_is in
    ap (λ (xs : List ℕ). gave ++ xs) reported ∙ (sym taken ∙ same)
  where
    one : (a b : List ℕ) → Some a ≡ Some b → a ≡ b
    one a b is = cc

module _ {F : Type 0} (l : CommandLanguage F) (from to : SourceView) (old new : StoreView) (held now : SinkView) (text left : List ℕ) (from_is : from.left ≡ Some text) (to_is : to.left ≡ Some left) where
  -- all was answered and counted
  pub text_through : (tally : Tally) (state : Status) → state ≡ tally_status tally → HasAnswered l from to old new held now (Ok tally) → RanWhole l text old new tally.counts state
  text_through tally state is (gave, more, given, t, counts) =
      let all : gave ++ more ≡ text = whole from.left to.left text left gave more from_is to_is given.taken given.reported in
      let P : List ℕ → Type 0 = λ script. HasTurns l script old t.turns t.last new in
      let h : HaveBytes l 16777216 (in_order l t.turns) t.last.room = items_have_bytes l t.turns (start (gave ++ more)) t.last (first_state l old) (record { ledger = t.has_turns.ledger; store = new; room = t.has_turns.room }) (omega arith) t.has_turns.run in
      let few : length (in_order l t.turns) < 2 ^ 64 = omega (arith, h.counted, h.once) in
      record {
        turns = t.turns;
        last = t.last;
        has_turns = subst P all t.has_turns;
        due = t.due;
        end = t.end;
        counted = numbers_all l (in_order l t.turns) tally.counts counts.counts few;
        state_is = is ∙ t.state_is;
      }

  -- memory ran out, since the source does not fail
  pub text_ended : (state : Status) → (Rose from.faults to.faults → ⊥) → HasAnswered l from to old new held now (Err state) → RanShort l text old new
  text_ended state sure (gave, more, given, ended) = by_end ended
    where
      all : gave ++ more ≡ text
      all = whole from.left to.left text left gave more from_is to_is given.taken given.reported

      by_end : RanToStop l (gave ++ more) from to old new held now state ⊎ RanToFault l gave more from to old new held now state → RanShort l text old new
      by_end (inl stopped) =
          let P : List ℕ → Type 0 = λ script. HasTurns l script old stopped.turns stopped.last new in
          record { turns = stopped.turns; last = stopped.last; has_turns = subst P all stopped.has_turns; cut = stopped.cut }
      by_end (inr fault) = by_cause fault.cause
        where
          by_cause : SourceFailed l fault.turns from to gave fault.suffix state ⊎ WantedMemory l fault.turns from to state → RanShort l text old new
          by_cause (inl failed) = absurd (sure failed.rose)
          by_cause (inr wanted) =
              let P : List ℕ → Type 0 = λ script. HasTurns l script old fault.turns fault.last new in
              record { turns = fault.turns; last = fault.last; has_turns = subst P all fault.has_turns; cut = wanted.cut }

-- nothing was answered yet
pub none_answered : {F : Type 0} (l : CommandLanguage F) → IsSound l → (text : List ℕ) (store : StoreView) → RanShort l text store store
none_answered l sound text store = record {
  turns = cut_off;
  last = start text;
  has_turns = record { ledger = l.first store.files; room = 16777216; run = (refl, refl); stores = sound.first_stores store.files };
  cut = refl;
}
