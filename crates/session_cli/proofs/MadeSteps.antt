-- What a status says of a run of a generated script, and how its line is handed over.
use Rattle.std.proofs.Common.{◌≡◌, ◌⊎◌, ℕ, List, ◌++◌, Result, Ok, Err, sym, ◌∙◌, subst, inl, inr}
use Rattle.wal_outside.specs.Causes.{Rose}
use Rattle.wal_outside.specs.Sending.{Sends, HasSent}
use Rattle.wal_outside.specs.Views.{SinkView, StoreView}
use Rattle.wal_outside.specs.declared.sink.WriteFault.{WriteFault}
use Rattle.wal_outside.specs.declared.sink.WriteFault.TheVariants as writes
use Rattle.wal_outside.proofs.SendingSteps.{sends_then, sends_cut}
use Rattle.made_script.specs.Scripts.{script_text}
use Rattle.script_runs.specs.Languages.{CommandLanguage, IsSound}
use Rattle.script_runs.specs.TextRuns.{RanWhole, RanShort}
use Rattle.script_runs.specs.declared.text_run.TextRun.{TextRun}
use Rattle.script_runs.specs.declared.status.Status.{Status}
use Rattle.script_runs.specs.declared.status.Status.TheVariants as status
use Rattle.script_runs.proofs.Statuses.{rose_of_text, text_no_usage}
use Rattle.script_runs.proofs.WholeTexts.{none_answered}
use Rattle.session_cli.specs.Made.{made_line, made_status, PrintsRun, HasMade}

module _ {F : Type 0} (l : CommandLanguage F) (seed : ℕ) (old new : StoreView) (held now : SinkView) (state : Status) where
  -- no such run has the status of words that are refused
  pub made_no_usage : HasMade l seed old new held now state → state ≡ status.Usage → ⊥
  made_no_usage (inr short) usage = let other : status.Memory ≡ status.Usage = sym short.state_is ∙ usage in cc
  made_no_usage (inl made) usage = by_sent made.prints.0 made.prints.2
    where
      by_sent : (sent : Result (Unit {0}) WriteFault) → state ≡ made_status made.run.status sent → ⊥
      by_sent (Ok done) is = text_no_usage l (script_text seed) old new made.run.counts made.run.status made.ran (sym is ∙ usage)
      by_sent (Err writes.Failed) is = let other : status.Outside ≡ status.Usage = sym is ∙ usage in cc
      by_sent (Err writes.Memory) is = let other : status.Memory ≡ status.Usage = sym is ∙ usage in cc

  -- the sink's count rose, or the store's
  pub made_outside : HasMade l seed old new held now state → state ≡ status.Outside → Rose held.faults now.faults ⊎ Rose old.faults new.faults
  made_outside (inr short) outside = let other : status.Memory ≡ status.Outside = sym short.state_is ∙ outside in absurd (cc)
  made_outside (inl made) outside = by_sent made.prints.0 made.prints.1 made.prints.2
    where
      by_sent : (sent : Result (Unit {0}) WriteFault) → Sends held (made_line seed made.run.counts) sent now → state ≡ made_status made.run.status sent → Rose held.faults now.faults ⊎ Rose old.faults new.faults
      by_sent (Ok done) sends is = inr (rose_of_text l (script_text seed) old new made.run.counts made.run.status made.ran (sym is ∙ outside))
      by_sent (Err writes.Failed) sends is = inl sends.faults.1
      by_sent (Err writes.Memory) sends is = let other : status.Memory ≡ status.Outside = sym is ∙ outside in absurd (cc)

  -- where memory ran out the sink's count stays
  pub made_memory : HasMade l seed old new held now state → state ≡ status.Memory → now.faults ≡ held.faults
  made_memory (inr short) memory = λ i. (short.sink_stays i).faults
  made_memory (inl made) memory = by_sent made.prints.0 made.prints.1 made.prints.2
    where
      by_sent : (sent : Result (Unit {0}) WriteFault) → Sends held (made_line seed made.run.counts) sent now → state ≡ made_status made.run.status sent → now.faults ≡ held.faults
      by_sent (Ok done) sends is = sends.faults
      by_sent (Err writes.Failed) sends is = let other : status.Outside ≡ status.Memory = sym is ∙ memory in absurd (cc)
      by_sent (Err writes.Memory) sends is = sends.faults

module _ {F : Type 0} (l : CommandLanguage F) (seed : ℕ) (old new : StoreView) (held now : SinkView) (state : Status) where
  -- the generated script was run whole
  pub made_run : (text : List ℕ) → text ≡ script_text seed → (run : TextRun) → RanWhole l text old new run.counts run.status → PrintsRun seed run held now state → HasMade l seed old new held now state
  made_run text is run ran prints = inl (record { run = run; ran = subst (λ (xs : List ℕ). RanWhole l xs old new run.counts run.status) is ran; prints = prints })

  -- memory ran out before that
  pub made_out : (text : List ℕ) → text ≡ script_text seed → RanShort l text old new → now ≡ held → state ≡ status.Memory → HasMade l seed old new held now state
  made_out text is ran stays state_is = inr (record { ran = subst (λ (xs : List ℕ). RanShort l xs old new) is ran; sink_stays = stays; state_is = state_is })

  -- or before the script was made
  pub made_nothing : IsSound l → new ≡ old → now ≡ held → state ≡ status.Memory → HasMade l seed old new held now state
  made_nothing sound same stays state_is = inr (record {
    ran = subst (λ (store : StoreView). RanShort l (script_text seed) old store) (sym same) (none_answered l sound (script_text seed) old);
    sink_stays = stays;
    state_is = state_is;
  })

-- four texts one after another, of which the sink stopped one
pub first_cut : (old now : SinkView) (one two three four : List ℕ) (fault : WriteFault) → Sends old one (Err fault) now → Sends old (((one ++ two) ++ three) ++ four) (Err fault) now
first_cut old now one two three four fault sends = sends_cut old now ((one ++ two) ++ three) four fault (sends_cut old now (one ++ two) three fault (sends_cut old now one two fault sends))

pub second_cut : (old mid now : SinkView) (one two three four : List ℕ) (fault : WriteFault) → HasSent old one mid → Sends mid two (Err fault) now → Sends old (((one ++ two) ++ three) ++ four) (Err fault) now
second_cut old mid now one two three four fault sent sends = sends_cut old now ((one ++ two) ++ three) four fault (sends_cut old now (one ++ two) three fault (sends_then old mid now one two (Err fault) sent sends))

pub third_cut : (old mid later now : SinkView) (one two three four : List ℕ) (fault : WriteFault) → HasSent old one mid → HasSent mid two later → Sends later three (Err fault) now → Sends old (((one ++ two) ++ three) ++ four) (Err fault) now
third_cut old mid later now one two three four fault sent also sends = sends_cut old now ((one ++ two) ++ three) four fault (sends_then old later now (one ++ two) three (Err fault) (sends_then old mid later one two (Ok tt) sent also) sends)

-- and of which all were handed over before the last
pub four_sent : (old mid later last now : SinkView) (one two three four : List ℕ) (result : Result (Unit {0}) WriteFault) → HasSent old one mid → HasSent mid two later → HasSent later three last → Sends last four result now → Sends old (((one ++ two) ++ three) ++ four) result now
four_sent old mid later last now one two three four result a b c sends =
    sends_then old last now ((one ++ two) ++ three) four result (sends_then old later last (one ++ two) three (Ok tt) (sends_then old mid later one two (Ok tt) a b) c) sends
