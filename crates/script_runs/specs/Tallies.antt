-- What is counted of the replies.
use Rattle.std.specs.Prelude.{◌≡◌, ℕ, ◌+◌, ◌^◌, ◌<◌, Bool, true, false, not, ◌||◌, if◌then◌else◌, List, [], length, bytes_eq, count_by, Result, Ok, Err}
use Rattle.wal_outside.specs.Causes.{one_more}
use Rattle.script_runs.specs.declared.deed.Deed.{Deed}
use Rattle.script_runs.specs.declared.deed.Deed.TheVariants as deeds
use Rattle.script_runs.specs.declared.counts.Counts.{Counts as Numbers}
use Rattle.script_runs.specs.declared.tally.Tally.{Tally}
use Rattle.script_runs.specs.declared.status.Status.{Status}
use Rattle.script_runs.specs.Languages.{CommandLanguage, is_store_fault}
use Rattle.script_runs.specs.Replies.{Answered, is_refusal, is_by_store, is_by_memory}
use Rattle.script_runs.specs.Printed.{some_of, status_by}
use Rattle.script_runs.specs.Counted.{true_line, false_line, is_refused, prints_only, prints_other, no_counts}

-- nothing was counted yet
abbrev pub nothing : Tally
nothing = record { refused = false; store = false; memory = false; counts = no_counts }

-- one refusal more
pub record AddsFault {F : Type 0} (l : CommandLanguage F) (old : Tally) (fault : F) (new : Tally) : Type 0 where
  pub refused : new.refused ≡ true
  pub store : new.store ≡ (old.store || is_store_fault l fault)
  pub memory : new.memory ≡ (old.memory || l.is_memory fault)

-- no refusal more
pub record AddsNoFault (old new : Tally) : Type 0 where
  pub refused : new.refused ≡ old.refused
  pub store : new.store ≡ old.store
  pub memory : new.memory ≡ old.memory

abbrev pub AddsKind : {F : Type 0} (l : CommandLanguage F) → Tally → Result Deed F → Tally → Type 0
AddsKind l old (Ok deed) new = AddsNoFault old new
AddsKind l old (Err fault) new = AddsFault l old fault new

-- what is handed over of an accepted command
abbrev pub handed : Deed → List ℕ
handed (deeds.Enters printed) = printed.items
handed (deeds.Loads text) = []
handed deeds.Ends = []

-- whether a command is accepted, and this is all that is handed over of it
abbrev pub hands_only : {F : Type 0} → List ℕ → Result Deed F → Bool
hands_only line (Ok deed) = bytes_eq (handed deed) line
hands_only line (Err fault) = false

abbrev pub refuses : {F : Type 0} → Result Deed F → Bool
refuses (Ok deed) = false
refuses (Err fault) = true

-- one more where something holds, up to the last value of 64 bits
abbrev pub one_more_if : Bool → ℕ → ℕ
one_more_if holds count = if holds then one_more count else count

-- one result more of its kind
pub record AddsCount {F : Type 0} (old : Numbers) (result : Result Deed F) (new : Numbers) : Type 0 where
  pub commands : new.commands ≡ one_more old.commands
  pub yes : new.yes ≡ one_more_if (hands_only true_line result) old.yes
  pub no : new.no ≡ one_more_if (hands_only false_line result) old.no
  pub other : new.other ≡ one_more_if (not (refuses result || (hands_only true_line result || hands_only false_line result))) old.other
  pub refused : new.refused ≡ one_more_if (refuses result) old.refused

-- one result more
pub record AddsResult {F : Type 0} (l : CommandLanguage F) (old : Tally) (result : Result Deed F) (new : Tally) : Type 0 where
  pub kind : AddsKind l old result new
  pub count : AddsCount old.counts result new.counts

-- so many more, while that is a number of 64 bits
abbrev pub Adds : ℕ → ℕ → ℕ → Type 0
Adds old more new = old + more < 2 ^ 64 → new ≡ old + more

-- more items are counted too
pub record AddsCounts {F : Type 0} (l : CommandLanguage F) (old : Numbers) (answered : List (Answered l)) (new : Numbers) : Type 0 where
  pub commands : Adds old.commands (length answered) new.commands
  pub yes : Adds old.yes (count_by (prints_only l true_line) answered) new.yes
  pub no : Adds old.no (count_by (prints_only l false_line) answered) new.no
  pub other : Adds old.other (count_by (prints_other l) answered) new.other
  pub refused : Adds old.refused (count_by (is_refused l) answered) new.refused

-- the kinds of refusals among more replies are counted too
pub record Counts {F : Type 0} (l : CommandLanguage F) (old : Tally) (answered : List (Answered l)) (new : Tally) : Type 0 where
  pub refused : new.refused ≡ (old.refused || some_of l (is_refusal l) answered)
  pub store : new.store ≡ (old.store || some_of l (is_by_store l) answered)
  pub memory : new.memory ≡ (old.memory || some_of l (is_by_memory l) answered)
  pub counts : AddsCounts l old.counts answered new.counts

abbrev pub tally_status : Tally → Status
tally_status tally = status_by tally.refused tally.store tally.memory
