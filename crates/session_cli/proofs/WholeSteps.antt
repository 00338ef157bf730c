-- What a status says where the words are refused, and the run of a session.
use Rattle.std.proofs.Common.{◌≡◌, ◌⊎◌, ℕ, Bool, Option, None, Some, Result, Ok, Err, inl, inr, sym, subst}
use Rattle.wal_outside.specs.Views.{SourceView, SinkView, StoreView}
use Rattle.wal_outside.specs.declared.sink.WriteFault.{WriteFault}
use Rattle.wal_outside.specs.declared.sink.WriteFault.TheVariants as writes
use Rattle.script_runs.specs.declared.status.Status.{Status}
use Rattle.script_runs.specs.declared.status.Status.TheVariants as status
use Rattle.script_runs.specs.Ends.{HasRun}
use Rattle.session_cli.specs.SessionLanguage.{session_language}
use Rattle.session_cli.specs.Views.{SessionView}
use Rattle.session_cli.specs.Made.{HasMade}
use Rattle.session_cli.specs.Whole.{usage_status, HasServed}

pub usage_or_memory : (sent : Result (Unit {0}) WriteFault) (state : Status) → state ≡ usage_status sent → (state ≡ status.Usage) ⊎ (state ≡ status.Memory)
usage_or_memory (Ok done) state is = inl is
usage_or_memory (Err writes.Failed) state is = inl is
usage_or_memory (Err writes.Memory) state is = inr is

-- the run of a session with this limit is one at that limit
pub run_of : (limit : ℕ) (stop : Bool) (session : SessionView) (from to : SourceView) (old new : StoreView) (held now : SinkView) (state : Status) → session ≡ record { limit = limit }
    → HasRun (session_language session.limit stop) from to old new held now state → HasRun (session_language limit stop) from to old new held now state
run_of limit stop session from to old new held now state is run = subst (λ (s : SessionView). HasRun (session_language s.limit stop) from to old new held now state) is run

-- it is what a call runs where there is no seed
pub served_run : (limit : ℕ) (stop : Bool) (seed : Option ℕ) (session : SessionView) (from to : SourceView) (old new : StoreView) (held now : SinkView) (state : Status) → session ≡ record { limit = limit } → seed ≡ None
    → HasRun (session_language session.limit stop) from to old new held now state → HasServed limit stop seed from to old new held now state
served_run limit stop seed session from to old new held now state is none run =
    subst (λ (s : Option ℕ). HasServed limit stop s from to old new held now state) (sym none) (run_of limit stop session from to old new held now state is run)

-- and where there is one, the generated script is run
pub served_made : (limit : ℕ) (stop : Bool) (seed : Option ℕ) (session : SessionView) (from to : SourceView) (old new : StoreView) (held now : SinkView) (state : Status) → session ≡ record { limit = limit } → (number : ℕ) → seed ≡ Some number → to ≡ from
    → HasMade (session_language session.limit stop) number old new held now state → HasServed limit stop seed from to old new held now state
served_made limit stop seed session from to old new held now state is number some stays made =
    subst (λ (s : Option ℕ). HasServed limit stop s from to old new held now state) (sym some) (stays, subst (λ (s : SessionView). HasMade (session_language s.limit stop) number old new held now state) is made)
