-- What a run does after an item, and after a file.
use Rattle.std.specs.Prelude.{◌≡◌, ℕ, true, false, if◌then◌else◌, List, ⊤}
use Rattle.wal_outside.specs.Sending.{HasSent}
use Rattle.wal_outside.specs.Views.{SinkView}
use Rattle.script_cut.specs.Cuts.{Rest, start, IsAtEnd}
use Rattle.script_runs.specs.declared.flow.Flow.{Flow}
use Rattle.script_runs.specs.declared.flow.Flow.TheVariants as flows
use Rattle.script_runs.specs.Languages.{CommandLanguage, Reply}
use Rattle.script_runs.specs.Replies.{State, Answered}
use Rattle.script_runs.specs.Turns.{Turns, no_more, is_cut_off, goes_on, IsDue}
use Rattle.script_runs.specs.Runs.{by_load, Run}
use Rattle.script_runs.specs.Printed.{printed}
use Rattle.script_runs.specs.Ends.{PrintsPart}

-- all lines were printed, or a part of the last one where the sink stopped
abbrev pub Prints : {F : Type 0} (l : CommandLanguage F) → SinkView → List (Answered l) → Flow → SinkView → Type 0
Prints l held answered flows.GoesOn now = HasSent held (printed l answered) now
Prints l held answered flows.Ends now = HasSent held (printed l answered) now
Prints l held answered (flows.Stopped fault) now = PrintsPart l held answered fault now
Prints l held answered flows.WantsMemory now = HasSent held (printed l answered) now

-- after an item a run goes on, or ends where it has to; or is ended by the sink, or because memory ran out in what the item loaded
abbrev pub ItemEndsBy : {F : Type 0} (l : CommandLanguage F) → Reply l → Turns l → Flow → Type 0
ItemEndsBy l reply inside flows.GoesOn = (goes_on l reply inside ≡ true) × IsDue l inside
ItemEndsBy l reply inside flows.Ends = (goes_on l reply inside ≡ false) × IsDue l inside
ItemEndsBy l reply inside (flows.Stopped fault) = ⊤
ItemEndsBy l reply inside flows.WantsMemory = is_cut_off l inside ≡ true

-- after a text a run goes on where that was not cut off
abbrev pub TextEndsBy : {F : Type 0} (l : CommandLanguage F) → Turns l → Flow → Type 0
TextEndsBy l turns flows.GoesOn = (is_cut_off l turns ≡ false) × IsDue l turns
TextEndsBy l turns flows.Ends = (is_cut_off l turns ≡ true) × IsDue l turns
TextEndsBy l turns (flows.Stopped fault) = is_cut_off l turns ≡ true
TextEndsBy l turns flows.WantsMemory = is_cut_off l turns ≡ true

-- after a command that is refused
abbrev pub flow_after : {F : Type 0} → CommandLanguage F → F → Flow
flow_after l fault = if l.ends_run fault then flows.Ends else flows.GoesOn

-- what came of a text that a command loaded, or nothing
abbrev pub Loaded : {F : Type 0} (l : CommandLanguage F) → ℕ → Reply l → State l → Turns l → State l → Type 0
Loaded l depth reply here inside later = by_load l reply
    (λ loaded. (end : Rest) × Run l depth (start loaded) here inside end later × (is_cut_off l inside ≡ false → IsAtEnd end))
    ((inside ≡ no_more) × (later ≡ here))
