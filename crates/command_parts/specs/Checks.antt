-- Checks of a command, one after another: the first that refuses decides.
use Rattle.std.specs.Prelude.{◌≡◌, ◌⊎◌, Result, Ok, Err, MatchResult, ⊤}
use Rattle.wal_outside.specs.Places.{Place}
use Rattle.command_parts.specs.declared.refusal.Refusal.{Refusal}
use Rattle.command_parts.specs.declared.fault.Fault.{Fault}
use Rattle.command_parts.specs.declared.fault.Fault.TheVariants as faults

-- a check: what it may answer, and which files it reads before it answers
pub record Check (Y : Type 0) : Type 1 where
  pub answers : Result Y Refusal → Type 0
  pub reads : Place → Type 0

-- a check that reads no file
abbrev pub Pure : {Y : Type 0} → (Result Y Refusal → Type 0) → Check Y
Pure answers = record { answers = answers; reads = λ place. ⊥ }

-- a check that refuses nothing
abbrev pub Passing : {Y : Type 0} → (Y → Type 0) → Check Y
Passing Is = Pure (λ result. MatchResult result Is (λ refusal. ⊥))

-- one check after another: the first refuses, or the next goes on with what it gave
abbrev pub Then : {Y Z : Type 0} → Check Y → (Y → Check Z) → Check Z
Then {Y} first rest = record {
  answers = λ r. elim r [
    | Err refusal ↦ first.answers (Err refusal) ⊎ ((y : Y) × first.answers (Ok y) × (rest y).answers (Err refusal))
    | Ok z ↦ (y : Y) × first.answers (Ok y) × (rest y).answers (Ok z)
  ];
  reads = λ place. first.reads place ⊎ ((y : Y) × first.answers (Ok y) × (rest y).reads place);
}

-- Why a command may be refused: by the answer of its checks; or by the store, at a file that they read; or because memory ran out.
abbrev pub Fails : {Y : Type 0} → Check Y → Fault → Type 0
Fails check (faults.Refused refusal) = check.answers (Err refusal)
Fails check (faults.Store folder name) = check.reads (folder, name)
Fails check faults.Memory = ⊤

-- a check answers in one way at most
abbrev pub IsSingle : {Y : Type 0} → Check Y → Type 0
IsSingle {Y} c = (r s : Result Y Refusal) → c.answers r → c.answers s → r ≡ s
