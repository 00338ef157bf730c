-- What reading gives: a value, or the first fault and the byte where it is.
use Rattle.std.specs.Prelude.{◌≡◌, ℕ, Result, Ok, Err, ⊤}
use Rattle.command_head.specs.declared.fault.HeadFault.{HeadFault}
use Rattle.command_head.specs.declared.fault.HeadFault.TheVariants.{Syntax, Number, Memory}

-- Why a part is refused: no form goes on with it, or it is a number that does not fit 32 bits, signed.
pub data Refusal : Type 0 where
  Form : Refusal
  Range : Refusal

-- a part that is refused, determined by the byte where it begins
abbrev pub fault_at : ℕ → Refusal → HeadFault
fault_at at Form = Syntax at
fault_at at Range = Number at

abbrev pub placed : {A : Type 0} → ℕ → Result A Refusal → Result A HeadFault
placed at (Ok x) = Ok x
placed at (Err refusal) = Err (fault_at at refusal)

-- The fault that a function answered is the one that is read, its byte as well. Memory may run out at any time.
abbrev pub Fails : {Y : Type 0} → HeadFault → Result Y HeadFault → Type 0
Fails (Syntax at) read = read ≡ Err (Syntax at)
Fails (Number at) read = read ≡ Err (Number at)
Fails Memory read = ⊤

-- What a function returned, seen by view, is what is read.
abbrev pub Reads : {X Y : Type 0} → (X → Y) → Result X HeadFault → Result Y HeadFault → Type 0
Reads view (Ok x) read = read ≡ Ok (view x)
Reads view (Err fault) read = Fails fault read
