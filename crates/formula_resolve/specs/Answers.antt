-- What an answer reports of a fault.
use Rattle.std.specs.Prelude.{◌≡◌, Option, None, Some, Result, Ok, Err}
use Rattle.formula_resolve.specs.declared.fault.ResolveFault.{ResolveFault}
use Rattle.formula_resolve.specs.declared.fault.ResolveFault.TheVariants as faults

-- an answer that is Ok if and only if there is no fault, and else this fault; memory may run out
abbrev pub Reports : {X : Type 0} → Option ResolveFault → Result X ResolveFault → Type 0
Reports fault (Ok x) = fault ≡ None
Reports fault (Err (faults.Plain n)) = fault ≡ Some (faults.Plain n)
Reports fault (Err (faults.Arity n tracks given)) = fault ≡ Some (faults.Arity n tracks given)
Reports fault (Err (faults.Clash n s t)) = fault ≡ Some (faults.Clash n s t)
Reports fault (Err (faults.Direction s t)) = fault ≡ Some (faults.Direction s t)
Reports fault (Err faults.Memory) = Unit {0}
