-- Results of which two facts hold.
use Rattle.std.proofs.Common.{Result, IfOk, Ok, Err}

pub IfOk-both : {X E : Type 0} (r : Result X E) (P Q : X → Type 0) → IfOk r P → IfOk r Q → IfOk r (λ x. P x × Q x)
IfOk-both (Ok x) P Q one two = (one, two)
IfOk-both (Err e) P Q one two = tt
