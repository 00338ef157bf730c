-- Faults of a call that the exit of a `?` hands on.
use Rattle.std.proofs.Common.{◌≡◌, Result, Ok, Err}
use Rattle.std.specs.Result.{IsErrAnd, IsErrOf}
use Rattle.digit_tuple.specs.declared.faults.OpFault.{OpFault}
use Rattle.digit_tuple.specs.declared.faults.OpFault.TheVariants.{Letters, Memory, States}

-- where memory runs out, it is no other fault
pub no_states : {T : Type 0} (r : Result T OpFault) → IsErrAnd r (λ fault. fault ≡ Memory) → IsErrOf r States → ⊥
no_states (Ok x) out is = out
no_states (Err fault) out is = cc

pub no_letters : {T : Type 0} (r : Result T OpFault) → IsErrAnd r (λ fault. fault ≡ Memory) → IsErrOf r Letters → ⊥
no_letters (Ok x) out is = out
no_letters (Err fault) out is = cc

-- any other is the fault of the call
pub fault_of_call : {T U : Type 0} (r : Result T OpFault) (call : Result U OpFault) (given fault : OpFault) → call ≡ Err given → IsErrAnd r (λ e. e ≡ given) → IsErrOf r fault → IsErrOf call fault
fault_of_call (Ok x) call given fault was out is = absurd out
fault_of_call (Err e) call given fault was out is = cc

-- what is given is no fault
pub no_fault : {T : Type 0} (x : T) (fault : OpFault) → IsErrOf (Ok x) fault → ⊥
no_fault x fault is = cc
