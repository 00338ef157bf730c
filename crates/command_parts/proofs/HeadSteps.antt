-- The head of a command that is not read refuses the command.
use Rattle.std.proofs.Common.{◌≡◌, ℕ, List, false, Err, refl}
use Rattle.command_head.specs.Breaks.{HasHead}
use Rattle.command_head.specs.declared.fault.HeadFault.{HeadFault}
use Rattle.command_head.specs.declared.fault.HeadFault.TheVariants as heads
use Rattle.command_parts.specs.Checks.{Pure, Fails}
use Rattle.command_parts.specs.HeadAnswers.{HeadAnswers, fault_of_head}
use Rattle.command_parts.proofs.StoreFaults.{is_store_fault}

pub head_unread : {X H : Type 0} (grammar : List (List ℕ) → H → Type 0) (view : X → H) (text : List ℕ) (fault : HeadFault) → HasHead grammar view text (Err fault) → Fails (Pure (HeadAnswers grammar text)) (fault_of_head fault)
head_unread grammar view text (heads.Syntax at) breaks = (heads.Syntax at, refl, breaks)
head_unread grammar view text (heads.Number at) breaks = (heads.Number at, refl, breaks)
head_unread grammar view text heads.Memory breaks = tt

-- it is none of the store
pub own_head : (fault : HeadFault) → is_store_fault (fault_of_head fault) ≡ false
own_head (heads.Syntax at) = refl
own_head (heads.Number at) = refl
own_head heads.Memory = refl
