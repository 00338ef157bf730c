-- The head of a command is read in one way.
use Rattle.std.proofs.Common.{ℕ, List, Result, Ok, Err, refl}
use Rattle.command_head.specs.declared.fault.HeadFault.TheVariants as head_faults
use Rattle.command_head.specs.Breaks.{HasHead, HasOneHead}
use Rattle.command_parts.specs.declared.refusal.Refusal.{Refusal}
use Rattle.command_parts.specs.Checks.{Pure, IsSingle}
use Rattle.command_parts.specs.HeadAnswers.{HeadAnswers, fault_of_head}
use Rattle.command_parts.proofs.CheckSteps.{single_so}
use Rattle.command_parts.proofs.RefusingSteps.{refusing_one}
use Rattle.command_parts.specs.RefusingChecks.{Refusing}

head_is : {H : Type 0} (grammar : List (List ℕ) → H → Type 0) (text : List ℕ) (r : Result H Refusal) → HeadAnswers grammar text r → (Refusing fault_of_head (HasHead grammar (λ (h : H). h) text)).answers r
head_is grammar text (Ok head) a = a
head_is grammar text (Err refusal) a = a

pub head_single : {H : Type 0} (grammar : List (List ℕ) → H → Type 0) → HasOneHead grammar → (text : List ℕ) → IsSingle (Pure (HeadAnswers grammar text))
head_single {H} grammar one text =
    let has = HasHead grammar (λ (h : H). h) text in
    single_so (Pure (HeadAnswers grammar text)) (Refusing fault_of_head has) (head_is grammar text) (refusing_one fault_of_head has head_faults.Memory refl (one text))
