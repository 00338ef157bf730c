-- Checks that refuse by faults of their own have one answer where these do.
use Rattle.std.specs.Prelude.{⊤}
use Rattle.std.proofs.Common.{◌≡◌, ◌≢◌, Result, Ok, Err, sym, ap, ◌∙◌}
use Rattle.command_parts.specs.declared.refusal.Refusal.{Refusal}
use Rattle.command_parts.specs.declared.fault.Fault.{Fault}
use Rattle.command_parts.specs.declared.fault.Fault.TheVariants as faults
use Rattle.command_parts.specs.RefusingChecks.{Refusing}
use Rattle.command_parts.specs.Checks.{IsSingle}

-- what refuses a command is not that memory ran out
pub no_memory : {E : Type 0} (as_fault : E → Fault) (memory : E) → as_fault memory ≡ faults.Memory → (own : E) (refusal : Refusal) → as_fault own ≡ faults.Refused refusal → own ≢ memory
no_memory as_fault memory memory_is own refusal is same = let no : faults.Refused refusal ≡ faults.Memory = sym is ∙ (ap as_fault same ∙ memory_is) in cc

module _ {Y E : Type 0} (as_fault : E → Fault) (answers : Result Y E → Type 0) where
  -- an answer that does not come from outside
  abbrev IsInside : Result Y E → Type 0
  IsInside (Ok y) = ⊤
  IsInside (Err own) = (refusal : Refusal) × (as_fault own ≡ faults.Refused refusal)

  module _ (one : (r s : Result Y E) → answers r → answers s → IsInside r → IsInside s → r ≡ s) where
    same_value : (y z : Y) → answers (Ok y) → answers (Ok z) → y ≡ z
    same_value y z a b = let same : Ok y ≡ Ok z = one (Ok y) (Ok z) a b tt tt in cc

    not_both : (y : Y) (e : E) (refusal : Refusal) → as_fault e ≡ faults.Refused refusal → answers (Ok y) → answers (Err e) → ⊥
    not_both y e refusal is a b = let same : Ok y ≡ Err e = one (Ok y) (Err e) a b tt (refusal, is) in cc

    same_own : (d e : E) (f g : Refusal) → as_fault d ≡ faults.Refused f → as_fault e ≡ faults.Refused g → answers (Err d) → answers (Err e) → d ≡ e
    same_own d e f g is also a b = let same : Err d ≡ Err e = one (Err d) (Err e) a b (f, is) (g, also) in cc

    same_refusal : (d e : E) (f g : Refusal) → as_fault d ≡ faults.Refused f → as_fault e ≡ faults.Refused g → answers (Err d) → answers (Err e) → f ≡ g
    same_refusal d e f g is also a b = let both : faults.Refused f ≡ faults.Refused g = sym is ∙ (ap as_fault (same_own d e f g is also a b) ∙ also) in cc

    inside_single : IsSingle (Refusing as_fault answers)
    inside_single (Ok y) (Ok z) a b = ap (λ (x : Y). let r : Result Y Refusal = Ok x in r) (same_value y z a b)
    inside_single (Ok y) (Err g) a (e, is, b) = absurd (not_both y e g is a b)
    inside_single (Err f) (Ok z) (e, is, a) b = absurd (not_both z e f is b a)
    inside_single (Err f) (Err g) (d, is, a) (e, also, b) = ap (λ (x : Refusal). let r : Result Y Refusal = Err x in r) (same_refusal d e f g is also a b)

  pub refusing_single : ((r s : Result Y E) → answers r → answers s → r ≡ s) → IsSingle (Refusing as_fault answers)
  refusing_single one = inside_single (λ r s a b inside other. one r s a b)

  -- they have one answer where memory does not run out
  module _ (memory : E) (memory_is : as_fault memory ≡ faults.Memory) where
    own_error : (own : E) → (let r : Result Y E = Err own in r ≡ Err memory) → own ≡ memory
    own_error own same = cc

    not_out : (r : Result Y E) → IsInside r → r ≢ Err memory
    not_out (Ok y) inside same = cc
    not_out (Err own) inside same = no_memory as_fault memory memory_is own inside.0 inside.1 (own_error own same)

    pub refusing_one : ((r s : Result Y E) → answers r → answers s → r ≢ Err memory → s ≢ Err memory → r ≡ s) → IsSingle (Refusing as_fault answers)
    refusing_one one = inside_single (λ r s a b inside other. one r s a b (not_out r inside) (not_out s other))
