-- How systems are kept, and admitted again.
use Rattle.std.proofs.Common.{◌≡◌, ℕ, zero, suc, ◌<◌, List, [], ◌∷◌, length, drop, get_or, sym, subst, arith}
use Rattle.std.specs.List.{AllByRecursion}
use Rattle.digit_tuple.specs.Steps.{StepLog, with_lines}
use Rattle.num_system.specs.Sealed.{SystemValue}
use Rattle.system_admission.specs.KeptSystems.{Pair, KeptSystem, AdmitsPair, CanBeKept, IsRight}
use Rattle.system_admission.specs.KeptViews.{kept_system, kept_systems}
use Rattle.system_admission.specs.declared.kept.Entry.{Entry}

-- files are the same where their names and texts are
pub same_pair : (a b : Pair) → a.direction ≡ b.direction → a.name ≡ b.name → a.language ≡ b.language → a.adder ≡ b.adder → a ≡ b
same_pair a b direction name language adder = λ i. record { direction = direction i; name = name i; language = language i; adder = adder i }

-- what is kept is right if the same may be kept
pub right_kept : (k : KeptSystem) (pair : Pair) (first : ℕ) (log : StepLog) (s : SystemValue) → k.pair ≡ pair → k.limit ≡ log.limit → k.lines ≡ drop first log.lines → k.system ≡ s → CanBeKept pair first log s → IsRight k
right_kept k pair first log s pairs limit lines system can =
    let same : record { pair = pair; limit = log.limit; lines = drop first log.lines; system = s } ≡ k = λ i. record { pair = sym pairs i; limit = sym limit i; lines = sym lines i; system = sym system i } in
    subst IsRight same can

-- each that is kept is right
pub right_at : (entries : List Entry) (i : ℕ) (e : Entry) → AllByRecursion IsRight (kept_systems entries) → i < length entries → e ≡ get_or entries i e → IsRight (kept_system e)
right_at [] i e all within at = absurd (omega (arith, within))
right_at (x ∷ entries) zero e all within at = subst (λ (y : Entry). IsRight (kept_system y)) (sym at) all.0
right_at (x ∷ entries) (suc i) e all within at = right_at entries i e all.1 (omega (arith, within)) at

-- what is right admits the same files again
pub admits_again : (k : KeptSystem) (pair : Pair) (old new : StepLog) (s : SystemValue) → IsRight k → k.pair ≡ pair → old.limit ≡ k.limit → new ≡ with_lines old k.lines → s ≡ k.system → AdmitsPair pair old new s
admits_again k pair old new s right pairs limit steps system = rw (sym pairs, steps, system) (right.admits old limit)
