-- The steps of a multiple, one after another.
use Rattle.std.proofs.Common.{◌≢◌, ℕ, zero, suc, ◌<◌, IfOk, List, [], ◌∷◌, Result, Ok, Err, inl, inr, sym, subst, arith}
use Rattle.digit_tuple.specs.Names.{AreDistinct}
use Rattle.digit_tuple.specs.StepResults.{Then}
use Rattle.digit_tuple.specs.Steps.{StepLog}
use Rattle.digit_tuple.specs.declared.step_fault.StepFault.{StepFault}
use Rattle.num_system.specs.Sealed.{SystemValue, IsSealed}
use Rattle.number_relations.specs.Relations.{RelationValue}
use Rattle.number_relations.specs.Multiples.{addend, DoesGrown, DoesGrowth, DoesMultiple, factors, IsMultiple, lesser_factor}
use Rattle.number_relations.proofs.MultipleLemmas.{factors_above, lesser_step, steps_above, steps_multiple}

-- a multiple is the lesser one, and its growth
pub multiple_grows : (system : SystemValue) (c : ℕ) (x y w : List ℕ) (old new : StepLog) (result : Result RelationValue StepFault) → 2 < c
    → Then (DoesMultiple system (lesser_factor c) x w y) (DoesGrowth system (addend c x w) y w) old result new → DoesMultiple system c x y w old result new
multiple_grows system c x y w old new result above does =
    (steps_above system c x y w old new result (omega (arith, above))).1 (subst (λ (cs : List ℕ). DoesGrown system cs x y w old result new) (sym (factors_above c above)) (grown does))
  where
    grown : Then (DoesMultiple system (lesser_factor c) x w y) (DoesGrowth system (addend c x w) y w) old result new
        → Then (DoesGrown system (factors (lesser_factor c)) x w y) (DoesGrowth system (addend c x w) y w) old result new
    grown (inl (lesser, mid, first, second)) = inl (lesser, mid, (steps_above system (lesser_factor c) x w y old mid (Ok lesser) (lesser_step c x w above).1).0 first, second)
    grown (inr (fault, first, is)) = inr (fault, (steps_above system (lesser_factor c) x w y old new (Err fault) (lesser_step c x w above).1).0 first, is)

-- what was made is the multiple
pub multiple_made : (system : SystemValue) (c : ℕ) (x y w : List ℕ) (old new : StepLog) (result : Result RelationValue StepFault) → IsSealed system → AreDistinct (x ∷ y ∷ w ∷ [])
    → DoesMultiple system c x y w old result new → IfOk result (IsMultiple system c x y)
multiple_made system c x y w old new (Ok r) sealed distinct does = steps_multiple system c x y w old new r sealed distinct does
multiple_made system c x y w old new (Err fault) sealed distinct does = tt

-- the names of the lesser multiple are different too
three_distinct : (x y w : List ℕ) → x ≢ y → x ≢ w → y ≢ w → AreDistinct (x ∷ y ∷ w ∷ [])
three_distinct x y w first second third zero zero d before within = absurd (omega (arith, before))
three_distinct x y w first second third zero (suc zero) d before within = first
three_distinct x y w first second third zero (suc (suc zero)) d before within = second
three_distinct x y w first second third zero (suc (suc (suc j))) d before within = absurd (omega (arith, within))
three_distinct x y w first second third (suc zero) zero d before within = absurd (omega (arith, before))
three_distinct x y w first second third (suc zero) (suc zero) d before within = absurd (omega (arith, before))
three_distinct x y w first second third (suc zero) (suc (suc zero)) d before within = third
three_distinct x y w first second third (suc zero) (suc (suc (suc j))) d before within = absurd (omega (arith, within))
three_distinct x y w first second third (suc (suc i)) j d before within = absurd (omega (arith, before, within))

pub distinct_exchanged : (x y w : List ℕ) → AreDistinct (x ∷ y ∷ w ∷ []) → AreDistinct (x ∷ w ∷ y ∷ [])
distinct_exchanged x y w distinct =
    three_distinct x w y (distinct 0 2 [] (omega arith) (omega arith)) (distinct 0 1 [] (omega arith) (omega arith)) (λ same. distinct 1 2 [] (omega arith) (omega arith) (sym same))
