-- States with other flags.
use Rattle.std.proofs.Common.{ℕ, Bool, List, length, slice_index_or, sym, ap, subst, arith}
use Rattle.std.proofs.lemmas.List.{get_or_default}
use Rattle.digit_tuple.specs.Deterministic.{State, IsRow, IsTable, no_state}
use Rattle.digit_tuple.specs.Reflagged.{AreReflagged}

-- states with other flags are those of a table where the old ones are
pub IsTable-reflagged : (letters : ℕ) (flags : List Bool) (old new : List State) → AreReflagged flags old new → IsTable letters old → IsTable letters new
IsTable-reflagged letters flags old new re table = record {
  initial = omega (arith, re.count, table.initial);
  part = record {
    small = omega (arith, re.count, table.part.small);
    rows = λ q state inside.
        subst (IsRow letters (length new)) (sym (ap (λ (s : State). s.transitions) (get_or_default new q state no_state inside)))
        (subst (λ n. IsRow letters n (slice_index_or new q no_state).transitions) (sym re.count)
        (subst (IsRow letters (length old)) (sym (re.transitions q)) (table.part.rows q no_state (omega (arith, re.count, inside)))));
  };
}
