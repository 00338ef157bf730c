use Rattle.std.proofs.Common.{◌≡◌, ◌%◌, [], List, map, get_or, subst, sym, ◌∙◌}
use Rattle.std.specs.List.{AllByRecursion}
use Rattle.std.proofs.lemmas.Bool.{false≢true}
use Rattle.digit_tuple.specs.Decisions.{after_digit, rows_in, LeadsAs}
use Rattle.digit_tuple.specs.SparseRows.{row_at, block_rows}
use Rattle.digit_tuple.specs.declared.transitions.Transition.{Transition}
use Rattle.digit_tuple.proofs.JoinedReads.{map-after_zero}
use Rattle.digit_tuple.proofs.SameRows.{same_rows, leads-itself}
use Rattle.digit_tuple.proofs.sparse_rows.SparseRows.is_same_row.Goals as goal

-- all transitions of the one row lead by the other, with nothing added to their letters
at-zero : (es fs : List Transition) → AllByRecursion (LeadsAs fs) (map (after_digit 0) es) → AllByRecursion (LeadsAs fs) es
at-zero es fs all = subst (AllByRecursion (LeadsAs fs)) (map-after_zero es) all

to-zero : (es fs : List Transition) → AllByRecursion (LeadsAs fs) es → AllByRecursion (LeadsAs fs) (map (after_digit 0) es)
to-zero es fs all = subst (AllByRecursion (LeadsAs fs)) (sym (map-after_zero es)) all

pub returns-then-is_within : goal.returns-then-is_within
returns-then-is_within c =
    let es = get_or (rows_in c.block_of-one.result.now) (c.args.place % block_rows) [] in
    let fs = get_or (rows_in c.block_of-two.result.now) (c.args.at % block_rows) [] in
    let e : es ≡ row_at c.args.self.now c.args.place = c.block_of-one.ensures.row in
    let f : fs ≡ row_at c.args.other.now c.args.at = c.block_of-two.ensures.row in
    let first = at-zero es fs (c.is_within.ensures.0 c.if-is_within.true) in (
      (λ yes. same_rows (row_at c.args.self.now c.args.place) (row_at c.args.other.now c.args.at) c.requires.ascending c.requires.other_ascending
          (subst (λ (gs : List Transition). AllByRecursion (LeadsAs gs) (row_at c.args.self.now c.args.place)) f (subst (AllByRecursion (LeadsAs fs)) e first))
          (subst (λ (gs : List Transition). AllByRecursion (LeadsAs gs) (row_at c.args.other.now c.args.at)) e (subst (AllByRecursion (LeadsAs es)) f (at-zero fs es (c.is_within-then-is_within.ensures.0 yes))))),
      (λ same. c.is_within-then-is_within.ensures.1 (to-zero fs es
          (subst (AllByRecursion (LeadsAs es)) (e ∙ same ∙ sym f) (subst (λ (gs : List Transition). AllByRecursion (LeadsAs gs) gs) (sym e) (leads-itself (row_at c.args.self.now c.args.place) c.requires.ascending))))),
    )

pub returns-else-is_within : goal.returns-else-is_within
returns-else-is_within c =
    let es = get_or (rows_in c.block_of-one.result.now) (c.args.place % block_rows) [] in
    let fs = get_or (rows_in c.block_of-two.result.now) (c.args.at % block_rows) [] in
    let e : es ≡ row_at c.args.self.now c.args.place = c.block_of-one.ensures.row in
    let f : fs ≡ row_at c.args.other.now c.args.at = c.block_of-two.ensures.row in (
      (λ yes. absurd (false≢true (sym c.if-is_within.false ∙ yes))),
      (λ same. c.is_within.ensures.1 (to-zero es fs
          (subst (λ (gs : List Transition). AllByRecursion (LeadsAs gs) es) (e ∙ same ∙ sym f) (subst (λ (gs : List Transition). AllByRecursion (LeadsAs gs) gs) (sym e) (leads-itself (row_at c.args.self.now c.args.place) c.requires.ascending))))),
    )
