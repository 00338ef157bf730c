-- An automaton that is kept as flags and rows.
use Rattle.std.proofs.Common.{◌≡◌, ℕ, suc, ◌*◌, ◌<◌, ◌≤◌, ◌^◌, Bool, false, List, [], ◌∷◌, length, get_or, sym, ap, ◌∙◌, subst, arith}
use Rattle.std.specs.List.{All, AllPairs, sum_by}
use Rattle.std.proofs.lemmas.List.{get_or_default}
use Rattle.std.proofs.lemmas.List.Sums.{sum_by-cons}
use Rattle.std.proofs.lemmas.Nat.{mul-le}
use Rattle.digit_tuple.specs.CellCounts.{cells_of}
use Rattle.digit_tuple.specs.Deterministic.{Automaton, IsTable, IsRow, IsByEarlier, no_state, transitions_of, accepting_of, states_of, letters_of}
use Rattle.digit_tuple.specs.DfaRows.{flagged}
use Rattle.digit_tuple.specs.TransitionCounts.{transition_count, cell_count}
use Rattle.digit_tuple.specs.Letters.{product}
use Rattle.digit_tuple.specs.SparseRows.{Rows, row_at}
use Rattle.digit_tuple.specs.declared.transitions.Transition.{Transition}
use Rattle.digit_tuple.proofs.FlaggedLemmas.{length-flagged, flagged-transitions, flagged-accepting, transitions-flagged, cells-flagged}
use Rattle.digit_tuple.proofs.RowLemmas.{IsFrom-row, IsFrom-few}

-- no more transitions than letters
IsRow-few : (letters states : ℕ) (es : List Transition) → IsRow letters states es → length es ≤ letters
IsRow-few letters states es row =
    let few = IsFrom-few letters 0 es (omega arith) (IsFrom-row letters 0 es (λ k d within. (row.in_range k d within).0) row.ascending (λ k d within. omega arith)) in
    omega (arith, few)

-- the sum of numbers that are at most one number
sum_by-few : (rows : List (List Transition)) (n : ℕ) → All (λ row. length row ≤ n) rows → sum_by length rows ≤ length rows * n
sum_by-few [] n all = omega arith
sum_by-few (row ∷ rows) n all =
    let rest = sum_by-few rows n (λ k d within. all (suc k) d (omega arith)) in
    let one = all 0 row (omega arith) in
    omega (arith, rest, one, sum_by-cons length row rows)

module _ (flags : List Bool) (table : Rows) (d : Automaton) (same : length flags ≡ length table.rows) (is : (let kept : Automaton = record { sizes = table.sizes; states = flagged flags table.rows } in kept) ≡ d) where
  pub kept-count : length table.rows ≡ states_of d
  kept-count = sym (length-flagged flags table.rows same) ∙ ap states_of is

  pub kept-transitions : (q : ℕ) → row_at table q ≡ transitions_of d q
  kept-transitions q = sym (flagged-transitions flags table.rows q same) ∙ ap (λ (a : Automaton). transitions_of a q) is

  pub kept-accepting : (q : ℕ) → get_or flags q false ≡ accepting_of d q
  kept-accepting q = sym (flagged-accepting flags table.rows q same) ∙ ap (λ (a : Automaton). accepting_of a q) is

  pub kept-transition_count : sum_by length table.rows ≡ transition_count d
  kept-transition_count = sym (transitions-flagged flags table.rows same) ∙ ap transition_count is

  pub kept-cell_count : sum_by (cells_of table.sizes) table.rows ≡ cell_count d
  kept-cell_count = sym (cells-flagged table.sizes flags table.rows same) ∙ ap cell_count is

  module _ (whole : IsTable (product table.sizes) (flagged flags table.rows)) where
    kept-whole : IsTable (letters_of d) d.states
    kept-whole = subst (λ (a : Automaton). IsTable (letters_of a) a.states) is whole

    pub kept-small : length table.rows < 2 ^ 32
    kept-small = omega (arith, kept-count, kept-whole.part.small)

    -- a row of it
    pub kept-row : (q : ℕ) → q < states_of d → IsRow (letters_of d) (states_of d) (transitions_of d q)
    kept-row q within = kept-whole.part.rows q no_state within

    pub kept-ascending : (q : ℕ) → q < states_of d → AllPairs IsByEarlier (row_at table q)
    kept-ascending q within = subst (AllPairs IsByEarlier) (sym (kept-transitions q)) (kept-row q within).ascending

    kept-rows_few : All (λ row. length row ≤ letters_of d) table.rows
    kept-rows_few k e within =
        let few = IsRow-few (letters_of d) (states_of d) (transitions_of d k) (kept-row k (omega (arith, within, kept-count))) in
        omega (arith, few, ap length (get_or_default table.rows k e [] within), ap length (kept-transitions k))

    -- fewer transitions than 64 bits count, even on each of sixteen tracks
    pub kept-few : letters_of d ≤ 65536 → sum_by length table.rows < 2 ^ 60
    kept-few small =
        let few = sum_by-few table.rows (letters_of d) kept-rows_few in
        let bound = mul-le (length table.rows) (letters_of d) 4294967296 65536 (omega (arith, kept-small)) small in
        omega (arith, few, bound)
