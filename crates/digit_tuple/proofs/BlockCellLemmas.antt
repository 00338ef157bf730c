-- The cells of rows that are decided by whole letters.
use Rattle.std.proofs.Common.{◌≡◌, ℕ, ◌+◌, ◌*◌, ◌<◌, ◌≤◌, ◌-◌, List, [], ◌∷◌, map, take, length, get_or, refl, sym, ap, ◌∙◌, subst, arith}
use Rattle.std.specs.List.{sum_by, flat_map, All, AllPairs}
use Rattle.std.proofs.lemmas.List.{get_or-map, length-map}
use Rattle.std.proofs.lemmas.Nat.{mul-le}
use Rattle.std.proofs.lemmas.List.Sums.{sum_by-append, sum_by-cons, sum_by_more, sum_by_more_le}
use Rattle.digit_tuple.specs.CellCounts.{cells_of}
use Rattle.digit_tuple.specs.Decisions.{rows_in, sizes_in, letters_in}
use Rattle.digit_tuple.specs.Letters.{product}
use Rattle.digit_tuple.specs.Reversed.{transition_to}
use Rattle.digit_tuple.specs.SparseRows.{AreOver}
use Rattle.digit_tuple.specs.declared.transitions.Transition.{Transition}
use Rattle.digit_tuple.specs.declared.decisions.Decisions.{Decisions}
use Rattle.digit_tuple.proofs.AscendingRows.{ascending-row}
use Rattle.digit_tuple.proofs.DecisionReads.{letters-below}
use Rattle.digit_tuple.proofs.JoinedReads.{AreBelow, all_at}
use Rattle.digit_tuple.proofs.LetterCellLemmas.{few-cells_of, cells_of-from_zero}
use Rattle.digit_tuple.proofs.SparseRowLemmas.{decide-product}

-- rows take at most a cell for each transition on each track
pub few-cells : (sizes : List ℕ) (rows : List (List Transition)) → sum_by (cells_of sizes) rows ≤ length sizes * sum_by length rows
few-cells sizes [] = omega arith
few-cells sizes (row ∷ rows) =
    omega (arith, few-cells_of sizes row, few-cells sizes rows, sum_by-cons (cells_of sizes) row rows, ap (λ n. length sizes * n) (sum_by-cons length row rows))

-- the letters of a row, as those of the transitions of rows are in lists
pub record AreRowLetters (sizes : List ℕ) (rows : List (List Transition)) (place : ℕ) (letters : List ℕ) : Type 0 where
  pub within : place < length rows
  pub same : letters ≡ letters_in (get_or rows place [])
  pub in_range : All (λ letter. (0 ≤ letter) × (letter < 0 + product sizes)) letters
  pub ascending : AllPairs (λ l m. l < m) letters

letter-at : (row : List Transition) (k d : ℕ) → k < length row → (z : Transition) → get_or (letters_in row) k d ≡ (get_or row k z).letter
letter-at row k d within z = get_or-map (λ (transition : Transition). transition.letter) row k z d within

length-letters : (row : List Transition) → length (letters_in row) ≡ length row
length-letters [] = omega arith
length-letters (e ∷ row) = omega (arith, length-letters row)

pub AreRowLetters-at : (sizes : List ℕ) (rows : Decisions) (place : ℕ) (lists : List (List ℕ)) → AreOver sizes rows → lists ≡ map letters_in (rows_in rows) → place < length lists
    → AreRowLetters sizes (rows_in rows) place (get_or lists place [])
AreRowLetters-at sizes rows place lists over same there_is = record {
  within = within;
  same = read;
  in_range = subst (All (λ letter. (0 ≤ letter) × (letter < 0 + product sizes))) (sym read)
      (λ k d inside. let there : k < length row = omega (arith, inside, length-letters row) in
      let less = all_at (λ (e : Transition). e.letter < product (sizes_in rows)) row k (no_transition) below there in
      (omega arith, omega (arith, less, letter-at row k d there no_transition, decide-product sizes (sizes_in rows) over.tracks)));
  ascending = subst (AllPairs (λ l m. l < m)) (sym read)
      (λ i j d before inside. let there : j < length row = omega (arith, inside, length-letters row) in
      let less = ascending-row rows place over.sound within i j no_transition before there in
      omega (arith, less, letter-at row i d (omega (arith, before, there)) no_transition, letter-at row j d there no_transition));
}
  where
    no_transition : Transition
    no_transition = record { letter = 0; target = 0 }

    within : place < length (rows_in rows)
    within = omega (arith, there_is, ap length same, length-map (rows_in rows) letters_in)

    row : List Transition
    row = get_or (rows_in rows) place []

    below : AreBelow (product (sizes_in rows)) row
    below = all_at (AreBelow (product (sizes_in rows))) (rows_in rows) place [] (letters-below rows over.sound) within

    read : get_or lists place [] ≡ letters_in row
    read = ap (λ (ls : List (List ℕ)). get_or ls place []) same ∙ get_or-map letters_in (rows_in rows) place [] [] within

-- the cells of one row more
pub cells-more : (sizes : List ℕ) (rows : List (List Transition)) (place cells more : ℕ) (letters : List ℕ) → place < length rows → cells ≡ sum_by (cells_of sizes) (take place rows)
    → letters ≡ letters_in (get_or rows place []) → more ≡ cells_of sizes (map (λ letter. transition_to (letter - 0) 0) letters) → cells + more ≡ sum_by (cells_of sizes) (take (place + 1) rows)
cells-more sizes rows place cells more letters within before same is =
    let here : more ≡ cells_of sizes (get_or rows place []) = is ∙ ap (λ (ls : List ℕ). cells_of sizes (map (λ letter. transition_to (letter - 0) 0) ls)) same ∙ cells_of-from_zero sizes (get_or rows place []) in
    omega (arith, before, here, sum_by_more (cells_of sizes) rows place [] within)

-- the letters of a row are no more than all transitions
pub few-letters : (sizes : List ℕ) (rows : List (List Transition)) (place : ℕ) (letters : List ℕ) → place < length rows → letters ≡ letters_in (get_or rows place []) → length sizes * length letters ≤ length sizes * sum_by length rows
few-letters sizes rows place letters within same =
    let row : List Transition = get_or rows place [] in
    mul-le (length sizes) (length letters) (length sizes) (sum_by length rows) (omega arith)
    (omega (arith, ap length same, length-letters row, sum_by_more_le length rows place [] within))

-- what all blocks sum to, block by block
pub sum-blocks : (f : List Transition → ℕ) (blocks : List Decisions) → sum_by f (flat_map rows_in blocks) ≡ sum_by (λ block. sum_by f (rows_in block)) blocks
sum-blocks f [] = refl
sum-blocks f (b ∷ blocks) = sum_by-append f (rows_in b) (flat_map rows_in blocks) ∙ ap (λ n. sum_by f (rows_in b) + n) (sum-blocks f blocks) ∙ sym (sum_by-cons (λ block. sum_by f (rows_in block)) b blocks)

-- the transitions of one block are no more than those of all, on each track
pub few-transitions : (sizes : List ℕ) (blocks : List Decisions) (place : ℕ) (block : Decisions) → place < length blocks → block ≡ get_or blocks place block → length sizes * sum_by length (rows_in block) ≤ length sizes * sum_by length (flat_map rows_in blocks)
few-transitions sizes blocks place block within is =
    let transitions : Decisions → ℕ = λ b. sum_by length (rows_in b) in
    mul-le (length sizes) (transitions block) (length sizes) (sum_by length (flat_map rows_in blocks)) (omega arith)
    (omega (arith, ap transitions is, sum_by_more_le transitions blocks place block within, sum-blocks length blocks))

-- the cells of one block more
pub block_cells-more : (sizes : List ℕ) (blocks : List Decisions) (place cells more : ℕ) (block : Decisions) → place < length blocks → block ≡ get_or blocks place block → cells ≡ sum_by (cells_of sizes) (flat_map rows_in (take place blocks))
    → more ≡ sum_by (cells_of sizes) (rows_in block) → cells + more ≡ sum_by (cells_of sizes) (flat_map rows_in (take (place + 1) blocks))
block_cells-more sizes blocks place cells more block within is before more_is =
    let cells_in_block : Decisions → ℕ = λ b. sum_by (cells_of sizes) (rows_in b) in
    omega (
      arith,
      before,
      more_is,
      ap cells_in_block is,
      sum-blocks (cells_of sizes) (take place blocks),
      sum-blocks (cells_of sizes) (take (place + 1) blocks),
      sum_by_more cells_in_block blocks place block within,
    )
