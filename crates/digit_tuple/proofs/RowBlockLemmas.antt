-- Rows that are kept in blocks: blocks with one more, blocks with the same rows, and the cells of all blocks.
use Rattle.std.proofs.Common.{◌≡◌, ℕ, ◌-◌, ◌≤◌, List, [], ◌∷◌, ◌++◌, map, set, suc, zero, get_or, length, sym, ap, ◌∙◌, subst, append_assoc, arith}
use Rattle.std.specs.List.{AllByRecursion, flat_map}
use Rattle.std.proofs.Math.Seq.{get_or-append_seam, map-set_same, set-append_seam}
use Rattle.std.proofs.lemmas.List.{length-append, flat_map_more}
use Rattle.digit_tuple.specs.Blocks.{AreBlocks}
use Rattle.digit_tuple.specs.Decisions.{rows_in, sizes_in, IsSound}
use Rattle.digit_tuple.specs.SparseRows.{DecideRows, block_rows, AreOver, IsFullOver, AreOpenBlocks, AreRowBlocks, HaveSameRows}
use Rattle.digit_tuple.specs.declared.transitions.Transition.{Transition}
use Rattle.digit_tuple.specs.declared.decisions.Decisions.{Decisions}
use Rattle.digit_tuple.proofs.BlockLemmas.{AreBlocks-push, AreBlocks-full, AreBlocks-short, flat_map-same}
use Rattle.digit_tuple.proofs.DecisionLemmas.{all_push}

all_before : {A : Type 0} (P : A → Type 0) (xs : List A) (x : A) → AllByRecursion P (xs ++ x ∷ []) → AllByRecursion P xs
all_before P [] x all = tt
all_before P (y ∷ xs) x all = (all.0, all_before P xs x all.1)

at_end : {A : Type 0} (P : A → Type 0) (xs : List A) (x : A) → AllByRecursion P (xs ++ x ∷ []) → P x
at_end P [] x all = all.0
at_end P (y ∷ xs) x all = at_end P xs x all.1

to_full : (sizes : List ℕ) (xs : List Decisions) → AllByRecursion (AreOver sizes) xs → AllByRecursion (λ x. length (rows_in x) ≡ block_rows) xs → AllByRecursion (IsFullOver sizes) xs
to_full sizes [] over full = tt
to_full sizes (x ∷ xs) over full = (record { over = over.0; rows = full.0 }, to_full sizes xs over.1 full.1)

full-over : (sizes : List ℕ) (xs : List Decisions) → AllByRecursion (IsFullOver sizes) xs → AllByRecursion (AreOver sizes) xs
full-over sizes [] full = tt
full-over sizes (x ∷ xs) full = (full.0.over, full-over sizes xs full.1)

full-rows : (sizes : List ℕ) (xs : List Decisions) → AllByRecursion (IsFullOver sizes) xs → AllByRecursion (λ x. length (rows_in x) ≡ block_rows) xs
full-rows sizes [] full = tt
full-rows sizes (x ∷ xs) full = (full.0.rows, full-rows sizes xs full.1)

-- the last block has no more rows than a full one, and the blocks before it are full
pub record AreFullBefore (sizes : List ℕ) (xs : List Decisions) (last : Decisions) : Type 0 where
  pub full : AllByRecursion (IsFullOver sizes) xs
  pub over : AreOver sizes last
  pub rows : length (rows_in last) ≤ block_rows

pub AreFullBefore-split : (sizes : List ℕ) (blocks xs : List Decisions) (last : Decisions) → AreRowBlocks sizes blocks → blocks ≡ xs ++ last ∷ [] → AreFullBefore sizes xs last
AreFullBefore-split sizes blocks xs last are same =
    let split : AreRowBlocks sizes (xs ++ last ∷ []) = subst (AreRowBlocks sizes) same are in
    record {
      full = to_full sizes xs (all_before (AreOver sizes) xs last split.over) (AreBlocks-full rows_in xs block_rows last split.rows);
      over = at_end (AreOver sizes) xs last split.over;
      rows = AreBlocks-short rows_in xs block_rows last split.rows;
    }

pub AreRowBlocks-push : (sizes : List ℕ) (xs : List Decisions) (last : Decisions) → AreFullBefore sizes xs last → AreRowBlocks sizes (xs ++ last ∷ [])
AreRowBlocks-push sizes xs last are = record {
  over = all_push (AreOver sizes) xs last (full-over sizes xs are.full) are.over;
  rows = AreBlocks-push rows_in xs block_rows last (full-rows sizes xs are.full) are.rows;
}

over-tracks : (sizes : List ℕ) (xs : List Decisions) → AllByRecursion (AreOver sizes) xs → AllByRecursion (DecideRows sizes) (map sizes_in xs)
over-tracks sizes [] over = tt
over-tracks sizes (x ∷ xs) over = (over.0.tracks, over-tracks sizes xs over.1)

to_over : (sizes : List ℕ) (xs : List Decisions) → AllByRecursion IsSound xs → AllByRecursion (DecideRows sizes) (map sizes_in xs) → AllByRecursion (AreOver sizes) xs
to_over sizes [] sound tracks = tt
to_over sizes (x ∷ xs) sound tracks = (record { sound = sound.0; tracks = tracks.0 }, to_over sizes xs sound.1 tracks.1)

-- blocks with the same rows are blocks by the same tracks
pub HaveSameRows-blocks : (sizes : List ℕ) (blocks others : List Decisions) → HaveSameRows blocks others → AreRowBlocks sizes blocks → AreRowBlocks sizes others
HaveSameRows-blocks sizes blocks others same are = record {
  over = to_over sizes others same.sound (subst (AllByRecursion (DecideRows sizes)) (sym same.tracks) (over-tracks sizes blocks are.over));
  rows = subst (AreBlocks block_rows) (sym same.rows) are.rows;
}

pub HaveSameRows-rows : (blocks others : List Decisions) → HaveSameRows blocks others → flat_map rows_in others ≡ flat_map rows_in blocks
HaveSameRows-rows blocks others same = flat_map-same rows_in others blocks same.rows

all_set : {A : Type 0} (P : A → Type 0) (xs : List A) (i : ℕ) (y : A) → AllByRecursion P xs → P y → AllByRecursion P (set xs i y)
all_set P [] i y all here = tt
all_set P (x ∷ xs) zero y all here = (here, all.1)
all_set P (x ∷ xs) (suc i) y all here = (all.0, all_set P xs i y all.1 here)

-- a block that is changed for one with the same rows
pub AreRowBlocks-set : (sizes : List ℕ) (xs : List Decisions) (i : ℕ) (x y : Decisions) → AreRowBlocks sizes xs → x ≡ get_or xs i x → AreOver sizes y → rows_in y ≡ rows_in x → AreRowBlocks sizes (set xs i y)
AreRowBlocks-set sizes xs i x y are there over rows = record {
  over = all_set (AreOver sizes) xs i y are.over over;
  rows = subst (AreBlocks block_rows) (sym (map-set_same rows_in xs i y x (rows ∙ ap rows_in there))) are.rows;
}

pub rows-set : (xs : List Decisions) (i : ℕ) (x y : Decisions) → x ≡ get_or xs i x → rows_in y ≡ rows_in x → flat_map rows_in (set xs i y) ≡ flat_map rows_in xs
rows-set xs i x y there rows = flat_map-same rows_in (set xs i y) xs (map-set_same rows_in xs i y x (rows ∙ ap rows_in there))

pub HaveSameRows-set : (xs : List Decisions) (i : ℕ) (x y : Decisions) → AllByRecursion IsSound xs → x ≡ get_or xs i x → IsSound y → sizes_in y ≡ sizes_in x → rows_in y ≡ rows_in x → HaveSameRows xs (set xs i y)
HaveSameRows-set xs i x y all there sound tracks rows = record {
  sound = all_set IsSound xs i y all sound;
  tracks = map-set_same sizes_in xs i y x (tracks ∙ ap sizes_in there);
  rows = map-set_same rows_in xs i y x (rows ∙ ap rows_in there);
}

-- the rows of blocks of which the last has one row more
pub rows-pushed : (xs : List Decisions) (x y : Decisions) (row : List Transition) → rows_in y ≡ rows_in x ++ row ∷ [] → flat_map rows_in (xs ++ y ∷ []) ≡ (flat_map rows_in xs ++ rows_in x) ++ row ∷ []
rows-pushed xs x y row rows = sym (flat_map_more rows_in [] xs y) ∙ ap (λ rs. flat_map rows_in xs ++ rs) rows ∙ sym (append_assoc (flat_map rows_in xs) (rows_in x) (row ∷ []))

-- full blocks stay so where they keep their rows
pub HaveSameRows-full : (sizes : List ℕ) (blocks others : List Decisions) → HaveSameRows blocks others → AllByRecursion (IsFullOver sizes) blocks → AllByRecursion (IsFullOver sizes) others
HaveSameRows-full sizes blocks others same full =
    to_full sizes others (to_over sizes others same.sound (subst (AllByRecursion (DecideRows sizes)) (sym same.tracks) (over-tracks sizes blocks (full-over sizes blocks full))))
    (same-full others (subst (AllByRecursion (λ rows. length rows ≡ block_rows)) (sym same.rows) (rows-full blocks (full-rows sizes blocks full))))
  where
    rows-full : (xs : List Decisions) → AllByRecursion (λ x. length (rows_in x) ≡ block_rows) xs → AllByRecursion (λ rows. length rows ≡ block_rows) (map rows_in xs)
    rows-full [] each = tt
    rows-full (x ∷ xs) each = (each.0, rows-full xs each.1)

    same-full : (xs : List Decisions) → AllByRecursion (λ rows. length rows ≡ block_rows) (map rows_in xs) → AllByRecursion (λ x. length (rows_in x) ≡ block_rows) xs
    same-full [] each = tt
    same-full (x ∷ xs) each = (each.0, same-full xs each.1)

module _ (sizes : List ℕ) (blocks : List Decisions) (opened : AreOpenBlocks sizes blocks) (count : ℕ) (all : count ≡ length blocks) where
  at_last : count - 1 ≡ length opened.before
  at_last = omega (arith, all, ap length opened.are, length-append opened.before (opened.last ∷ []))

  -- the open block is the last one
  pub open-last : (d : Decisions) → get_or blocks (count - 1) d ≡ opened.last
  open-last d = ap (λ bs. get_or bs (count - 1) d) opened.are ∙ ap (λ i. get_or (opened.before ++ opened.last ∷ []) i d) at_last ∙ get_or-append_seam opened.before opened.last [] d

  module _ (here : Decisions) (is : here ≡ get_or blocks (count - 1) here) (grown : Decisions) (row : List Transition) (sound : IsSound grown) (tracks : sizes_in grown ≡ sizes_in here) (rows : rows_in grown ≡ rows_in here ++ row ∷ []) where
    here_last : here ≡ opened.last
    here_last = is ∙ open-last here

    grown_rows : rows_in grown ≡ rows_in opened.last ++ row ∷ []
    grown_rows = rows ∙ ap (λ (d : Decisions). rows_in d ++ row ∷ []) here_last

    grown_are : set blocks (count - 1) grown ≡ opened.before ++ grown ∷ []
    grown_are = ap (λ bs. set bs (count - 1) grown) opened.are ∙ ap (λ i. set (opened.before ++ opened.last ∷ []) i grown) at_last ∙ set-append_seam opened.before opened.last [] grown

    -- it takes one more row
    pub open-grown : AreRowBlocks sizes (set blocks (count - 1) grown)
    open-grown = subst (AreRowBlocks sizes) (sym grown_are) (AreRowBlocks-push sizes opened.before grown (record {
      full = opened.full;
      over = record { sound = sound; tracks = subst (DecideRows sizes) (sym (tracks ∙ ap sizes_in here_last)) opened.over.tracks };
      rows = omega (arith, ap length grown_rows, length-append (rows_in opened.last) (row ∷ []), opened.room);
    }))

    pub open-rows : flat_map rows_in (set blocks (count - 1) grown) ≡ flat_map rows_in blocks ++ row ∷ []
    open-rows =
        ap (flat_map rows_in) grown_are ∙ rows-pushed opened.before opened.last grown row grown_rows
        ∙ ap (λ rs. rs ++ row ∷ []) (flat_map_more rows_in [] opened.before opened.last ∙ ap (flat_map rows_in) (sym opened.are))
