use Rattle.std.proofs.Common.{◌≡◌, ℕ, ◌+◌, ◌-◌, ◌*◌, ◌/◌, ◌<◌, ◌≤◌, take, drop, length, get_or, sym, ap, ◌∙◌, subst, refl, length-take, length-drop, arith}
use Rattle.std.specs.List.{All, AllPairs}
use Rattle.std.proofs.lemmas.Nat.{mul-le}
use Rattle.std.proofs.lemmas.List.{drop_all}
use Rattle.digit_tuple.specs.CellCounts.{cells_of}
use Rattle.digit_tuple.specs.Letters.{product}
use Rattle.digit_tuple.proofs.CellLemmas.{cells_of-none}
use Rattle.digit_tuple.proofs.LetterCellLemmas.{by_letters, rest-is, ascending-part, IsNextRun, IsNextRun-next, cells-next, few-by_letters, cells-one}
use Rattle.digit_tuple.proofs.letter_cells.+letter_cells.Goals as goal
use Rattle.digit_tuple.proofs.letter_cells.+letter_cells.Goals.{After-letters_below-run, After-letter_cells}

-- the run that is found
next-run : (t : ℕ) (c : After-letters_below-run t)
    → IsNextRun c.args.sizes.now c.args.count c.args.base c.args.letters.now c.loop-start.start (c.args.count / get_or c.args.sizes.now 0 0) (c.args.base + (c.from.result - c.args.base) / (c.args.count / get_or c.args.sizes.now 0 0) * (c.args.count / get_or c.args.sizes.now 0 0)) c.letters_below-run.result
next-run t c =
    let weight : ℕ = c.args.count / get_or c.args.sizes.now 0 0 in
    IsNextRun-next c.args.sizes.now c.args.count c.args.base c.args.letters.now c.loop-start.start c.from.result (c.args.base + (c.from.result - c.args.base) / weight * weight) c.letters_below-run.result
    (omega (arith, c.in-len1-up.len_at_least)) c.requires.count c.requires.some c.requires.in_range c.requires.ascending c.loop-start-test.true c.from.ensures refl c.letters_below-run.ensures.below c.letters_below-run.ensures.later

pub letter_cells-requires : goal.letter_cells-requires
letter_cells-requires t c =
    let sizes = c.args.sizes.now in
    let letters = c.args.letters.now in
    let start = c.loop-start.start in
    let count = c.letters_below-run.result in
    let weight : ℕ = c.args.count / get_or c.args.sizes.now 0 0 in
    let low : ℕ = c.args.base + (c.from.result - c.args.base) / weight * weight in
    let run = next-run t c in
    let later : take (length sizes - 1) (drop 1 sizes) ≡ drop 1 sizes = rest-is sizes 1 in
    let part : take (length letters - start) (drop start letters) ≡ drop start letters = rest-is letters start in
    let short : count ≤ length (drop start letters) = omega (arith, c.letters_below-run.ensures.within, ap length part) in
    let few = mul-le (length (drop 1 sizes)) (length (take count (drop start letters))) (length sizes) (length letters) (omega (arith, run.tracks)) (omega (arith, length-take count (drop start letters), length-drop start letters)) in (
      omega (arith, c.decreases, run.tracks, ap length later),
      (
        ap product later ∙ sym run.weight_is,
        (
          run.positive,
          (
            subst (λ ls. All (λ letter. (low ≤ letter) × (letter < low + weight)) (take count ls)) (sym part) run.in_range,
            (
              subst (λ ls. AllPairs (λ l m. l < m) (take count ls)) (sym part) (ascending-part letters start count short c.requires.ascending),
              (
                omega (arith, run.fits, c.requires.narrow),
                subst (λ ls. length (take (length sizes - 1) (drop 1 sizes)) * length (take count ls) < 18446744073709551616) (sym part) (subst (λ ss. length ss * length (take count (drop start letters)) < 18446744073709551616) (sym later) (omega (arith, few, c.requires.fits))),
              ),
            ),
          ),
        ),
      ),
    )

pub returns-after-loop-start : goal.returns-after-loop-start
returns-after-loop-start t c =
    let none : cells_of c.args.sizes.now (by_letters c.args.base (drop c.loop-start.start c.args.letters.now)) ≡ 0 =
    ap (λ ls. cells_of c.args.sizes.now (by_letters c.args.base ls)) (drop_all c.loop-start.start c.args.letters.now c.loop-start-test.false) ∙ cells_of-none c.args.sizes.now in
    omega (arith, none, c.loop-start.invariant)

-- the cells with the run that is found
cells-more : (t : ℕ) (c : After-letter_cells t)
    → (c.loop-start.cells + (1 + c.letter_cells.result)) + cells_of c.args.sizes.now (by_letters c.args.base (drop (c.loop-start.start + c.letters_below-run.result) c.args.letters.now)) ≡ cells_of c.args.sizes.now (by_letters c.args.base c.args.letters.now)
cells-more t c =
    let weight : ℕ = c.args.count / get_or c.args.sizes.now 0 0 in
    cells-next c.args.sizes.now c.args.count c.args.base c.args.letters.now c.loop-start.start weight (c.args.base + (c.from.result - c.args.base) / weight * weight) c.letters_below-run.result c.loop-start.cells c.letter_cells.result
    (next-run t (goal.at.loop-start-preserved t c).After-letters_below-run) c.loop-start.invariant c.letter_cells.ensures

pub overflow_add-cells : goal.overflow_add-cells
overflow_add-cells t c = omega (arith, cells-more t c, few-by_letters c.args.sizes.now c.args.base c.args.letters.now, c.requires.fits)

pub overflow_add-cells-in-loop-start : goal.overflow_add-cells-in-loop-start
overflow_add-cells-in-loop-start t c = omega (arith, cells-more t c, few-by_letters c.args.sizes.now c.args.base c.args.letters.now, c.requires.fits)

pub loop-start-smaller : goal.loop-start-smaller
loop-start-smaller t c =
    let run = next-run t (goal.at.loop-start-smaller t c).After-letters_below-run in
    omega (arith, c.loop-start-test.true, run.some, length-take c.letters_below-run.result (drop c.loop-start.start c.args.letters.now))

pub loop-start-preserved : goal.loop-start-preserved
loop-start-preserved t c = cells-more t c

pub returns-in-len1 : goal.returns-in-len1
returns-in-len1 t c =
    sym (cells-one c.args.sizes.now c.args.count c.args.base c.args.letters.now (omega (arith, c.in-len1.len_at_least, c.in-len1.len_below)) c.requires.count c.requires.in_range c.requires.ascending)
