use Rattle.std.proofs.Common.{◌≡◌, ◌+◌, ◌-◌, ◌*◌, ◌/◌, ◌<◌, ℕ, [], ◌∷◌, ◌++◌, map, take, drop, length, get_or, sym, ap, ◌∙◌, subst, refl, length-take, arith}
use Rattle.std.specs.List.{All, AllPairs}
use Rattle.digit_tuple.specs.declared.transitions.Transition.{Transition}
use Rattle.digit_tuple.specs.Letters.{product}
use Rattle.digit_tuple.specs.Deterministic.{IsByEarlier}
use Rattle.digit_tuple.specs.Decisions.{rows_in, sizes_in, ahead, IsFrom}
use Rattle.digit_tuple.proofs.RowGrowthLemmas.{IsGrown-begin, IsGrown-more, IsRun-next, ascending-drop, ascending-take, rest-is, low_fits}
use Rattle.digit_tuple.proofs.decisions.+row.Goals as goal

pub Track::add_row-loop-start-init : goal.Track::add_row-loop-start-init
Track::add_row-loop-start-init t c = record {
  below = c.requires.below;
  sizes = refl;
  grown = IsGrown-begin c.args.base c.args.transitions.now c.args.self.now (rows_in c.args.below.now) (product (sizes_in c.args.below.now)) c.begin.new.self c.requires.track c.in_ok-begin.ensures;
}

pub Track::add_row-run_length-count-requires : goal.Track::add_row-run_length-count-requires
Track::add_row-run_length-count-requires t c =
    subst (AllPairs IsByEarlier) (sym (rest-is c.args.transitions.now c.loop-start.start)) (ascending-drop c.args.transitions.now c.loop-start.start c.requires.ascending)

pub Track::add_row-add_row-requires : goal.Track::add_row-add_row-requires
Track::add_row-add_row-requires t c =
    let transitions = c.args.transitions.now in
    let start = c.loop-start.start in
    let track = c.args.self.now in
    let grown = c.loop-start.self in
    let count = c.run_length-count.result in
    let z : Transition = record { letter = 0; target = 0 } in
    let digit : ℕ = ((get_or (take (length transitions - start) (drop start transitions)) 0 z).letter - c.args.base) / grown.weight in
    let low : ℕ = c.args.base + digit * grown.weight in
    let is = c.loop-start.invariant.grown in
    let run = IsRun-next c.args.base transitions track grown start count digit low z c.loop-start-test.true c.requires.ascending c.requires.letters is.weight refl refl c.run_length-count.ensures.later in
    let weight : grown.weight ≡ product (sizes_in c.loop-start.below) = is.track_is.weight ∙ ap product (sym c.loop-start.invariant.sizes) in
    let same = rest-is transitions start in (
      omega (arith, c.decreases, ap length c.loop-start.invariant.sizes),
      (
        c.loop-start.invariant.below,
        (
          subst (λ es. 0 < length (sizes_in c.loop-start.below) + length (take count es)) (sym same) (omega (arith, run.some)),
          (
            subst (λ es. All (IsFrom low (product (sizes_in c.loop-start.below))) (take count es)) (sym same) (λ k d inside. (run.from k d inside, omega (arith, subst (λ es. All (λ e. e.letter < low + grown.weight) (take count es)) same c.run_length-count.ensures.below k d inside, weight))),
            (
              ascending-take (take (length transitions - start) (drop start transitions)) count c.run_length-count.ensures.within (subst (AllPairs IsByEarlier) (sym same) (ascending-drop transitions start c.requires.ascending)),
              omega (arith, run.fits, c.requires.narrow, weight, is.weight),
            ),
          ),
        ),
      ),
    )

pub Track::add_row-loop-start-smaller : goal.Track::add_row-loop-start-smaller
Track::add_row-loop-start-smaller t c =
    let transitions = c.args.transitions.now in
    let start = c.loop-start.start in
    let track = c.args.self.now in
    let grown = c.loop-start.self in
    let count = c.run_length-count.result in
    let z : Transition = record { letter = 0; target = 0 } in
    let digit : ℕ = ((get_or (take (length transitions - start) (drop start transitions)) 0 z).letter - c.args.base) / grown.weight in
    let low : ℕ = c.args.base + digit * grown.weight in
    let is = c.loop-start.invariant.grown in
    let run = IsRun-next c.args.base transitions track grown start count digit low z c.loop-start-test.true c.requires.ascending c.requires.letters is.weight refl refl c.run_length-count.ensures.later in
    omega (arith, c.loop-start-test.true, run.some, length-take count (drop start transitions))

pub Track::add_row-loop-start-preserved : goal.Track::add_row-loop-start-preserved
Track::add_row-loop-start-preserved t c =
    let transitions = c.args.transitions.now in
    let start = c.loop-start.start in
    let track = c.args.self.now in
    let grown = c.loop-start.self in
    let count = c.run_length-count.result in
    let z : Transition = record { letter = 0; target = 0 } in
    let digit : ℕ = ((get_or (take (length transitions - start) (drop start transitions)) 0 z).letter - c.args.base) / grown.weight in
    let low : ℕ = c.args.base + digit * grown.weight in
    let is = c.loop-start.invariant.grown in
    let run = IsRun-next c.args.base transitions track grown start count digit low z c.loop-start-test.true c.requires.ascending c.requires.letters is.weight refl refl c.run_length-count.ensures.later in
    record {
      below = c.in_ok-add_row.ensures.sound;
      sizes = c.in_ok-add_row.ensures.sizes ∙ c.loop-start.invariant.sizes;
      grown = IsGrown-more c.args.base transitions track (rows_in c.args.below.now) start (product (sizes_in c.args.below.now)) grown (rows_in c.loop-start.below) count digit low c.add.new.self (rows_in c.add_row.new.self)
          is run c.in_ok-add.ensures (c.in_ok-add_row.ensures.rows ∙ ap (λ es. rows_in c.loop-start.below ++ map (ahead low) (take count es) ∷ []) (rest-is transitions start));
    }

pub Track::add_row-overflow_mul-low : goal.Track::add_row-overflow_mul-low
Track::add_row-overflow_mul-low t c =
    let transitions = c.args.transitions.now in
    let start = c.loop-start.start in
    let grown = c.loop-start.self in
    let z : Transition = record { letter = 0; target = 0 } in
    let digit : ℕ = ((get_or (take (length transitions - start) (drop start transitions)) 0 z).letter - c.args.base) / grown.weight in
    let fits = low_fits c.args.base transitions c.args.self.now grown start digit z c.loop-start-test.true c.requires.letters c.loop-start.invariant.grown.weight refl c.requires.narrow in
    omega (arith, fits)

pub Track::add_row-overflow_add-low : goal.Track::add_row-overflow_add-low
Track::add_row-overflow_add-low t c =
    let transitions = c.args.transitions.now in
    let start = c.loop-start.start in
    let grown = c.loop-start.self in
    let z : Transition = record { letter = 0; target = 0 } in
    let digit : ℕ = ((get_or (take (length transitions - start) (drop start transitions)) 0 z).letter - c.args.base) / grown.weight in
    let fits = low_fits c.args.base transitions c.args.self.now grown start digit z c.loop-start-test.true c.requires.letters c.loop-start.invariant.grown.weight refl c.requires.narrow in
    omega (arith, fits)

pub Track::add_row-overflow_add-low-in-loop-start : goal.Track::add_row-overflow_add-low-in-loop-start
Track::add_row-overflow_add-low-in-loop-start t c =
    let transitions = c.args.transitions.now in
    let start = c.loop-start.start in
    let grown = c.loop-start.self in
    let z : Transition = record { letter = 0; target = 0 } in
    let digit : ℕ = ((get_or (take (length transitions - start) (drop start transitions)) 0 z).letter - c.args.base) / grown.weight in
    let fits = low_fits c.args.base transitions c.args.self.now grown start digit z c.loop-start-test.true c.requires.letters c.loop-start.invariant.grown.weight refl c.requires.narrow in
    omega (arith, fits)

pub Track::add_row-add-requires-clause-some : goal.Track::add_row-add-requires-clause-some
Track::add_row-add-requires-clause-some t c = c.loop-start.invariant.grown.some
