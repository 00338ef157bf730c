use Rattle.std.proofs.Common.{◌≡◌, ◌+◌, ◌*◌, ◌<◌, ℕ, List, [], ◌++◌, map, take, drop, length, get_or, subst, sym, ap, ◌∙◌, append_assoc, arith}
use Rattle.std.proofs.lemmas.List.{take_all}
use Rattle.std.specs.Result.{OnOk}
use Rattle.digit_tuple.specs.Letters.{product}
use Rattle.digit_tuple.specs.declared.transitions.Transition.{Transition}
use Rattle.digit_tuple.specs.declared.decisions.Decisions.{Decisions}
use Rattle.digit_tuple.specs.Decisions.{rows_in, sizes_in, joined, joined_rows, only_transition, after_digit, IsSound, IsTrack}
use Rattle.digit_tuple.proofs.DecisionReads.{IsRowOn-sound, joined-next, after_digit-fits, digit_fits}
use Rattle.digit_tuple.proofs.decisions.Decisions.+row_into.Goals as goal

pub last_row_into-requires-clause-track : goal.last_row_into-requires-clause-track
last_row_into-requires-clause-track t c =
    let track = c.in-OnTrack.track in
    let below = c.in-OnTrack.below.value in
    let on = IsRowOn-sound _ track _ below c.args.place c.in-OnTrack.is c.requires.sound c.requires.place in
    subst (IsTrack track track.weight) (ap rows_in (sym c.deref.ensures) ∙ c.in-Some.ensures.targets.0) (subst (λ n. IsTrack track n (rows_in below)) (sym on.track_is.weight) on.track_is)

pub last_row_into-requires-clause-place : goal.last_row_into-requires-clause-place
last_row_into-requires-clause-place t c = (IsRowOn-sound _ c.in-OnTrack.track _ c.in-OnTrack.below.value c.args.place c.in-OnTrack.is c.requires.sound c.requires.place).at.within

pub last_row_into-requires-clause-base : goal.last_row_into-requires-clause-base
last_row_into-requires-clause-base t c =
    let track = c.in-OnTrack.track in
    let below = c.in-OnTrack.below.value in
    let on = IsRowOn-sound _ track _ below c.args.place c.in-OnTrack.is c.requires.sound c.requires.place in
    let whole : c.args.base + track.size * product (sizes_in below) < 4294967296 = subst (λ (d : Decisions). c.args.base + product (sizes_in d) < 4294967296) c.in-OnTrack.is c.requires.base in
    subst (λ n. c.args.base + track.size * n < 4294967296) (sym on.track_is.weight) whole

pub returns-in-Some : goal.returns-in-Some
returns-in-Some t c =
    let track = c.in-OnTrack.track in
    let same : map only_transition c.in-Some.targets.now ≡ rows_in c.in-OnTrack.below.value = sym c.in-Some.ensures.targets.0 ∙ ap rows_in c.deref.ensures in
    subst (λ (row : List Transition). OnOk c.last_row_into.result (c.last_row_into.new.row.items ≡ c.args.row.now.items ++ map (after_digit c.args.base) row))
    (ap (λ (rows : List (List Transition)). get_or (joined_rows track.weight track.digits rows) c.args.place []) same ∙ ap (λ (d : Decisions). get_or (rows_in d) c.args.place []) (sym c.in-OnTrack.is))
    c.last_row_into.ensures

pub start-start-requires : goal.start-start-requires
start-start-requires t c = (IsRowOn-sound _ c.in-OnTrack.track _ c.in-OnTrack.below.value c.args.place c.in-OnTrack.is c.requires.sound c.requires.place).at.within

pub list-digit-items-requires : goal.list-digit-items-requires
list-digit-items-requires t c = (IsRowOn-sound _ c.in-OnTrack.track _ c.in-OnTrack.below.value c.args.place c.in-OnTrack.is c.requires.sound c.requires.place).at.within

pub overflow_add-start : goal.overflow_add-start
overflow_add-start t c = omega (arith, c.start-start.ensures.fits, c.loop-count-test.true, ap length c.list-digit-items.ensures)

pub row_into-requires : goal.row_into-requires
row_into-requires t c = (
  omega (arith, c.decreases, ap (λ (d : Decisions). length (sizes_in d)) c.deref-in-loop-count.ensures, ap (λ (d : Decisions). length (sizes_in d)) c.in-OnTrack.is),
  let track = c.in-OnTrack.track in
      let below = c.in-OnTrack.below.value in
      let on = IsRowOn-sound _ track _ below c.args.place c.in-OnTrack.is c.requires.sound c.requires.place in
      let k = c.loop-count.count in
      let ds = c.list-digit-items.result.now in
      let inside : c.start-start.result + k < length (rows_in below) = omega (arith, on.at.fits, c.start-start.ensures.value, ap length c.list-digit-items.ensures, c.loop-count-test.true) in
      let small : get_or ds k 0 < track.size = subst (λ (ns : List ℕ). get_or ns k 0 < track.size) (sym c.list-digit-items.ensures) (on.at.digits.below k 0 (omega (arith, c.loop-count-test.true, ap length c.list-digit-items.ensures))) in
      let whole : c.args.base + track.size * product (sizes_in below) < 4294967296 = subst (λ (d : Decisions). c.args.base + product (sizes_in d) < 4294967296) c.in-OnTrack.is c.requires.base in
      let same = sym c.deref-in-loop-count.ensures in (
        subst IsSound same on.below_is,
        (
          subst (λ (d : Decisions). c.start-start.result + k < length (rows_in d)) same inside,
          subst (λ n. c.args.base + n * track.weight + product (sizes_in c.deref-in-loop-count.result.now) < 4294967296) (sym c.from.ensures)
              (subst (λ (d : Decisions). c.args.base + get_or ds k 0 * track.weight + product (sizes_in d) < 4294967296) same (after_digit-fits c.args.base track.size track.weight (product (sizes_in below)) (get_or ds k 0) on.track_is.weight small whole)),
        ),
      ),
)

pub loop-count-preserved : goal.loop-count-preserved
loop-count-preserved t c =
    let track = c.in-OnTrack.track in
    let below = c.in-OnTrack.below.value in
    let on = IsRowOn-sound _ track _ below c.args.place c.in-OnTrack.is c.requires.sound c.requires.place in
    let k = c.loop-count.count in
    let ds = c.list-digit-items.result.now in
    let start = c.start-start.result in
    let inside : start + k < length (rows_in below) = omega (arith, on.at.fits, c.start-start.ensures.value, ap length c.list-digit-items.ensures, c.loop-count-test.true) in
    let before : List Transition = map (after_digit c.args.base) (joined track.weight (take k ds) (drop start (rows_in below))) in
    c.in_ok-row_into-in-OnTrack.ensures
    ∙ ap (λ n. c.loop-count.row.items ++ map (after_digit (c.args.base + n * track.weight)) (get_or (rows_in c.deref-in-loop-count.result.now) (start + k) [])) c.from.ensures
    ∙ ap (λ (d : Decisions). c.loop-count.row.items ++ map (after_digit (c.args.base + get_or ds k 0 * track.weight)) (get_or (rows_in d) (start + k) [])) c.deref-in-loop-count.ensures
    ∙ ap (λ (es : List Transition). es ++ map (after_digit (c.args.base + get_or ds k 0 * track.weight)) (get_or (rows_in below) (start + k) [])) c.loop-count.invariant
    ∙ append_assoc c.args.row.now.items before (map (after_digit (c.args.base + get_or ds k 0 * track.weight)) (get_or (rows_in below) (start + k) []))
    ∙ ap (λ (es : List Transition). c.args.row.now.items ++ es) (sym (joined-next c.args.base track.weight ds (rows_in below) start k c.loop-count-test.true inside))

pub returns-after-loop-count : goal.returns-after-loop-count
returns-after-loop-count t c =
    let track = c.in-OnTrack.track in
    let below = c.in-OnTrack.below.value in
    let on = IsRowOn-sound _ track _ below c.args.place c.in-OnTrack.is c.requires.sound c.requires.place in
    let ds = c.list-digit-items.result.now in
    let all : take c.loop-count.count ds ≡ ds = take_all c.loop-count.count ds c.loop-count-test.false in
    c.loop-count.invariant
    ∙ ap (λ (ns : List ℕ). c.args.row.now.items ++ map (after_digit c.args.base) (joined track.weight ns (drop c.start-start.result (rows_in below)))) (all ∙ c.list-digit-items.ensures)
    ∙ ap (λ n. c.args.row.now.items ++ map (after_digit c.args.base) (joined track.weight (get_or track.digits c.args.place []) (drop n (rows_in below)))) c.start-start.ensures.value
    ∙ ap (λ (es : List Transition). c.args.row.now.items ++ map (after_digit c.args.base) es) (sym on.at.row)
    ∙ ap (λ (d : Decisions). c.args.row.now.items ++ map (after_digit c.args.base) (get_or (rows_in d) c.args.place [])) (sym c.in-OnTrack.is)

pub overflow_mul-more : goal.overflow_mul-more
overflow_mul-more t c =
    let fits = digit_fits _ c.in-OnTrack.track _ c.in-OnTrack.below.value c.args.base c.args.place c.loop-count.count c.list-digit-items.result.now c.from.result c.in-OnTrack.is c.requires.sound c.requires.place c.requires.base
    c.list-digit-items.ensures c.loop-count-test.true c.from.ensures in
    omega (arith, fits)

pub overflow_add-more : goal.overflow_add-more
overflow_add-more t c =
    let fits = digit_fits _ c.in-OnTrack.track _ c.in-OnTrack.below.value c.args.base c.args.place c.loop-count.count c.list-digit-items.result.now c.from.result c.in-OnTrack.is c.requires.sound c.requires.place c.requires.base
    c.list-digit-items.ensures c.loop-count-test.true c.from.ensures in
    omega (arith, fits)
