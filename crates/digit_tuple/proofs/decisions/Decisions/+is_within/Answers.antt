use Rattle.std.proofs.Common.{◌≡◌, ◌+◌, ◌*◌, ◌<◌, ℕ, List, [], map, take, drop, length, get_or, refl, subst, sym, ap, ◌∙◌, arith, true, false}
use Rattle.std.proofs.lemmas.Bool.{false≢true}
use Rattle.std.proofs.lemmas.List.{take_all, get_or-drop}
use Rattle.std.specs.List.{AllByRecursion}
use Rattle.digit_tuple.specs.Letters.{product}
use Rattle.digit_tuple.specs.declared.transitions.Transition.{Transition}
use Rattle.digit_tuple.specs.declared.decisions.Decisions.{Decisions}
use Rattle.digit_tuple.specs.Decisions.{rows_in, sizes_in, joined, after_digit, LeadsAs, IsSound}
use Rattle.digit_tuple.proofs.TruthLemmas.{never_true, ever_true}
use Rattle.digit_tuple.proofs.DecisionReads.{IsRowOn-sound, digits_at, start_at, joined-next, after_digit-fits, digit_fits}
use Rattle.digit_tuple.proofs.SameRows.{all-joined}
use Rattle.digit_tuple.proofs.AllLemmas.{all_append}
use Rattle.digit_tuple.proofs.decisions.Decisions.+is_within.Goals as goal

pub start-start-requires : goal.start-start-requires
start-start-requires t c = (IsRowOn-sound _ c.in-OnTrack.track _ c.in-OnTrack.below.value c.args.place c.in-OnTrack.is c.requires.sound c.requires.place).at.within

pub list-digit-items-requires : goal.list-digit-items-requires
list-digit-items-requires t c = (IsRowOn-sound _ c.in-OnTrack.track _ c.in-OnTrack.below.value c.args.place c.in-OnTrack.is c.requires.sound c.requires.place).at.within

pub is_within-requires : goal.is_within-requires
is_within-requires t c = (
  omega (arith, c.decreases, ap (λ (d : Decisions). length (sizes_in d)) c.deref.ensures, ap (λ (d : Decisions). length (sizes_in d)) c.in-OnTrack.is),
  let track = c.in-OnTrack.track in
      let below = c.in-OnTrack.below.value in
      let on = IsRowOn-sound _ track _ below c.args.place c.in-OnTrack.is c.requires.sound c.requires.place in
      let k = c.loop-count.count in
      let ds = c.list-digit-items.result.now in
      let inside : c.start-start.result + k < length (rows_in below) = omega (arith, on.at.fits, c.start-start.ensures.value, ap length c.list-digit-items.ensures, c.loop-count-test.true) in
      let small : get_or ds k 0 < track.size = subst (λ (ns : List ℕ). get_or ns k 0 < track.size) (sym c.list-digit-items.ensures) (on.at.digits.below k 0 (omega (arith, c.loop-count-test.true, ap length c.list-digit-items.ensures))) in
      let whole : c.args.base + track.size * product (sizes_in below) < 4294967296 = subst (λ (d : Decisions). c.args.base + product (sizes_in d) < 4294967296) c.in-OnTrack.is c.requires.base in
      let same = sym c.deref.ensures in (
        subst IsSound same on.below_is,
        (
          subst (λ (d : Decisions). c.start-start.result + k < length (rows_in d)) same inside,
          (
            subst (λ n. c.args.base + n * track.weight + product (sizes_in c.deref.result.now) < 4294967296) (sym c.from.ensures)
                (subst (λ (d : Decisions). c.args.base + get_or ds k 0 * track.weight + product (sizes_in d) < 4294967296) same (after_digit-fits c.args.base track.size track.weight (product (sizes_in below)) (get_or ds k 0) on.track_is.weight small whole)),
            (c.requires.other_sound, c.requires.at),
          ),
        ),
      ),
)

pub returns-then-not-is_within : goal.returns-then-not-is_within
returns-then-not-is_within t c =
    let track = c.in-OnTrack.track in
    let below = c.in-OnTrack.below.value in
    let on = IsRowOn-sound _ track _ below c.args.place c.in-OnTrack.is c.requires.sound c.requires.place in
    let digits : List ℕ = digits_at track c.args.place in
    let rows : List (List Transition) = drop (start_at track c.args.place) (rows_in below) in
    let k = c.loop-count.count in
    let inside : k < length digits = omega (arith, c.loop-count-test.true, ap length c.list-digit-items.ensures) in
    let there : get_or (rows_in c.deref.result.now) (c.start-start.result + k) [] ≡ get_or rows k [] =
    ap (λ (d : Decisions). get_or (rows_in d) (c.start-start.result + k) []) c.deref.ensures ∙ ap (λ n. get_or (rows_in below) (n + k) []) c.start-start.ensures.value ∙ sym (get_or-drop (start_at track c.args.place) (rows_in below) k []) in
    let digit : c.from.result ≡ get_or digits k 0 = c.from.ensures ∙ ap (λ (ns : List ℕ). get_or ns k 0) c.list-digit-items.ensures in
    let row : get_or (rows_in c.args.self.now) c.args.place [] ≡ joined track.weight digits rows = ap (λ (d : Decisions). get_or (rows_in d) c.args.place []) c.in-OnTrack.is ∙ on.at.row in
    let P : Transition → Type 0 = LeadsAs (get_or (rows_in c.args.other.now) c.args.at []) in
    let no : c.is_within.result ≡ false = c.if-not-is_within.true in
    never_true false (AllByRecursion P (map (after_digit c.args.base) (get_or (rows_in c.args.self.now) c.args.place []))) refl
    (λ all.
    let part = all-joined P c.args.base track.weight digits rows k 0 inside (omega (arith, inside, on.at.room)) (subst (λ (es : List Transition). AllByRecursion P (map (after_digit c.args.base) es)) row all) in
    let those : AllByRecursion P (map (after_digit (c.args.base + c.from.result * track.weight)) (get_or (rows_in c.deref.result.now) (c.start-start.result + k) [])) =
    subst (λ (es : List Transition). AllByRecursion P (map (after_digit (c.args.base + c.from.result * track.weight)) es)) (sym there) (subst (λ n. AllByRecursion P (map (after_digit (c.args.base + n * track.weight)) (get_or rows k []))) (sym digit) part) in
    false≢true (sym no ∙ c.is_within.ensures.1 those))

pub loop-count-preserved : goal.loop-count-preserved
loop-count-preserved t c =
    let track = c.in-OnTrack.track in
    let below = c.in-OnTrack.below.value in
    let on = IsRowOn-sound _ track _ below c.args.place c.in-OnTrack.is c.requires.sound c.requires.place in
    let k = c.loop-count.count in
    let ds = c.list-digit-items.result.now in
    let start = c.start-start.result in
    let inside : start + k < length (rows_in below) = omega (arith, on.at.fits, c.start-start.ensures.value, ap length c.list-digit-items.ensures, c.loop-count-test.true) in
    let P : Transition → Type 0 = LeadsAs (get_or (rows_in c.args.other.now) c.args.at []) in
    let yes : c.is_within.result ≡ true = c.if-not-is_within.false in
    let those : AllByRecursion P (map (after_digit (c.args.base + get_or ds k 0 * track.weight)) (get_or (rows_in below) (start + k) [])) =
    subst (λ (d : Decisions). AllByRecursion P (map (after_digit (c.args.base + get_or ds k 0 * track.weight)) (get_or (rows_in d) (start + k) []))) c.deref.ensures
    (subst (λ n. AllByRecursion P (map (after_digit (c.args.base + n * track.weight)) (get_or (rows_in c.deref.result.now) (start + k) []))) c.from.ensures (c.is_within.ensures.0 yes)) in
    subst (AllByRecursion P) (sym (joined-next c.args.base track.weight ds (rows_in below) start k c.loop-count-test.true inside))
    (all_append P (map (after_digit c.args.base) (joined track.weight (take k ds) (drop start (rows_in below)))) (map (after_digit (c.args.base + get_or ds k 0 * track.weight)) (get_or (rows_in below) (start + k) [])) c.loop-count.invariant those)

pub returns-after-loop-count : goal.returns-after-loop-count
returns-after-loop-count t c =
    let track = c.in-OnTrack.track in
    let below = c.in-OnTrack.below.value in
    let on = IsRowOn-sound _ track _ below c.args.place c.in-OnTrack.is c.requires.sound c.requires.place in
    let digits : List ℕ = digits_at track c.args.place in
    let row : get_or (rows_in c.args.self.now) c.args.place [] ≡ joined track.weight digits (drop (start_at track c.args.place) (rows_in below)) = ap (λ (d : Decisions). get_or (rows_in d) c.args.place []) c.in-OnTrack.is ∙ on.at.row in
    let P : Transition → Type 0 = LeadsAs (get_or (rows_in c.args.other.now) c.args.at []) in
    let ds = c.list-digit-items.result.now in
    let all : take c.loop-count.count ds ≡ ds = take_all c.loop-count.count ds c.loop-count-test.false in
    ever_true true (AllByRecursion P (map (after_digit c.args.base) (get_or (rows_in c.args.self.now) c.args.place []))) refl
    (subst (λ (es : List Transition). AllByRecursion P (map (after_digit c.args.base) es)) (sym row)
    (subst (λ n. AllByRecursion P (map (after_digit c.args.base) (joined track.weight digits (drop n (rows_in below))))) c.start-start.ensures.value
    (subst (λ (ns : List ℕ). AllByRecursion P (map (after_digit c.args.base) (joined track.weight ns (drop c.start-start.result (rows_in below))))) (all ∙ c.list-digit-items.ensures) c.loop-count.invariant)))

pub overflow_mul-more : goal.overflow_mul-more
overflow_mul-more t c =
    let fits = digit_fits _ c.in-OnTrack.track _ c.in-OnTrack.below.value c.args.base c.args.place c.loop-count.count c.list-digit-items.result.now c.from.result c.in-OnTrack.is c.requires.sound c.requires.place c.requires.base
    c.list-digit-items.ensures c.loop-count-test.true c.from.ensures in
    omega (arith, fits)

pub overflow_add-more : goal.overflow_add-more
overflow_add-more t c =
    let fits = digit_fits _ c.in-OnTrack.track _ c.in-OnTrack.below.value c.args.base c.args.place c.loop-count.count c.list-digit-items.result.now c.from.result c.in-OnTrack.is c.requires.sound c.requires.place c.requires.base
    c.list-digit-items.ensures c.loop-count-test.true c.from.ensures in
    omega (arith, fits)

pub overflow_add-start : goal.overflow_add-start
overflow_add-start t c = omega (arith, c.start-start.ensures.fits, c.loop-count-test.true, ap length c.list-digit-items.ensures)
