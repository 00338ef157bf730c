use Rattle.std.proofs.Common.{◌≡◌, ◌==◌, ℕ, ◌+◌, ◌<◌, ◌≤◌, List, ◌⊎◌, inl, inr, length, set, take, ap, sym, ◌∙◌, eq-eqb, arith, get_or-set_same, get_or-set_other, length-set}
use Rattle.std.specs.List.{count_by}
use Rattle.std.proofs.lemmas.Bool.{cases_eq, ne_eqb}
use Rattle.std.proofs.lemmas.List.{get_or_default, length-take-le, take_all}
use Rattle.std.proofs.lemmas.List.Sums.{count_by-le-length, count_by_more_yes, count_by_more_no}
use Rattle.residual_classes.specs.Classes.{class_of}
use Rattle.residual_classes.proofs.rounds.largest_class.Goals as goal
use Rattle.residual_classes.proofs.rounds.largest_class.Goals.{then-count-largest, else-count-largest}

-- the counts after one more class
counted : (classes counts : List ℕ) (place count : ℕ) → place < length classes → class_of classes place < length counts → count ≡ class_of counts (class_of classes place)
    → ((k : ℕ) → class_of counts k ≡ count_by (λ c. c == k) (take place classes)) → (k : ℕ) → class_of (set counts (class_of classes place) (count + 1)) k ≡ count_by (λ c. c == k) (take (place + 1) classes)
counted classes counts place count less within is so_far k = by (cases_eq k (class_of classes place))
  where
    by : (k ≡ class_of classes place) ⊎ (k ≡ class_of classes place → ⊥) → class_of (set counts (class_of classes place) (count + 1)) k ≡ count_by (λ c. c == k) (take (place + 1) classes)
    by (inl same) =
        ap (class_of (set counts (class_of classes place) (count + 1))) same ∙ get_or-set_same counts (class_of classes place) (count + 1) 0 within
        ∙ ap (λ n. n + 1) (is ∙ ap (class_of counts) (sym same) ∙ so_far k) ∙ sym (count_by_more_yes (λ c. c == k) classes place 0 less (eq-eqb (class_of classes place) k (sym same)))
    by (inr other) =
        get_or-set_other counts (class_of classes place) k (count + 1) 0 other ∙ so_far k
        ∙ sym (count_by_more_no (λ c. c == k) classes place 0 less (ne_eqb (class_of classes place) k (λ same. other (sym same))))

-- the greatest count after one more class
most : (counts : List ℕ) (class count largest new : ℕ) → class < length counts → count + 1 ≤ new → largest ≤ new → ((k : ℕ) → class_of counts k ≤ largest) → (k : ℕ) → class_of (set counts class (count + 1)) k ≤ new
most counts class count largest new within up more so_far k = by (cases_eq k class)
  where
    by : (k ≡ class) ⊎ (k ≡ class → ⊥) → class_of (set counts class (count + 1)) k ≤ new
    by (inl same) = omega (arith, up, ap (class_of (set counts class (count + 1))) same ∙ get_or-set_same counts class (count + 1) 0 within)
    by (inr other) = omega (arith, so_far k, more, get_or-set_other counts class k (count + 1) 0 other)

pub overflow_add-count : goal.overflow_add-count
overflow_add-count c =
    let classes = c.args.classes.now in
    let counts = c.loop-class.counts.items in
    let place = c.loop-class.class-index in
    let x = class_of classes place in
    let low = c.requires.below place 0 c.loop-class-test.true in
    let read : c.index.result.now ≡ class_of counts x = c.index.ensures ∙ get_or_default counts x c.index.result.now 0 (omega (arith, low, c.loop-class.invariant.width)) in
    omega (arith, read ∙ c.loop-class.invariant.counts x, count_by-le-length (λ c. c == x) (take place classes), length-take-le place classes (omega (arith, c.loop-class-test.true)), c.requires.small, c.loop-class-test.true)

pub loop-class-preserved : goal.loop-class-preserved
loop-class-preserved c =
    let classes = c.args.classes.now in
    let counts = c.loop-class.counts.items in
    let place = c.loop-class.class-index in
    let x = class_of classes place in
    let count = c.index.result.now in
    let low = c.requires.below place 0 c.loop-class-test.true in
    let within : x < length counts = omega (arith, low, c.loop-class.invariant.width) in
    let read : count ≡ class_of counts x = c.index.ensures ∙ get_or_default counts x count 0 within in
    let up : (count + 1 ≤ c.if-count-largest.largest) × (c.loop-class.largest ≤ c.if-count-largest.largest) = elim c.if-count-largest.branch [
      | then-count-largest w ↦ (omega (arith, w.largest-is), omega (arith, w.largest-is, w.if-count-largest.true))
      | else-count-largest w ↦ (omega (arith, w.largest-is, w.if-count-largest.false), omega (arith, w.largest-is))
    ] in
    record {
      width = length-set counts x (count + 1) ∙ c.loop-class.invariant.width;
      counts = counted classes counts place count c.loop-class-test.true within read c.loop-class.invariant.counts;
      largest = most counts x count c.loop-class.largest c.if-count-largest.largest within up.0 up.1 c.loop-class.invariant.largest;
    }

pub returns : goal.returns
returns c k =
    let classes = c.args.classes.now in
    let all = ap (count_by (λ c. c == k)) (take_all c.loop-class.class-index classes c.loop-class-test.false) in
    omega (arith, all, c.loop-class.invariant.counts k, c.loop-class.invariant.largest k)
