use Rattle.std.proofs.Common.{◌≡◌, ℕ, ◌+◌, ◌-◌, ◌*◌, ◌/◌, ◌^◌, ◌<◌, ◌≤◌, ◌++◌, [], ◌∷◌, length, max, ap, ◌∙◌, below_more, arith}
use Rattle.std.proofs.lemmas.Nat.{mul-le}
use Rattle.std.proofs.lemmas.List.{get_or_push, get_or_append_left, length_push}
use Rattle.digit_tuple.specs.Deterministic.{states_of}
use Rattle.residual_classes.specs.Classes.{class_of}
use Rattle.residual_classes.specs.OutputParts.{part_number}
use Rattle.residual_classes.proofs.output_parts.part_numbers.Goals as goal

-- so many parts of a number are at most the number
parts_within : (n number class : ℕ) → 0 < n → class ≤ n → class * (number / n) ≤ number
parts_within n number class some low = omega (arith, mul-le class (number / n) n (number / n) low (omega arith))

-- the class of a state is spread over the upper half of the bits
upper_within : (states spread class : ℕ) → spread ≡ (2 ^ 32 - 1) / max states 1 → class ≤ states → class * spread < 2 ^ 32
upper_within states spread class is low = omega (arith, parts_within (max states 1) (2 ^ 32 - 1) class (omega arith) (omega (arith, low)), ap (λ (n : ℕ). class * n) is)

pub overflow_mul-upper : goal.overflow_mul-upper
overflow_mul-upper c =
    let spread_is = c.from-spread.ensures ∙ ap (λ (n : ℕ). (2 ^ 32 - 1) / n) (c.max.ensures ∙ ap (λ (n : ℕ). max n 1) c.states.ensures.value) in
    omega (arith, upper_within (states_of c.args.machine.now.dfa.now) c.from-spread.result c.from.result spread_is (omega (arith, c.from.ensures, c.requires.below c.loop-place.place 0 c.loop-place-test.true)))

pub overflow_mul-upper-in-loop-place : goal.overflow_mul-upper-in-loop-place
overflow_mul-upper-in-loop-place c =
    let spread_is = c.from-spread.ensures ∙ ap (λ (n : ℕ). (2 ^ 32 - 1) / n) (c.max.ensures ∙ ap (λ (n : ℕ). max n 1) c.states.ensures.value) in
    omega (arith, upper_within (states_of c.args.machine.now.dfa.now) c.from-spread.result c.from.result spread_is (omega (arith, c.from.ensures, c.requires.below c.loop-place.place 0 c.loop-place-test.true)))

pub overflow_add-upper : goal.overflow_add-upper
overflow_add-upper c =
    let spread_is = c.from-spread.ensures ∙ ap (λ (n : ℕ). (2 ^ 32 - 1) / n) (c.max.ensures ∙ ap (λ (n : ℕ). max n 1) c.states.ensures.value) in
    let upper = upper_within (states_of c.args.machine.now.dfa.now) c.from-spread.result c.from.result spread_is (omega (arith, c.from.ensures, c.requires.below c.loop-place.place 0 c.loop-place-test.true)) in
    omega (arith, upper, c.from-in-loop-place.ensures, c.output.type_inv)

pub loop-place-preserved : goal.loop-place-preserved
loop-place-preserved c =
    let old = c.loop-place.numbers.items in
    let place = c.loop-place.place in
    let classes = c.args.classes.now in
    let outputs = c.args.machine.now.outputs.now in
    let states = states_of c.args.machine.now.dfa.now in
    let class = c.from.result in
    let output = c.from-in-loop-place.result in
    let spread = c.from-spread.result in
    let number : ℕ = class * spread * 2 ^ 32 + output in
    let spread_is : spread ≡ (2 ^ 32 - 1) / max states 1 = c.from-spread.ensures ∙ ap (λ (n : ℕ). (2 ^ 32 - 1) / n) (c.max.ensures ∙ ap (λ (n : ℕ). max n 1) c.states.ensures.value) in
    let class_is : class ≡ class_of classes place = c.from.ensures in
    let output_is : output ≡ class_of outputs place = c.from-in-loop-place.ensures ∙ c.output.ensures in
    let is : c.push.new.self.items ≡ old ++ number ∷ [] = c.in_ok-push.ensures.items in
    let here : class_of c.push.new.self.items place ≡ part_number states (class_of classes place) (class_of outputs place) =
    ap (λ ns. class_of ns place) is ∙ get_or_push old number 0 place c.loop-place.invariant.width ∙ ap (λ (n : ℕ). n * spread * 2 ^ 32 + output) class_is
    ∙ ap (λ (n : ℕ). class_of classes place * n * 2 ^ 32 + output) spread_is ∙ ap (λ (n : ℕ). class_of classes place * ((2 ^ 32 - 1) / max states 1) * 2 ^ 32 + n) output_is in
    record {
      width = omega (arith, ap length is, length_push old number, c.loop-place.invariant.width);
      outputs = below_more _ _ c.loop-place.invariant.outputs (omega (arith, c.output.ensures));
      are = below_more _ _ (λ q less. ap (λ ns. class_of ns q) is ∙ get_or_append_left old (number ∷ []) 0 q (omega (arith, less, c.loop-place.invariant.width)) ∙ c.loop-place.invariant.are q less) here;
    }
