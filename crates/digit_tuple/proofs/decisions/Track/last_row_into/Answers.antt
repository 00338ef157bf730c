use Rattle.std.proofs.Common.{◌≡◌, ◌+◌, ◌*◌, ◌<◌, ℕ, List, [], ◌∷◌, ◌++◌, map, take, drop, length, get_or, sym, ap, ◌∙◌, append_assoc, arith}
use Rattle.std.proofs.lemmas.List.{take_all, get_or_default}
use Rattle.digit_tuple.specs.Reversed.{transition_to}
use Rattle.digit_tuple.specs.declared.transitions.Transition.{Transition}
use Rattle.digit_tuple.specs.Decisions.{joined, after_digit, only_transition}
use Rattle.digit_tuple.proofs.DecisionReads.{IsRow-track, joined-next, only_transition-at, length-only_transitions}
use Rattle.digit_tuple.proofs.decisions.Track.last_row_into.Goals as goal

-- a target that is read
transition-read : (row new : List Transition) (targets : List ℕ) (letter q d : ℕ) → q < length targets → new ≡ row ++ transition_to letter (get_or targets q d) ∷ [] → new ≡ row ++ transition_to letter (get_or targets q 0) ∷ []
transition-read row new targets letter q d inside is = is ∙ ap (λ n. row ++ transition_to letter n ∷ []) (get_or_default targets q d 0 inside)

pub bounds-targets-start : goal.bounds-targets-start
bounds-targets-start c =
    let at = IsRow-track c.args.self.now c.args.self.now.weight (map only_transition c.args.targets.now) c.args.place c.requires.track c.requires.place in
    omega (arith, at.fits, c.start-start.ensures.value, ap length c.list-digit-items.ensures, c.loop-count-test.true, length-only_transitions c.args.targets.now)

pub loop-count-preserved : goal.loop-count-preserved
loop-count-preserved c =
    let weight = c.args.self.now.weight in
    let targets = c.args.targets.now in
    let rows : List (List Transition) = map only_transition targets in
    let at = IsRow-track c.args.self.now weight rows c.args.place c.requires.track c.requires.place in
    let k = c.loop-count.count in
    let ds = c.list-digit-items.result.now in
    let start = c.start-start.result in
    let inside : start + k < length targets = omega (arith, at.fits, c.start-start.ensures.value, ap length c.list-digit-items.ensures, c.loop-count-test.true, length-only_transitions targets) in
    let before : List Transition = map (after_digit c.args.base) (joined weight (take k ds) (drop start rows)) in
    let letter : c.args.base + c.from.result * weight ≡ c.args.base + get_or ds k 0 * weight + 0 = omega (arith, ap (λ n. n * weight) c.from.ensures) in
    transition-read c.loop-count.row.items c.push.new.self.items targets (c.args.base + c.from.result * weight) (start + k) _ inside c.in_ok-push.ensures.items
    ∙ ap (λ (es : List Transition). es ++ transition_to (c.args.base + c.from.result * weight) (get_or targets (start + k) 0) ∷ []) c.loop-count.invariant
    ∙ append_assoc c.args.row.now.items before (transition_to (c.args.base + c.from.result * weight) (get_or targets (start + k) 0) ∷ [])
    ∙ ap (λ n. c.args.row.now.items ++ (before ++ transition_to n (get_or targets (start + k) 0) ∷ [])) letter
    ∙ ap (λ (es : List Transition). c.args.row.now.items ++ (before ++ map (after_digit (c.args.base + get_or ds k 0 * weight)) es)) (sym (only_transition-at targets (start + k) 0 inside))
    ∙ ap (λ (es : List Transition). c.args.row.now.items ++ es) (sym (joined-next c.args.base weight ds rows start k c.loop-count-test.true (omega (arith, inside, length-only_transitions targets))))

pub returns : goal.returns
returns c =
    let rows : List (List Transition) = map only_transition c.args.targets.now in
    let at = IsRow-track c.args.self.now c.args.self.now.weight rows c.args.place c.requires.track c.requires.place in
    let ds = c.list-digit-items.result.now in
    let all : take c.loop-count.count ds ≡ ds = take_all c.loop-count.count ds c.loop-count-test.false in
    c.loop-count.invariant
    ∙ ap (λ (ns : List ℕ). c.args.row.now.items ++ map (after_digit c.args.base) (joined c.args.self.now.weight ns (drop c.start-start.result rows))) (all ∙ c.list-digit-items.ensures)
    ∙ ap (λ n. c.args.row.now.items ++ map (after_digit c.args.base) (joined c.args.self.now.weight (get_or c.args.self.now.digits c.args.place []) (drop n rows))) c.start-start.ensures.value
    ∙ ap (λ (es : List Transition). c.args.row.now.items ++ map (after_digit c.args.base) es) (sym at.row)
