use Rattle.std.proofs.Common.{◌≡◌, ℕ, ◌+◌, ◌<◌, List, cond, nat_eq, length, take, get_or, sym, ap, ◌∙◌, arith}
use Rattle.std.specs.List.{sum_by}
use Rattle.std.proofs.lemmas.List.{take_more, take_all}
use Rattle.std.proofs.lemmas.List.Sums.{sum_by_push}
use Rattle.digit_tuple.specs.declared.transitions.Transition.{Transition}
use Rattle.constants.specs.WordCounts.{capped}
use Rattle.constants.proofs.CappedLemmas.{capped-set}
use Rattle.constants.proofs.word_counts.add_along.Goals as goal

pub loop-transition-preserved : goal.loop-transition-preserved
loop-transition-preserved c = λ state before within is.
    let old = c.loop-transition.next in
    let transitions = c.args.transitions.now in
    let index = c.loop-transition.transition-index in
    let count = c.args.count in
    let none : Transition = record { letter = 0; target = 0 } in
    let transition : Transition = get_or transitions index none in
    let added = λ (e : Transition). cond {A = ℕ} (nat_eq e.target state) count 0 in
    let inside : state < length old = omega (arith, within, c.loop-transition.auto.next) in
    let more : sum_by added (take (index + 1) transitions) ≡ sum_by added (take index transitions) + added transition =
    ap (λ (es : List Transition). sum_by added es) (take_more transitions index none c.loop-transition-test.true) ∙ sum_by_push added (take index transitions) transition in
    capped-set old transition.target count c.saturating_add.result state before (sum_by added (take index transitions)) inside c.saturating_add.ensures (c.loop-transition.invariant state before within is)
    ∙ ap (λ s. capped (before + s)) (sym more)

pub returns : goal.returns
returns c = λ state before within is.
    c.loop-transition.invariant state before within is
    ∙ ap (λ (es : List Transition). capped (before + sum_by (λ e. cond {A = ℕ} (nat_eq e.target state) c.args.count 0) es)) (take_all c.loop-transition.transition-index c.args.transitions.now c.loop-transition-test.false)
