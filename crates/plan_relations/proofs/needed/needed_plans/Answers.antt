use Rattle.std.proofs.Common.{◌≡◌, ◌⊎◌, inl, inr, ◌<◌, ◌-◌, ℕ, suc, Bool, List, true, false, length, replicate, get_or, sym, ap, ◌∙◌, subst, arith}
use Rattle.std.proofs.lemmas.List.{get_or_default, get_or-replicate, length-replicate}
use Rattle.plan_relations.specs.MadeOf.{is_marked, is_step_making}
use Rattle.plan_relations.proofs.NeededLemmas.{IsMarkedFrom, all_needed, needed_here, only_last}
use Rattle.plan_relations.proofs.needed.needed_plans.Goals.{then-index-via-then-index, then-index-via-else-index+then-is_step}
use Rattle.plan_relations.proofs.needed.needed_plans.Goals as goal

pub loop-place-init : goal.loop-place-init
loop-place-init c =
    let n : ℕ = length c.args.makings.now in
    let all : c.in_ok-needed.needed.items ≡ replicate n false = c.in_ok-needed.ensures.items_if_clones_equal (λ y is. is) in
    only_last c.args.makings.now c.args.last c.in_ok-needed.needed.items c.requires.place (ap length all ∙ length-replicate {A = Bool} n false)
    (λ i within. ap (λ (marks : List Bool). get_or marks i false) all ∙ get_or-replicate n i false false (omega (arith, within, ap length all, length-replicate {A = Bool} n false)))

pub loop-place-preserved-in-loop-place : goal.loop-place-preserved-in-loop-place
loop-place-preserved-in-loop-place c =
    let makings = c.args.makings.now in
    let marks = c.loop-place.needed.items in
    let k : ℕ = c.loop-place.place - 1 in
    let m = c.index-makings-place.result in
    let more : c.loop-place.place ≡ suc k = omega (arith, c.loop-place-test.true) in
    let from : IsMarkedFrom makings c.args.last (suc k) marks = subst (λ (j : ℕ). IsMarkedFrom makings c.args.last j marks) more c.loop-place.invariant in
    let inside : k < length makings = omega (arith, c.loop-place-test.true, c.loop-place.auto.place) in
    let here : is_marked marks k ≡ c.index.result.now = get_or_default marks k false c.index.result.now (omega (arith, inside, from.count)) ∙ sym c.index.ensures in
    let why : (is_marked marks k ≡ true) ⊎ (is_step_making m ≡ true) = elim c.then-index.branch [
      | then-index-via-then-index w ↦ inl (here ∙ w.if-index.true)
      | then-index-via-else-index+then-is_step w ↦ inr (sym w.is_step.ensures ∙ w.if-is_step.true)
    ] in
    subst (IsMarkedFrom makings c.args.last k) (sym c.mark_parts.ensures)
    (needed_here c.requires.list.0 makings c.args.last k marks m c.requires.list.1 from inside c.index-makings-place.is why)

pub returns : goal.returns
returns c plans are =
    let end : c.loop-place.place ≡ 0 = omega (arith, c.loop-place-test.false) in
    all_needed plans c.args.makings.now c.args.last c.loop-place.needed.items are (subst (λ (j : ℕ). IsMarkedFrom c.args.makings.now c.args.last j c.loop-place.needed.items) end c.loop-place.invariant)
