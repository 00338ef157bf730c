use Rattle.std.proofs.Common.{◌≡◌, ◌<◌, ℕ, ◌+◌, Vec, Global, length, arith, sym, ◌∙◌, ap, subst}
use Rattle.std.proofs.lemmas.List.{get_or_default}
use Rattle.digit_tuple.specs.Deterministic.{states_of}
use Rattle.endless.specs.Counts.{AreFree}
use Rattle.endless.proofs.PathLemmas.{IsUnderWay, IsUnderWay-start, IsUnderWay-skip, IsUnderWay-more, links_left, IsSorted-end}
use Rattle.endless.proofs.sorting.sorted.Goals as goal
use Rattle.endless.proofs.sorting.sorted.Goals.{then-place-len+in_ok-transitions_into+in_ok-release, else-place-len}

pub free_states-requires : goal.free_states-requires
free_states-requires c = omega (arith, ap length c.deref.ensures.value, c.in_ok-pending.ensures.width, c.states-states.ensures.table.part.small)

pub loop-place-init : goal.loop-place-init
loop-place-init c =
    IsUnderWay-start c.args.language.now c.args.without c.in_ok-pending.pending.items c.in_ok-order.order.items c.in_ok-pending.ensures
    (subst (λ xs. AreFree xs c.in_ok-order.order.items (length xs)) c.deref.ensures.value c.in_ok-order.ensures)

pub release-requires-clause-enough : goal.release-requires-clause-enough
release-requires-clause-enough c =
    links_left c.args.language.now c.args.without c.loop-place.pending.items c.loop-place.order.items c.loop-place.place c.loop-place.invariant (omega (arith, c.if-place-len.true, c.len.ensures))
    c.index-state.result.now c.deref-then-place-len.result.now (c.index-state.ensures ∙ get_or_default c.loop-place.order.items c.loop-place.place c.index-state.result.now 0 (omega (arith, c.if-place-len.true, c.len.ensures)))
    (c.deref-then-place-len.ensures.value ∙ c.in_ok-transitions_into.ensures.transitions)

pub loop-place-preserved : goal.loop-place-preserved
loop-place-preserved c = elim c.if-place-len.branch [
  | then-place-len+in_ok-transitions_into+in_ok-release w ↦
      let within : c.loop-place.place < length c.loop-place.order.items = omega (arith, w.if-place-len.true, c.len.ensures) in
      subst (λ (v : Vec ℕ Global). IsUnderWay c.args.language.now c.args.without v.items c.if-place-len.order.items (c.loop-place.place + 1)) (sym w.pending-is)
      (subst (λ (v : Vec ℕ Global). IsUnderWay c.args.language.now c.args.without w.release.new.pending.items v.items (c.loop-place.place + 1)) (sym w.order-is)
      (IsUnderWay-more c.args.language.now c.args.without c.loop-place.pending.items c.loop-place.order.items c.loop-place.place c.loop-place.invariant within
      w.release.new.pending.items w.release.new.order.items w.index-state.result.now w.deref-then-place-len.result.now
      (w.index-state.ensures ∙ get_or_default c.loop-place.order.items c.loop-place.place w.index-state.result.now 0 within)
      (w.deref-then-place-len.ensures.value ∙ w.in_ok-transitions_into.ensures.transitions) w.in_ok-release.ensures.released w.in_ok-release.ensures.free w.in_ok-release.ensures.grows))
  | else-place-len w ↦
      subst (λ (v : Vec ℕ Global). IsUnderWay c.args.language.now c.args.without v.items c.if-place-len.order.items (c.loop-place.place + 1)) (sym w.pending-is)
      (subst (λ (v : Vec ℕ Global). IsUnderWay c.args.language.now c.args.without c.loop-place.pending.items v.items (c.loop-place.place + 1)) (sym w.order-is)
      (IsUnderWay-skip c.args.language.now c.args.without c.loop-place.pending.items c.loop-place.order.items c.loop-place.place c.loop-place.invariant (omega (arith, w.if-place-len.false, c.len.ensures))))
]

pub returns : goal.returns
returns c =
    let at_end : c.loop-place.place ≡ states_of c.args.language.now = omega (arith, c.loop-place-test.false, c.loop-place.auto.place-end, c.states-place-end.ensures.value) in
    IsSorted-end c.args.language.now c.args.without c.loop-place.pending.items c.loop-place.order.items c.states-place-end.ensures.table
    (subst (λ n. IsUnderWay c.args.language.now c.args.without c.loop-place.pending.items c.loop-place.order.items n) at_end c.loop-place.invariant)
