use Rattle.std.proofs.Common.{◌≡◌, ℕ, List, Vec, Global, ◌+◌, ◌-◌, length, sym, ap, ◌∙◌, subst, arith}
use Rattle.residual_classes.specs.Classes.{class_of}
use Rattle.residual_classes.proofs.OffClassLemmas.{AreOffTo, AreOffTo-take, AreOffTo-skip}
use Rattle.residual_classes.proofs.partition.live_states.Goals as goal
use Rattle.residual_classes.proofs.partition.live_states.Goals.{then-classes-place+in_ok-push, else-classes-place}

pub loop-place-preserved : goal.loop-place-preserved
loop-place-preserved c =
    let classes = c.args.classes.now in
    let dead = class_of classes (length classes - 1) in
    let states = c.loop-place.states.items in
    let place = c.loop-place.place in
    elim c.if-classes-place.branch [
      | then-classes-place+in_ok-push w ↦ subst (λ (set : List ℕ). AreOffTo classes dead set (place + 1)) (sym (ap (λ (v : Vec ℕ Global). v.items) w.states-is ∙ w.in_ok-push.ensures.items))
          (AreOffTo-take classes states dead place c.loop-place.invariant w.if-classes-place.true)
      | else-classes-place w ↦ subst (λ (set : List ℕ). AreOffTo classes dead set (place + 1)) (sym (ap (λ (v : Vec ℕ Global). v.items) w.states-is))
          (AreOffTo-skip classes states dead place c.loop-place.invariant w.if-classes-place.false)
    ]

pub returns : goal.returns
returns c =
    let classes = c.args.classes.now in
    let all : c.loop-place.place ≡ length classes = omega (arith, c.loop-place-test.false, c.loop-place.auto.place-end) in
    subst (AreOffTo classes (class_of classes (length classes - 1)) c.loop-place.states.items) all c.loop-place.invariant
