use Rattle.std.proofs.Common.{◌≡◌, ℕ, [], refl, sym, ◌∙◌, subst, below_more, arith}
use Rattle.std.proofs.lemmas.Bool.{false≢true}
use Rattle.residual_classes.specs.Classes.{class_of}
use Rattle.residual_classes.specs.Alike.{AreAlike}
use Rattle.residual_classes.proofs.StabilityLemmas.{AreAlike-refl, IsStable-led, HaveOneOutput-led}
use Rattle.residual_classes.proofs.ResidualLemmas.{AreAlike-residuals, AreResidualClasses-stable}
use Rattle.residual_classes.proofs.stability.are_like_leaders.Goals as goal
use Rattle.residual_classes.proofs.stability.are_like_leaders.Goals.{else-leader-state-via-then-leader-state+then-not-lead_alike+in_ok-are_alike+else-not-branch, else-leader-state-via-then-leader-state+else-not-lead_alike, else-leader-state-via-else-leader-state}

pub loop-place-preserved : goal.loop-place-preserved
loop-place-preserved c =
    let d = c.args.machine.now.dfa.now in
    let outputs = c.args.machine.now.outputs.now in
    let classes = c.args.classes.now in
    let place = c.loop-place.place in
    let leader : ℕ = class_of c.args.leaders.now (class_of classes place) in
    let here : AreAlike d classes place leader = elim c.else-leader-state.branch [
      | else-leader-state-via-then-leader-state+then-not-lead_alike+in_ok-are_alike+else-not-branch w ↦ w.in_ok-are_alike.ensures.0 w.if-not-branch.false
      | else-leader-state-via-then-leader-state+else-not-lead_alike w ↦ w.lead_alike.ensures w.if-not-lead_alike.false
      | else-leader-state-via-else-leader-state w ↦ subst (AreAlike d classes place) (sym w.if-leader-state.false) (AreAlike-refl d classes place)
    ] in
    let one_output : class_of outputs place ≡ class_of outputs leader = sym c.output.ensures ∙ c.if-output.false ∙ c.output-in-loop-place.ensures in
    record {
      alike = below_more _ _ c.loop-place.invariant.alike here;
      outputs = below_more _ _ c.loop-place.invariant.outputs one_output;
    }

pub returns-then-output : goal.returns-then-output
returns-then-output c =
    let d = c.args.machine.now.dfa.now in
    let outputs = c.args.machine.now.outputs.now in
    let classes = c.args.classes.now in
    let place = c.loop-place.place in
    let led = c.requires.leaders in
    let leader : ℕ = class_of c.args.leaders.now (class_of classes place) in
    let within = led.within place (omega arith) in
    let own = sym (led.same place (omega arith)) in (
      (λ no. absurd (false≢true no)),
      (λ are. absurd (c.if-output.true (c.output.ensures ∙ (are.residuals place leader (omega arith) (omega (arith, within, c.requires.classes.width))).0 own [] tt ∙ sym c.output-in-loop-place.ensures))),
    )

pub returns-then-not-branch : goal.returns-then-not-branch
returns-then-not-branch c =
    let d = c.args.machine.now.dfa.now in
    let outputs = c.args.machine.now.outputs.now in
    let classes = c.args.classes.now in
    let place = c.loop-place.place in
    let led = c.requires.leaders in
    let leader : ℕ = class_of c.args.leaders.now (class_of classes place) in
    let within = led.within place (omega arith) in
    let own = sym (led.same place (omega arith)) in (
      (λ no. absurd (false≢true no)),
      (λ are. sym c.if-not-branch.true ∙ c.in_ok-are_alike.ensures.1 (AreAlike-residuals d outputs c.requires.outputs c.states.ensures.table classes are place leader (omega arith) (omega (arith, within, c.requires.classes.width)) own)),
    )

pub returns : goal.returns
returns c =
    let d = c.args.machine.now.dfa.now in
    let outputs = c.args.machine.now.outputs.now in
    let classes = c.args.classes.now in
    let leaders = c.args.leaders.now in (
      (λ yes. AreResidualClasses-stable d outputs c.requires.outputs c.states.ensures.table classes c.requires.classes
          (IsStable-led d classes leaders (λ q less. c.loop-place.invariant.alike q (omega arith))) (HaveOneOutput-led d classes outputs leaders (λ q less. c.loop-place.invariant.outputs q (omega arith)))),
      (λ are. refl),
    )
