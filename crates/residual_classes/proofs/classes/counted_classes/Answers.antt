use Rattle.std.proofs.Common.{◌≡◌, ◌≤◌, ℕ, List, sym, subst}
use Rattle.digit_tuple.specs.Deterministic.{states_of}
use Rattle.residual_classes.specs.Classes.{class_of}
use Rattle.residual_classes.specs.CoarseClasses.{AreCoarseClasses}
use Rattle.residual_classes.proofs.RoundLemmas.{AreAtMost-finer, all_looks}
use Rattle.residual_classes.proofs.classes.counted_classes.Goals as goal

pub returns-clause-looks : goal.returns-clause-looks
returns-clause-looks g c b less =
    let d = c.args.machine.now.dfa.now in
    let counted = c.in_ok-rounds.rounds.counted in
    let parts = c.in_ok-classes.classes.items in
    let room = c.in_ok-rounds.ensures.room c.if-rounds.false in
    let finer = subst (λ (xs : List ℕ). (q : ℕ) → q ≤ states_of d → class_of xs q ≡ class_of xs (class_of parts q)) c.deref.ensures.value c.in_ok-classes.ensures.finer in
    all_looks d counted c.args.looks.now c.classes_by_rounds.new.looks c.parted.new.looks b room less
    (c.parted.ensures.looks counted.largest room.digits (AreAtMost-finer (states_of d) counted.classes.items parts counted.largest finer room.most) room.within)

pub returns-then-rounds-clause-residuals : goal.returns-then-rounds-clause-residuals
returns-then-rounds-clause-residuals g c = c.in_ok-rounds.ensures.stable c.if-rounds.true

pub returns-then-rounds-clause-looks : goal.returns-then-rounds-clause-looks
returns-then-rounds-clause-looks g c b less = c.classes_by_rounds.ensures.looks b less

pub parted_by_outputs-requires-clause-classes : goal.parted_by_outputs-requires-clause-classes
parted_by_outputs-requires-clause-classes g c = subst (AreCoarseClasses c.args.machine.now.dfa.now c.args.machine.now.outputs.now) (sym c.deref.ensures.value) c.in_ok-rounds.ensures.coarse

pub returns-in_err-rounds-clause-looks : goal.returns-in_err-rounds-clause-looks
returns-in_err-rounds-clause-looks g c b less = c.classes_by_rounds.ensures.looks b less

pub returns-in_err-classes-clause-looks : goal.returns-in_err-classes-clause-looks
returns-in_err-classes-clause-looks g c b less = c.classes_by_rounds.ensures.looks b less

pub returns-clause-residuals : goal.returns-clause-residuals
returns-clause-residuals g c = c.parted.ensures.residuals
