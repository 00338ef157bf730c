use Rattle.std.proofs.Common.{subst, arith}
use Rattle.std.proofs.lemmas.Result.{IfOk-weaker}
use Rattle.residual_classes.specs.FirstPlaces.{AreFirstPlaces}
use Rattle.residual_classes.proofs.HashLemmas.{AreCoarseClasses-places}
use Rattle.residual_classes.proofs.OutputPartLemmas.{AreCoarseNumbers-parts, HaveOneOutput-parts, finer-parts}
use Rattle.residual_classes.proofs.output_parts.parted_by_outputs.Goals as goal

pub returns-clause-coarse : goal.returns-clause-coarse
returns-clause-coarse c =
    let d = c.args.machine.now.dfa.now in
    let outputs = c.args.machine.now.outputs.now in
    let classes = c.args.classes.now in
    let numbers = c.in_ok-numbers.numbers.items in
    let made = c.in_ok-numbers.ensures in
    let wide = c.requires.classes.width in
    IfOk-weaker c.first_places.result _ _
    (λ places are. AreCoarseClasses-places d outputs numbers _ (AreCoarseNumbers-parts d outputs classes numbers (omega (arith, made.width, wide)) (λ q low. made.are q (omega (arith, low, wide))) c.requires.classes)
    (subst (λ xs. AreFirstPlaces xs places.items) c.deref.ensures.value are))
    c.first_places.ensures

pub returns-clause-one_output : goal.returns-clause-one_output
returns-clause-one_output c =
    let d = c.args.machine.now.dfa.now in
    let outputs = c.args.machine.now.outputs.now in
    let classes = c.args.classes.now in
    let numbers = c.in_ok-numbers.numbers.items in
    let made = c.in_ok-numbers.ensures in
    let wide = c.requires.classes.width in
    IfOk-weaker c.first_places.result _ _
    (λ places are. HaveOneOutput-parts d outputs classes numbers (omega (arith, made.width, wide)) (λ q low. made.are q (omega (arith, low, wide))) (λ q low. made.outputs q (omega (arith, low, wide))) places.items
    (subst (λ xs. AreFirstPlaces xs places.items) c.deref.ensures.value are))
    c.first_places.ensures

pub returns-clause-finer : goal.returns-clause-finer
returns-clause-finer c =
    let d = c.args.machine.now.dfa.now in
    let outputs = c.args.machine.now.outputs.now in
    let classes = c.args.classes.now in
    let numbers = c.in_ok-numbers.numbers.items in
    let made = c.in_ok-numbers.ensures in
    let wide = c.requires.classes.width in
    IfOk-weaker c.first_places.result _ _
    (λ places are. finer-parts d outputs classes numbers (omega (arith, made.width, wide)) (λ q low. made.are q (omega (arith, low, wide))) c.part_numbers.ensures.states (λ q low. made.outputs q (omega (arith, low, wide))) places.items
    (subst (λ xs. AreFirstPlaces xs places.items) c.deref.ensures.value are))
    c.first_places.ensures
