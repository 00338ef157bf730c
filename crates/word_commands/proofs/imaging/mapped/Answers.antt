use Rattle.std.proofs.Common.{◌≡◌, ◌⊎◌, List, map, Err, inr}
use Rattle.std.specs.Prelude.{IfErr}
use Rattle.std.specs.Rc.{rc_value}
use Rattle.digit_tuple.specs.declared.step_fault.StepFault.TheVariants.{Memory}
use Rattle.num_system.specs.Sealed.{SystemValue}
use Rattle.num_system.proofs.LineLemmas.{handed_on}
use Rattle.word_commands.specs.ImageSteps.{DoesMapped}
use Rattle.word_commands.proofs.MappedLemmas.{combining_stopped, image_done, image_made, letters_unmapped, one_shape, usable}
use Rattle.word_commands.proofs.imaging.mapped.Goals as goal

pub letter_parts-requires : goal.letter_parts-requires
letter_parts-requires c = usable c.args.morphism.now c.args.word.now c.args.target.system.now c.args.target.length c.in_ok-setting.setting c.requires.track c.requires.mapped c.in_ok-setting.ensures c.requires.direction

pub returns-in_err-parts-clause-stopped : goal.returns-in_err-parts-clause-stopped
returns-in_err-parts-clause-stopped c =
    let fault = c.in_err-parts.field-0.0 in
    handed_on (λ r. IfErr r (λ f. (f ≡ Memory) ⊎ DoesMapped c.args.morphism.now c.args.word.now c.args.target.system.now c.args.steps.now (Err f) c.letter_parts.new.steps)) c.from_residual-in_err-parts.result fault c.from_residual-in_err-parts.ensures.1
    (letters_unmapped c.args.morphism.now c.args.word.now c.args.target.system.now c.args.target.length c.in_ok-setting.setting c.requires.track c.requires.mapped c.in_ok-setting.ensures c.in_ok-letters.letters.items c.deref.result.now c.in_ok-letters.ensures c.deref.ensures.value
    c.args.steps.now c.letter_parts.new.steps fault c.in_err-parts.ensures.stopped)

pub returns-in-Ok-clause-done : goal.returns-in-Ok-clause-done
returns-in-Ok-clause-done c =
    let systems : List SystemValue = map rc_value c.systems.result.now in
    image_done c.args.morphism.now c.args.word.now c.args.target.system.now c.args.target.length c.in_ok-setting.setting c.requires.track c.requires.mapped c.in_ok-setting.ensures c.systems.ensures.word c.in_ok-letters.letters.items c.deref.result.now c.in_ok-letters.ensures c.deref.ensures.value c.in_ok-parts.parts.items c.deref-2.result.now c.deref-2.ensures.value systems c.systems.ensures.value
    c.args.steps.now c.letter_parts.new.steps c.in_ok-parts.ensures.built c.in_ok-parts.ensures.parts c.in-Ok.image c.combine.new.steps c.in-Ok.ensures

pub returns-in-Ok-clause-image : goal.returns-in-Ok-clause-image
returns-in-Ok-clause-image c =
    let systems : List SystemValue = map rc_value c.systems.result.now in
    image_made c.args.morphism.now c.args.word.now c.args.target.system.now c.args.target.length c.in_ok-setting.setting c.requires.track c.requires.mapped c.in_ok-setting.ensures c.systems.ensures.word c.in_ok-letters.letters.items c.deref.result.now c.in_ok-letters.ensures c.deref.ensures.value c.in_ok-parts.parts.items c.deref-2.result.now c.deref-2.ensures.value systems c.systems.ensures.value
    c.args.steps.now c.letter_parts.new.steps c.in_ok-parts.ensures.built c.in_ok-parts.ensures.parts c.in-Ok.image c.combine.new.steps c.in-Ok.ensures

pub returns-in-Err-Step-clause-stopped : goal.returns-in-Err-Step-clause-stopped
returns-in-Err-Step-clause-stopped c =
    let systems : List SystemValue = map rc_value c.systems.result.now in
    inr (combining_stopped c.args.morphism.now c.args.word.now c.args.target.system.now c.args.target.length c.in_ok-setting.setting c.requires.track c.requires.mapped c.in_ok-setting.ensures c.systems.ensures.word c.in_ok-letters.letters.items c.deref.result.now c.in_ok-letters.ensures c.deref.ensures.value c.in_ok-parts.parts.items c.deref-2.result.now c.deref-2.ensures.value systems c.systems.ensures.value
    c.args.steps.now c.letter_parts.new.steps c.in_ok-parts.ensures.built c.in_ok-parts.ensures.parts c.in-Err-Step.field-0 c.in-Err-Step.fault c.combine.new.steps c.in-Err-Step.field-0-is c.in-Err-Step.ensures)

pub unreachable-requires : goal.unreachable-requires
unreachable-requires c =
    let systems : List SystemValue = map rc_value c.systems.result.now in
    one_shape c.args.morphism.now c.args.word.now c.args.target.system.now c.args.target.length c.in_ok-setting.setting c.requires.track c.requires.mapped c.in_ok-setting.ensures c.systems.ensures.word c.in_ok-letters.letters.items c.deref.result.now c.in_ok-letters.ensures c.deref.ensures.value c.in_ok-parts.parts.items c.deref-2.result.now c.deref-2.ensures.value systems c.systems.ensures.value
    c.args.steps.now c.letter_parts.new.steps c.in_ok-parts.ensures.built c.in_ok-parts.ensures.parts c.in-Err-Shape.field-0 c.in-Err-Shape.field-0-0 c.in-Err-Shape.field-0-1 c.combine.new.steps c.in-Err-Shape.field-0-is c.in-Err-Shape.ensures
