use Rattle.std.proofs.Common.{◌≡◌, List, map, Ok, sym, ◌∙◌, ap, subst}
use Rattle.std.specs.Rc.{rc_value}
use Rattle.std.proofs.lemmas.List.{length-map}
use Rattle.std.proofs.lemmas.Result.{err_from_is_err_and}
use Rattle.num_system.specs.Sealed.{SystemValue}
use Rattle.word_output.specs.LetterFunctions.{LetterFunctionValue}
use Rattle.word_output.specs.WordReadings.{DoesWordSteps}
use Rattle.word_output.specs.Words.{IsWordValue, WordValue}
use Rattle.word_output.proofs.WordHeaders.{word_tracks}
use Rattle.word_output.proofs.WordSteps.{steps_made, word_is}
use Rattle.word_output.proofs.word_reading.read_word_steps.Goals as goal

pub from_parts-requires : goal.from_parts-requires
from_parts-requires c =
    let systems = map rc_value c.args.systems.now in
    let f = c.in_ok-function.function in
    let made = steps_made systems c.args.listed.now c.args.steps.now c.letter_steps.new.steps f c.in_ok-function.ensures in
    subst (λ (ss : List SystemValue). IsWordValue (record { systems = ss; function = f })) (sym c.in_ok-kept.ensures)
    (word_is systems c.args.listed.now f made c.are_sealed.ensures c.requires.direction
    (word_tracks c.args.listed.now c.requires.word systems (length-map c.args.systems.now rc_value ∙ c.requires.tracks)))

pub returns-in_err-function : goal.returns-in_err-function
returns-in_err-function c =
    let p = err_from_is_err_and c.from_residual-in_err-function.result c.from_residual-in_err-function.ensures.1 in
    rw (p.1, p.2) c.in_err-function.ensures

pub returns : goal.returns
returns c =
    let systems = map rc_value c.args.systems.now in
    let made : c.from_parts.result.function ≡ c.in_ok-function.function = ap (λ (v : WordValue). v.function) c.from_parts.ensures in (
      subst (λ (g : LetterFunctionValue). DoesWordSteps systems c.args.listed.now c.args.steps.now (Ok g) c.letter_steps.new.steps) (sym made) c.in_ok-function.ensures,
      ap (λ (v : WordValue). v.systems) c.from_parts.ensures ∙ c.in_ok-kept.ensures,
    )
